-- Document 01, "A message and its reply" and "When nothing is done": lemmas for demand 1. Work whose result is a refusal changes nothing, and so it is on every way of a message and of a call.
use Rattle.std.specs.Prelude.{ℕ, Bool, ◌||◌, ◌≡◌, eqb, drop, length}
use Rattle.std.proofs.Math.Bool.{true, false, and-eq-true_iff}
use Rattle.std.proofs.lemmas.Bool.{false≢true}
use mathlib.Core.List.{List, [], ◌∷◌}
use Rattle.std.proofs.Math.Path.{refl}
use Rattle.std.proofs.Common.{sym, ap, ◌∙◌, eqb-true}
use Rattle.frame.specs.Frame.{data_of, frame}
use Rattle.memory.specs.Stores.{same}
use Rattle.memory.specs.declared.Programmed.{Programmed}
use Rattle.memory.proofs.Choices.{of_both}
use Rattle.tm32.specs.After.{Refused, Telling, lay, replied}
use Rattle.tm32.specs.Device.{Device, Memory, bytes_at}
use Rattle.tm32_asks.specs.Request.{request_in}
use Rattle.tm32.specs.Respond.{Answered, greet, hello_back, refuse, reply_to, respond}
use Rattle.tm32_asks.specs.Results.{readback_differs, work_done}
use Rattle.tm32.specs.Work.{programmed_result, readback, work, written}
use Rattle.tm32_asks.specs.declared.Request.{Request}
use Rattle.tm32_asks.specs.declared.Request.TheVariants.{Pps, Get, Read, Write, MemoryCrc, Erase, Go, WriteOptions, ReadOptions, HeartBeat, Misshapen}
use Rattle.tm32.specs.declared.Settings.{Settings}
use Rattle.tm32_asks.proofs.Verdicts.{pass_all}
use Rattle.demands.specs.Demand1.Refusals.{is_one_of, is_refusal, refusals}
use Rattle.demands.specs.Messages.FirstFailing.{Called, heard, unheard}
use Rattle.demands.specs.Messages.Ways.{Heard, greeted, heard_so, no_frame, same_number, silent, turned_away, unshaken, worked_on}

-- one more number of a list, by whether it is the one
by_first : (test : ℕ → Bool) (first number : ℕ) → test first ≡ true → (others : Bool) → (others ≡ true → test number ≡ true) → (found : Bool) → eqb number first ≡ found
    → (found || others) ≡ true → test number ≡ true
by_first test first number pass others rest true same is = ap test (eqb-true number first same) ∙ pass
by_first test first number pass others rest false other is = rest is

-- a number that is one of some passes a test that all of them pass
pub one_of_so : (test : ℕ → Bool) (list : List ℕ) (number : ℕ) → pass_all test list ≡ true → is_one_of list number ≡ true → test number ≡ true
unfolding pass_all is_one_of
one_of_so test [] number pass is = absurd (false≢true is)
one_of_so test (first ∷ rest) number pass is =
    let both = (and-eq-true_iff (test first) (pass_all test rest)).0 pass in
    by_first test first number both.0 (is_one_of rest number) (one_of_so test rest number both.1) (eqb number first) refl is

-- what holds of the two results of a write holds of its readback
pub of_readback : (P : ℕ → Type 0) → P work_done → P readback_differs → (flag address : ℕ) (bytes : List ℕ) (after : Memory) → P (readback flag address bytes after)
unfolding readback programmed_result
of_readback P done differs flag address bytes after =
    of_both (λ (answer : Programmed). P (programmed_result flag answer)) (same (bytes_at after address (length bytes)) bytes) done (of_both P (eqb flag 1) differs done)

-- a write is done, with or without readback
pub write_is_done : (flag address : ℕ) (bytes : List ℕ) (device : Device) → is_refusal (readback flag address bytes (written device.memory address bytes)) ≡ false
unfolding is_refusal is_one_of refusals
write_is_done flag address bytes device =
    of_readback (λ (result : ℕ). is_refusal result ≡ false) refl refl flag address bytes (written device.memory address bytes)

module _ (settings : Settings) (device : Device) (payload : List ℕ) where
  -- work whose result is a refusal leaves the device as it was
  work_refused : (request : Request) → is_refusal (work settings device payload request).result ≡ true → (work settings device payload request).device ≡ device
  unfolding work is_refusal is_one_of refusals
  work_refused (Pps code) is = absurd (false≢true is)
  work_refused Get is = refl
  work_refused (Read address count) is = refl
  work_refused (Write flag address count) is = absurd (false≢true (sym (write_is_done flag address (drop 5 payload) device) ∙ is))
  work_refused (MemoryCrc address count wanted) is = refl
  work_refused (Erase first count) is = absurd (false≢true is)
  work_refused (Go address) is = absurd (false≢true is)
  work_refused WriteOptions is = absurd (false≢true is)
  work_refused ReadOptions is = refl
  work_refused HeartBeat is = refl
  work_refused Misshapen is = refl

module _ (settings : Settings) (device : Device) (message : List ℕ) (number : ℕ) (refusal : is_refusal number ≡ true) where
  -- by the way of the message
  pub stays_way : (answer : Answered) → Heard settings device message answer → answer.reply ≡ frame settings.start number [] → answer.device ≡ device
  unfolding greet refuse reply_to
  stays_way answer (silent unheeded) is = refl
  stays_way answer (greeted here hail) is = absurd (no_frame settings.start hello_back number [] refl is)
  stays_way answer (unshaken asks waits) is = refl
  stays_way answer (turned_away asks talks other found) is = refl
  stays_way answer (worked_on asks talks pass) is =
      let result = same_number settings.start _ number _ [] is in
      work_refused settings device (data_of message) (request_in settings.start message) (ap is_refusal result ∙ refusal)

  -- by the way of the call
  pub stays_call : (room : ℕ) (outcome : Telling) → Called settings device message room outcome → outcome.told ≡ replied (frame settings.start number []) → outcome.device ≡ device
  stays_call room outcome (heard pass) is =
      let reply : (respond settings device message).reply ≡ frame settings.start number [] = cc in
      stays_way (respond settings device message) (heard_so settings device message) reply
  stays_call room outcome (unheard other found) is = refl

module _ (settings : Settings) (device : Device) (message : List ℕ) (number : ℕ) where
  -- by the way of the call
  pub both_stay : (buffer : List ℕ) (outcome : Telling) → Called settings device message (length buffer) outcome → (lay buffer outcome.device outcome.told).answer ≡ Refused number
      → ((lay buffer outcome.device outcome.told).device ≡ device) × ((lay buffer outcome.device outcome.told).buffer ≡ buffer)
  unfolding lay
  both_stay buffer outcome (heard pass) is =
      let never : false ≡ true = cc in
      absurd (false≢true never)
  both_stay buffer outcome (unheard other found) is = (refl, refl)
