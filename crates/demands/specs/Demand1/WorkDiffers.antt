-- Document 01, "A message and its reply" and "When nothing is done": lemmas for demand 1. Of all work only that of Memory CRC can end with a refusal, so each refusal has its reason.
use Rattle.std.specs.Prelude.{ℕ, Bool, true, false, cond, ◌≡◌, eqb, drop}
use Rattle.std.proofs.lemmas.Bool.{false≢true}
use mathlib.Core.List.{List, []}
use Rattle.std.proofs.Math.Path.{refl, subst}
use Rattle.std.proofs.Common.{sym, ap, ◌∙◌}
use Rattle.frame.specs.Crc.{crc}
use Rattle.frame.specs.Frame.{data_of, frame}
use Rattle.tm32_asks.specs.Checks.{checks, none_fails}
use Rattle.tm32.specs.Device.{Device, bytes_at}
use Rattle.tm32_asks.specs.Request.{request_in}
use Rattle.tm32.specs.Respond.{Answered, greet, hello_back, refuse, reply_to}
use Rattle.tm32.specs.Work.{compared, work}
use Rattle.tm32_asks.specs.declared.Request.{Request}
use Rattle.tm32_asks.specs.declared.Request.TheVariants.{Pps, Get, Read, Write, MemoryCrc, Erase, Go, WriteOptions, ReadOptions, HeartBeat, Misshapen}
use Rattle.tm32.specs.declared.Settings.{Settings}
use Rattle.demands.specs.Demand1.Reasons.{Reason, differs, failed, no_hello}
use Rattle.demands.specs.Demand1.Refusals.{is_one_of, is_refusal, refusals}
use Rattle.demands.specs.Demand1.WorkRefused.{write_is_done}
use Rattle.demands.specs.Messages.FirstFailing.{request_checks}
use Rattle.demands.specs.Messages.Ways.{Heard, greeted, no_frame, same_number, silent, turned_away, unshaken, worked_on}

-- The request whose work can end with a refusal.
record Differing (start : ℕ) (device : Device) (request : Request) (number : ℕ) : Type 0 where
  address : ℕ
  count : ℕ
  wanted : ℕ
  asks : request ≡ MemoryCrc address count wanted
  other : eqb (crc start (bytes_at device.memory address count)) wanted ≡ false
  numbered : number ≡ 0xF4

-- a Memory CRC, by whether the two agree
by_crc : (start : ℕ) (device : Device) (address count wanted : ℕ) (equal : Bool) → eqb (crc start (bytes_at device.memory address count)) wanted ≡ equal
    → is_refusal (cond equal 0x90 0xF4) ≡ true → Differing start device (MemoryCrc address count wanted) (cond equal 0x90 0xF4)
unfolding is_refusal is_one_of refusals
by_crc start device address count wanted true same is = absurd (false≢true is)
by_crc start device address count wanted false other is = record { address = address; count = count; wanted = wanted; asks = refl; other = other; numbered = refl }

-- of all work only that of Memory CRC does
work_differs : (settings : Settings) (device : Device) (payload : List ℕ) (request : Request) → none_fails (request_checks device request) ≡ true
    → is_refusal (work settings device payload request).result ≡ true → Differing settings.start device request (work settings device payload request).result
unfolding work compared is_refusal is_one_of refusals none_fails checks
work_differs settings device payload (Pps code) pass is = absurd (false≢true is)
work_differs settings device payload Get pass is = absurd (false≢true is)
work_differs settings device payload (Read address count) pass is = absurd (false≢true is)
work_differs settings device payload (Write flag address count) pass is = absurd (false≢true (sym (write_is_done flag address (drop 5 payload) device) ∙ is))
work_differs settings device payload (MemoryCrc address count wanted) pass is =
    by_crc settings.start device address count wanted (eqb (crc settings.start (bytes_at device.memory address count)) wanted) refl is
work_differs settings device payload (Erase first count) pass is = absurd (false≢true is)
work_differs settings device payload (Go address) pass is = absurd (false≢true is)
work_differs settings device payload WriteOptions pass is = absurd (false≢true is)
work_differs settings device payload ReadOptions pass is = absurd (false≢true is)
work_differs settings device payload HeartBeat pass is = absurd (false≢true is)
work_differs settings device payload Misshapen pass is = absurd (false≢true pass)

module _ (settings : Settings) (device : Device) (message : List ℕ) (number : ℕ) (payload : List ℕ) (refusal : is_refusal number ≡ true) where
  -- by the way of the message
  pub reason_way : (answer : Answered) → Heard settings device message answer → answer.reply ≡ frame settings.start number payload → Reason settings.start device message number
  unfolding greet refuse reply_to
  reason_way answer (silent unheeded) is = absurd (no_frame settings.start [] number payload refl is)
  reason_way answer (greeted here hail) is = absurd (no_frame settings.start hello_back number payload refl is)
  reason_way answer (unshaken asks waits) is = subst (Reason settings.start device message) (same_number settings.start 0x80 number [] payload is) (no_hello asks waits)
  reason_way answer (turned_away asks talks other found) is = failed asks talks number (rw (same_number settings.start other number [] payload is) at found)
  reason_way answer (worked_on asks talks pass) is =
      let result = same_number settings.start _ number _ payload is in
      let found = work_differs settings device (data_of message) (request_in settings.start message) pass (ap is_refusal result ∙ refusal) in
      subst (Reason settings.start device message) (sym found.numbered ∙ result)
      (differs asks talks pass found.address found.count found.wanted found.asks found.other)
