-- Document 01, "A message and its reply": lemmas for demand 2. Only work done has data in its reply, and of it only that of Get, Read and Read options.
use Rattle.std.specs.Prelude.{ℕ, ◌+◌, ◌≤◌, false, ◌≡◌}
use Rattle.std.proofs.Common.{true≢false, sym, ◌∙◌, arith, drop_of_length-le}
use mathlib.Core.List.{List, []}
use Rattle.std.proofs.Math.Path.{refl, ap}
use Rattle.std.proofs.Math.Dec.{lit≤}
use Rattle.std.proofs.Math.ListN.{length}
use Rattle.frame.specs.Frame.{data_of, frame}
use Rattle.frame.proofs.Laws.{length_frame}
use Rattle.tm32.specs.Device.{Device}
use Rattle.tm32_asks.specs.Request.{request_in}
use Rattle.tm32.specs.Respond.{Answered, greet, hello_back, refuse, reply_to, respond}
use Rattle.tm32_asks.specs.Results.{no_handshake, work_done}
use Rattle.tm32.specs.Work.{work}
use Rattle.tm32_asks.specs.declared.Request.{Request}
use Rattle.tm32_asks.specs.declared.Request.TheVariants.{Pps, Get, Read, Write, MemoryCrc, Erase, Go, WriteOptions, ReadOptions, HeartBeat, Misshapen}
use Rattle.tm32.specs.declared.Settings.{Settings}
use Rattle.demands.specs.Demand2.Replies.{tells_data}
use Rattle.demands.specs.Messages.Ways.{Heard, greeted, heard_so, no_frame, same_number, silent, turned_away, unshaken, worked_on}

-- the reply to the work of any other has none
pub no_data : (settings : Settings) (device : Device) (payload : List ℕ) (request : Request) → tells_data request ≡ false → (work settings device payload request).payload ≡ []
unfolding tells_data work
no_data settings device payload (Pps code) other = refl
no_data settings device payload Get other = absurd (true≢false other)
no_data settings device payload (Read address count) other = absurd (true≢false other)
no_data settings device payload (Write flag address count) other = refl
no_data settings device payload (MemoryCrc address count wanted) other = refl
no_data settings device payload (Erase first count) other = refl
no_data settings device payload (Go address) other = refl
no_data settings device payload WriteOptions other = refl
no_data settings device payload ReadOptions other = absurd (true≢false other)
no_data settings device payload HeartBeat other = refl
no_data settings device payload Misshapen other = refl

-- and where the work is not done, none at all has
pub not_done : (settings : Settings) (device : Device) (payload : List ℕ) (request : Request) → ((work settings device payload request).result ≡ work_done → ⊥)
    → (work settings device payload request).payload ≡ []
unfolding work
not_done settings device payload (Pps code) other = refl
not_done settings device payload Get other = absurd (other refl)
not_done settings device payload (Read address count) other = absurd (other refl)
not_done settings device payload (Write flag address count) other = refl
not_done settings device payload (MemoryCrc address count wanted) other = refl
not_done settings device payload (Erase first count) other = refl
not_done settings device payload (Go address) other = refl
not_done settings device payload WriteOptions other = refl
not_done settings device payload ReadOptions other = absurd (other refl)
not_done settings device payload HeartBeat other = refl
not_done settings device payload Misshapen other = refl

-- a frame that is one without data has none
bare : (start one other : ℕ) (payload : List ℕ) → frame start one [] ≡ frame start other payload → payload ≡ []
bare start one other payload is =
    let sizes : 0 + 6 ≡ length payload + 6 = sym (length_frame start one []) ∙ ap length is ∙ length_frame start other payload in
    drop_of_length-le payload {i = 0} (omega arith)

module _ (settings : Settings) (device : Device) (message : List ℕ) where
  -- by the way of the message
  pub bare_way : (number : ℕ) (payload : List ℕ) (answer : Answered) → Heard settings device message answer → answer.reply ≡ frame settings.start number payload
      → (number ≡ work_done → ⊥) → payload ≡ []
  unfolding greet refuse reply_to
  bare_way number payload answer (silent unheeded) is other = absurd (no_frame settings.start [] number payload refl is)
  bare_way number payload answer (greeted here hail) is other = absurd (no_frame settings.start hello_back number payload refl is)
  bare_way number payload answer (unshaken asks waits) is other = bare settings.start no_handshake number payload is
  bare_way number payload answer (turned_away asks talks first found) is other = bare settings.start first number payload is
  bare_way number payload answer (worked_on asks talks pass) is other =
      let none = not_done settings device (data_of message) (request_in settings.start message) (λ done. other (sym (same_number settings.start _ number _ payload is) ∙ done)) in
      bare settings.start _ number payload (rw none at is)

  -- by the way of the message
  by_request : (answer : Answered) → Heard settings device message answer → tells_data (request_in settings.start message) ≡ false → length answer.reply ≤ 6
  unfolding greet refuse reply_to
  by_request answer (silent unheeded) other = lit≤ tt
  by_request answer (greeted here hail) other = lit≤ tt
  by_request answer (unshaken asks waits) other = omega (arith, length_frame settings.start no_handshake [])
  by_request answer (turned_away asks talks number found) other = omega (arith, length_frame settings.start number [])
  by_request answer (worked_on asks talks pass) other =
      let done = work settings device (data_of message) (request_in settings.start message) in
      omega (arith, length_frame settings.start done.result done.payload, ap length (no_data settings device (data_of message) (request_in settings.start message) other))

  -- and the reply to any other request than those three is no longer than a frame without data
  pub only_three : tells_data (request_in settings.start message) ≡ false → length (respond settings device message).reply ≤ 6
  only_three other = by_request (respond settings device message) (heard_so settings device message) other
