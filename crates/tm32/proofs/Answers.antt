-- Messages that are equal; a reply that was laid over the buffer, as the whole of what a message leaves; and a call that is told no reply.
use Prim.Native.Nat.{ℕ}
use mathlib.Core.Bool.{Bool, true, false, cond, ◌&&◌}
use mathlib.Core.List.{List, [], ◌∷◌}
use mathlib.Core.Path.{◌≡◌, refl, ap, ap₂, ◌∙◌}
use lib.Dec.{eqb}
use lib.Pointwise.{pointwise}
use Rattle.std.specs.Prelude.{Ok}
use Rattle.frame.specs.Frame.{laid}
use Rattle.memory.specs.Stores.{same}
use Rattle.tm32.specs.After.{call_checks, lay, no_reply, replied, tell, telling}
use Rattle.tm32_asks.specs.Checks.{verdict}
use Rattle.tm32.specs.Device.{Device, Memory, device_of}
use Rattle.tm32.specs.Promises.{Laid, lay_answer, leaves, turn_of}
use Rattle.tm32.specs.Respond.{Answered, answered}
use Rattle.tm32.specs.declared.Session.{Session}
use Rattle.tm32.specs.declared.Turn.{Turn}
use Rattle.tm32.specs.declared.Settings.{Settings}

-- two messages are equal where they are the same byte for byte
pub alike : (one other : List ℕ) → pointwise eqb one other ≡ same one other
unfolding same
alike [] [] = refl
alike [] (second ∷ seconds) = refl
alike (first ∷ firsts) [] = refl
alike (first ∷ firsts) (second ∷ seconds) = ap (λ (rest : Bool). eqb first second && rest) (alike firsts seconds)

-- ---- a reply that was laid over the buffer

-- the device and the reply are those of an answer
pub answers : (memory : Memory) {turn : Turn} {after buffer reply : List ℕ} {session : Session} {answer : Answered} → Laid turn after session reply buffer
    → answered (device_of session memory) reply ≡ answer → leaves turn memory after ≡ lay_answer buffer answer
unfolding lay
answers memory {buffer = buffer} did same = ap₂ (λ (one : Turn) (list : List ℕ). leaves one memory list) did.handed did.over ∙ ap (lay_answer buffer) same

-- nothing laid over a buffer
pub nothing_laid : {turn : Turn} {session : Session} (buffer : List ℕ) → turn ≡ turn_of session (Ok 0) → Laid turn buffer session [] buffer
unfolding laid
nothing_laid buffer handed = record { handed = handed; over = refl }

-- ---- a call without a reply

-- of two tellings, only the second has no reply
no_reply_told : (test : Bool) (one other : Device) (bytes : List ℕ) (number told : ℕ) → (cond test (telling one (replied bytes)) (telling other (no_reply number))).told ≡ no_reply told
    → (cond test (telling one (replied bytes)) (telling other (no_reply number))).device ≡ other
no_reply_told true one other bytes number told is = cc
no_reply_told false one other bytes number told is = refl

-- a call without a reply leaves the device as it was, with any lengths
pub without_reply : (settings : Settings) (device : Device) (message : List ℕ) (room number : ℕ) → (tell settings device message room).told ≡ no_reply number
    → (tell settings device message room).device ≡ device
unfolding tell
without_reply settings device message room number is = no_reply_told (eqb (verdict 0 (call_checks device room)) 0) _ device _ _ number is
