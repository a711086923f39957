-- Document 01, "The bench tape": the ways that a tape goes, whatever the room for records is. Room only decides where the player stops for want of it.
use Prim.Native.Nat.{ℕ, zero, suc, ◌+◌, ◌≤◌, ◌<◌}
use mathlib.Core.Bool.{Bool, true, false}
use mathlib.Core.List.{List, [], ◌∷◌}
use mathlib.Core.Path.{◌≡◌, refl}
use native.Mathlib.Nat.{le_refl}
use native.Mathlib.Omega.{arith}
use borrow.Author.Tests.{ltb-false, ltb-true}
use lib.Dec.{ltb}
use lib.ListN.{length, drop, length-drop}
use Rattle.std.specs.Prelude.{Ok, Err}
use Rattle.std.proofs.lemmas.Grind.{common_steps}
use Rattle.frame.specs.Frame.{word_at}
use Rattle.tm32.specs.After.{Told, no_reply, replied, reply_room, tell}
use Rattle.tm32.specs.Device.{Device}
use Rattle.tm32.specs.declared.Settings.{Settings}
use Rattle.memory.proofs.Choices.{of_both}
use Rattle.tape.specs.Play.{Playing, behind, closing, play_tape, record_room, reply_kind, stopped}
use Rattle.tape.specs.Records.{body_in, head_length, record_in, record_of}
use Rattle.tape.specs.Script.{Next, headed, next_in, next_of, script_from}
use Rattle.tape.specs.Stops.{Stop, MoreTape, Room, End, Error, Refused}
use Rattle.tape.proofs.Laws.{message_fits, plays_cramped, plays_over, plays_refused, plays_reply}

-- The ways of a tape on a device: no message stands at its start, and the player stops; it stops for want of room, which it may do anywhere; it stops at a message that the device refuses;
-- or the message's reply is recorded, and the rest of the tape goes on.
pub data Goes (settings : Settings) (ends : Bool) : Device → List ℕ → Playing → Type 0 where
  over : {device : Device} {tape : List ℕ} (stop : Stop) → next_in ends tape ≡ Err stop → Goes settings ends device tape (closing device record_room stop)
  cramped : {device : Device} {tape : List ℕ} → Goes settings ends device tape (stopped device Room)
  refused : {device : Device} {tape : List ℕ} (size number : ℕ) → next_in ends tape ≡ Ok size → (tell settings device (body_in tape size) reply_room).told ≡ no_reply number
      → Goes settings ends device tape (stopped device (Refused number))
  onward : {device : Device} {tape : List ℕ} (size : ℕ) (bytes : List ℕ) (rest : Playing) → next_in ends tape ≡ Ok size
      → (tell settings device (body_in tape size) reply_room).told ≡ replied bytes
      → Goes settings ends (tell settings device (body_in tape size) reply_room).device (drop (head_length + size) tape) rest
      → Goes settings ends device tape (behind (head_length + size) (record_of reply_kind bytes) rest)

-- where no message stands, the stop is the one that was found, and nothing is used
pub closing_stop : (device : Device) (stop : Stop) → ((closing device record_room stop).stop ≡ stop) × ((closing device record_room stop).used ≡ 0)
unfolding closing
closing_stop device MoreTape = (refl, refl)
closing_stop device Room = (refl, refl)
closing_stop device End = (refl, refl)
closing_stop device (Error number) = (refl, refl)
closing_stop device (Refused number) = (refl, refl)

-- ---- every play goes one of the ways

-- That a play does.
abbrev PlayGoes : Settings → Bool → Device → ℕ → List ℕ → Type 0
PlayGoes settings ends device room tape = Goes settings ends device tape (play_tape settings device ends room tape)

module _ (settings : Settings) (ends : Bool) where
  -- a stop, with any room
  closes : (device : Device) (room : ℕ) (tape : List ℕ) (stop : Stop) → next_in ends tape ≡ Err stop → Goes settings ends device tape (closing device room stop)
  unfolding closing
  closes device room tape MoreTape is = over MoreTape is
  closes device room tape Room is = over Room is
  closes device room tape End is = over End is
  closes device room tape (Error number) is = of_both (Goes settings ends device tape) (ltb room record_room) cramped (over (Error number) is)
  closes device room tape (Refused number) is = over (Refused number) is

  module _ (device : Device) (room : ℕ) (tape : List ℕ)
      (further : (device' : Device) (room' size : ℕ) → head_length + size ≤ length tape → PlayGoes settings ends device' room' (drop (head_length + size) tape)) where
    -- by what the device says to a message
    by_told : (size : ℕ) (told : Told) → next_in ends tape ≡ Ok size → record_room ≤ room → (tell settings device (body_in tape size) reply_room).told ≡ told
        → PlayGoes settings ends device room tape
    by_told size (replied bytes) is large says =
        rw (plays_reply settings device ends room tape size is bytes large says) (onward size bytes _ is says (further _ _ size (message_fits ends tape size is)))
    by_told size (no_reply number) is large says = rw (plays_refused settings device ends room tape size is number large says) (refused size number is says)

    -- by whether there is room for its reply
    by_room : (size : ℕ) (small : Bool) → next_in ends tape ≡ Ok size → ltb room record_room ≡ small → PlayGoes settings ends device room tape
    by_room size true is small = rw (plays_cramped settings device ends room tape size is (ltb-true _ _ small)) cramped
    by_room size false is large = by_told size (tell settings device (body_in tape size) reply_room).told is (ltb-false _ _ large) refl

    -- by what stands at the start
    by_next : (next : Next) → next_in ends tape ≡ next → PlayGoes settings ends device room tape
    by_next (Ok size) is = by_room size (ltb room record_room) is refl
    by_next (Err stop) is = rw (plays_over settings device ends room tape stop is) (closes device room tape stop is)

  -- tapes shorter than a bound
  goes_within : (bound : ℕ) (device : Device) (room : ℕ) (tape : List ℕ) → length tape < bound → PlayGoes settings ends device room tape
  goes_within zero device room tape short = absurd (omega arith)
  goes_within (suc bound) device room tape short =
      by_next device room tape
      (λ device' room' size fits. goes_within bound device' room' (drop (head_length + size) tape) (rw (length-drop (head_length + size) tape) (omega arith)))
      (next_in ends tape) refl

  -- all tapes
  pub goes_so : (device : Device) (room : ℕ) (tape : List ℕ) → Goes settings ends device tape (play_tape settings device ends room tape)
  goes_so device room tape = goes_within (suc (length tape)) device room tape (le_refl _)

-- ---- only room tells two plays of a tape apart

module _ (settings : Settings) (ends : Bool) where
  -- two ways of a tape that do not stop for want of room are one
  pub one_way : {device : Device} {tape : List ℕ} {one other : Playing} → Goes settings ends device tape one → Goes settings ends device tape other
      → ¬ (one.stop ≡ Room) → ¬ (other.stop ≡ Room) → one ≡ other
  one_way (over stop is) (over stop' is') roomy roomy' = grind arith
  one_way (over stop is) (refused size number is' says) roomy roomy' = grind arith
  one_way (over stop is) (onward size bytes rest is' says goes) roomy roomy' = grind arith
  one_way (over stop is) cramped roomy roomy' = grind arith
  one_way cramped going roomy roomy' = grind arith
  one_way (refused size number is says) (over stop is') roomy roomy' = grind arith
  one_way (refused size number is says) cramped roomy roomy' = grind arith
  one_way (refused size number is says) (refused size' number' is' says') roomy roomy' = grind arith
  one_way (refused size number is says) (onward size' bytes rest is' says' goes) roomy roomy' = grind arith
  one_way (onward size bytes rest is says goes) (over stop is') roomy roomy' = grind arith
  one_way (onward size bytes rest is says goes) cramped roomy roomy' = grind arith
  one_way (onward size bytes rest is says goes) (refused size' number' is' says') roomy roomy' = grind arith
  one_way (onward size bytes rest is says goes) (onward size' bytes' rest' is' says' goes') roomy roomy' =
      let same : size' ≡ size = cc in
      let rests : rest ≡ rest' = one_way goes (rw same at goes') roomy roomy' in
      grind arith

-- ---- why a tape stops by itself

-- What holds of a wish for more, of the end and of every error holds of each stop that a tape has by itself.
module _ (P : Stop → Type 0) (more : P MoreTape) (end : P End) (error : (number : ℕ) → P (Error number)) where
  -- where no message stands
  pub over_stops : (ends : Bool) (tape : List ℕ) (stop : Stop) → next_in ends tape ≡ Err stop → P stop
  unfolding record_in next_of
  over_stops ends tape stop is = grind (arith, common_steps)

  -- and behind its messages
  pub script_stops : (ends : Bool) (passed : ℕ) (tape : List ℕ) → P (script_from ends passed tape).stop
  unfolding script_from headed record_in next_of
  script_stops ends (suc passed) (byte ∷ tape) = script_stops ends passed tape
  script_stops ends zero (byte ∷ tape) = grind (arith, common_steps, script_stops ends (3 + word_at (byte ∷ tape) 0) tape)
  script_stops ends passed [] = grind (arith, common_steps)

-- so where no message stands, the stop is no refusal
pub over_unrefused : (ends : Bool) (tape : List ℕ) (stop : Stop) (number : ℕ) → next_in ends tape ≡ Err stop → ¬ (stop ≡ Refused number)
unfolding record_in next_of
over_unrefused ends tape stop number is same = grind (arith, common_steps)
