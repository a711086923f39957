-- Document 01, "The bench tape": lemmas for the tape. The player stops for want of room only where it was lent too little. No tape asks it to; room for a record of each message, and one more, is enough; and
-- with room for one record it stops so only once it has played a message.
use Rattle.std.specs.Prelude.{ℕ, suc, ◌+◌, ◌*◌, ◌≤◌, ◌<◌, Bool, true, false, ◌≡◌, length}
use Rattle.std.proofs.lemmas.Bool.{false≢true}
use Rattle.std.proofs.Math.Bool.{true≢false}
use mathlib.Core.List.{List, [], ◌∷◌}
use Rattle.std.proofs.Math.Path.{refl, ap}
use Rattle.std.proofs.Common.{sym, ◌∙◌, le-ltb}
use native.Mathlib.Omega.{arith}
use Rattle.tm32.specs.After.{Told, no_reply, replied, reply_room, tell}
use Rattle.tm32.specs.Device.{Device}
use Rattle.tm32.specs.declared.Settings.{Settings}
use Rattle.tape.specs.Play.{Playing, closing, onward, play, play_tape, record_room, reply_length}
use Rattle.tape.specs.Records.{head_length}
use Rattle.tape.specs.Script.{script_of}
use Rattle.tape.specs.Stops.{Stop, MoreTape, Room, End, Error, Refused}
use Rattle.tape.proofs.Ways.{script_stops}
use Rattle.demands.specs.BenchTape.InPieces.{is_room, message_count}
use Rattle.demands.specs.Demand2.Besides.{reply_fits}
use Rattle.demands.specs.Demand2.Replies.{Sized}

-- no tape asks for room by itself
unroomed : (ends : Bool) (tape : List ℕ) → is_room (script_of ends tape).stop ≡ false
unroomed ends tape = script_stops (λ (why : Stop). is_room why ≡ false) refl refl (λ number. refl) ends 0 tape

-- ---- a play with room enough

-- where there is room for a record, the stop is the one that was found
closing_roomy : (device : Device) (room : ℕ) (stop : Stop) → record_room ≤ room → (closing device room stop).stop ≡ stop
unfolding closing
closing_roomy device room MoreTape large = refl
closing_roomy device room Room large = refl
closing_roomy device room End large = refl
closing_roomy device room (Error number) large = rw (le-ltb room record_room large)
closing_roomy device room (Refused number) large = refl

-- what the device says to a message leads to no such stop by itself
onward_roomy : (device : Device) (used : ℕ) (told : Told) (rest : Playing) → is_room rest.stop ≡ false → is_room (onward device used told rest).stop ≡ false
unfolding onward
onward_roomy device used (replied bytes) rest none = none
onward_roomy device used (no_reply number) rest none = refl

module _ (settings : Settings) (sized : Sized settings) where
  -- a reply fits the room that is kept for it
  reply_short : (device : Device) (message : List ℕ) (told : Told) → (tell settings device message reply_room).told ≡ told → reply_length told ≤ reply_room
  reply_short device message (replied bytes) says = reply_fits settings sized device message reply_room bytes says
  reply_short device message (no_reply number) says = omega arith

  -- so messages are played to the stop behind them
  play_roomy : (stop : Stop) → is_room stop ≡ false → (messages : List (List ℕ)) (device : Device) (room : ℕ) → suc (length messages) * record_room ≤ room
      → is_room (play settings stop device room messages).stop ≡ false
  unfolding play
  play_roomy stop none [] device room large = ap is_room (closing_roomy device room stop (omega arith)) ∙ none
  play_roomy stop none (message ∷ messages) device room large =
      let first = tell settings device message reply_room in
      let short = reply_short device message first.told refl in
      let enough : record_room ≤ room = omega arith in
      rw (le-ltb room record_room enough) (onward_roomy device _ first.told _ (play_roomy stop none messages first.device _ (omega arith)))

  -- and a tape to its end
  pub tape_roomy : (device : Device) (ends : Bool) (room : ℕ) (tape : List ℕ) → suc (message_count ends tape) * record_room ≤ room
      → ¬ ((play_tape settings device ends room tape).stop ≡ Room)
  unfolding play_tape
  tape_roomy device ends room tape large short =
      true≢false (sym (ap is_room short) ∙ play_roomy (script_of ends tape).stop (unroomed ends tape) (script_of ends tape).messages device room large)

-- ---- a play that stops for want of room

-- a reply was written where a message led to such a stop
onward_uses : (device : Device) (size : ℕ) (told : Told) (rest : Playing) → is_room (onward device (head_length + size) told rest).stop ≡ true
    → 0 < (onward device (head_length + size) told rest).used
unfolding onward
onward_uses device size (replied bytes) rest short = omega arith
onward_uses device size (no_reply number) rest short = absurd (false≢true short)

-- so with room for a record there is such a stop only behind a message
play_uses : (settings : Settings) (stop : Stop) (device : Device) (room : ℕ) (messages : List (List ℕ)) → is_room stop ≡ false → record_room ≤ room
    → is_room (play settings stop device room messages).stop ≡ true → 0 < (play settings stop device room messages).used
unfolding play
play_uses settings stop device room [] none large short = absurd (true≢false (sym short ∙ ap is_room (closing_roomy device room stop large) ∙ none))
play_uses settings stop device room (message ∷ messages) none large short =
    rw (le-ltb room record_room large) (onward_uses device (length message) (tell settings device message reply_room).told _ (rw (le-ltb room record_room large) at short))

-- and then some of the tape was used
pub tape_uses : (settings : Settings) (device : Device) (ends : Bool) (room : ℕ) (tape : List ℕ) → record_room ≤ room → is_room (play_tape settings device ends room tape).stop ≡ true
    → 0 < (play_tape settings device ends room tape).used
unfolding play_tape
tape_uses settings device ends room tape large short =
    play_uses settings (script_of ends tape).stop device room (script_of ends tape).messages (unroomed ends tape) large short
