-- Document 01, "The bench tape": lemmas for the tape. A turn with room for a record that still wants room has played a message; so more turns than messages are enough.
use Rattle.std.specs.Prelude.{ℕ, ◌+◌, ◌≤◌, ◌<◌, min, Bool, cond, ◌≡◌, length, drop}
use Rattle.std.proofs.Math.Bool.{true, false}
use Rattle.std.proofs.Common.{true≢false, sym, ap, ◌∙◌, arith, drop-drop}
use mathlib.Core.List.{List, [], ◌∷◌, ◌++◌, append_assoc, append-nil}
use Rattle.std.proofs.Math.Path.{refl}
use Rattle.tm32.specs.Device.{Device}
use Rattle.tm32.specs.declared.Settings.{Settings}
use Rattle.memory.proofs.Choices.{of_test}
use Rattle.tape.specs.Play.{Playing, behind, play_tape, record_room}
use Rattle.tape.specs.Records.{head_length}
use Rattle.tape.specs.Script.{Script}
use Rattle.tape.specs.Stops.{Stop, Room}
use Rattle.tape.proofs.Laws.{message_stands, next_message}
use Rattle.tape.proofs.Longer.{message_is, message_longer, rest_longer}
use Rattle.tape.proofs.Ways.{Goes, closing_stop, cramped, goes_so, onward, over, refused}
use Rattle.demands.specs.BenchTape.InPieces.{Piece, Roomy, all_of, played_in_pieces, is_room, message_count, no_turn, playing_on, turn, wants}
use Rattle.demands.specs.BenchTape.RoomEnough.{tape_uses}

-- ---- the messages that are left

module _ (settings : Settings) (ends : Bool) (more : List ℕ) where
  -- are no more than there were, and fewer where any of the tape was used
  messages_left : {early : Bool} {device : Device} {tape : List ℕ} {first : Playing} → Goes settings early device tape first
      → message_count ends (drop first.used tape ++ more) + min 1 first.used ≤ message_count ends (tape ++ more)
  messages_left {early} {device} (over stop is) = rw (closing_stop device stop).1 (omega arith)
  messages_left cramped = omega arith
  messages_left (refused size number is says) = omega arith
  messages_left {early} {device} {tape} (onward size bytes next said says begun) =
      let is = message_is false tape size (message_stands early tape size said) in
      let counted = ap (λ (script : Script). length script.messages) (next_message ends (tape ++ more) size (message_longer tape more size is ends)) in
      let left = messages_left begun in
      rw (counted, rest_longer tape more size is, ← drop-drop next.used (head_length + size) tape) (omega arith)

-- ---- turns

-- a player that goes on wherever it wants room wants none in the end if what comes last does not
last_roomy : (further : Stop → Bool) (first rest : Playing) → further Room ≡ true → (further first.stop ≡ true → ¬ (rest.stop ≡ Room))
    → ¬ ((cond (further first.stop) (behind first.used first.records rest) first).stop ≡ Room)
last_roomy further first rest always roomy =
    of_test (λ (done : Playing). ¬ (done.stop ≡ Room)) (further first.stop) roomy (λ done short. true≢false (sym always ∙ ap further (sym short) ∙ done))

module _ (settings : Settings) where
  -- a turn that wants room leaves fewer messages
  turn_fewer : (device : Device) (ends : Bool) (room : ℕ) (tape : List ℕ) → record_room ≤ room → is_room (play_tape settings device ends room tape).stop ≡ true
      → message_count ends (drop (play_tape settings device ends room tape).used tape) < message_count ends tape
  turn_fewer device ends room tape large short =
      let used = tape_uses settings device ends room tape large short in
      let left = simp append-nil at (messages_left settings ends [] (goes_so settings ends device room tape)) in
      omega arith

  -- so the last of more turns than messages wants none
  pub turns_last : (device : Device) (ends : Bool) (rooms tape : List ℕ) → Roomy rooms → message_count ends tape < length rooms
      → ¬ ((playing_on settings device ends rooms tape).stop ≡ Room)
  unfolding playing_on
  turns_last device ends [] tape no_turn many = absurd (omega arith)
  turns_last device ends (room ∷ rooms) tape (turn large roomy) many =
      let first = play_tape settings device ends room tape in
      last_roomy is_room first _ refl
      (λ short. turns_last first.device ends rooms (drop first.used tape) roomy (omega (arith, turn_fewer device ends room tape large short)))

  -- nor does it behind pieces
  pub pieces_last : (device : Device) (held rooms : List ℕ) (pieces : List Piece) → Roomy rooms → message_count true (held ++ all_of pieces) < length rooms
      → ¬ ((played_in_pieces settings device held rooms pieces).stop ≡ Room)
  unfolding all_of played_in_pieces
  pieces_last device held rooms [] roomy many = turns_last device true rooms held roomy (rw append-nil at many)
  pieces_last device held rooms (piece ∷ pieces) roomy many =
      let tape = held ++ piece.bytes in
      let first = play_tape settings device false piece.room tape in
      let left = messages_left settings true (all_of pieces) (goes_so settings false device piece.room tape) in
      let all = rw (← append_assoc held piece.bytes (all_of pieces)) at many in
      last_roomy wants first _ refl (λ waits. pieces_last first.device (drop first.used tape) rooms pieces roomy (omega arith))
