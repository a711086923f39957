-- Document 01, "The bench tape": lemmas for the tape. A tape that goes on behind a cut, one that is played in turns, and pieces of a tape go a way of the whole.
use Rattle.std.specs.Prelude.{ℕ, ◌+◌, Bool, cond, ◌≡◌, refl, drop}
use Rattle.std.proofs.Math.Bool.{true, false, true≢false}
use Rattle.std.proofs.lemmas.Bool.{false≢true}
use mathlib.Core.List.{List, [], ◌∷◌, ◌++◌, append_assoc, append-nil}
use Rattle.std.proofs.Common.{sym, ap, ◌∙◌, add_assoc, drop-drop}
use Rattle.std.proofs.Math.Nat.{zero-add}
use Rattle.tm32.specs.Device.{Device}
use Rattle.tm32.specs.declared.Settings.{Settings}
use Rattle.memory.proofs.Choices.{of_test}
use Rattle.tape.specs.Play.{Playing, behind, closing, play_tape, record_room}
use Rattle.tape.specs.Records.{head_length}
use Rattle.tape.specs.Stops.{Stop, MoreTape, Room, End, Error, Refused}
use Rattle.tape.proofs.Laws.{message_stands}
use Rattle.tape.proofs.Longer.{body_longer, message_is, message_longer, over_longer, rest_longer}
use Rattle.tape.proofs.Ways.{Goes, cramped, goes_so, onward, over, refused}
use Rattle.demands.specs.BenchTape.InPieces.{Piece, all_of, played_in_pieces, is_room, playing_on, wants}

-- ---- a tape that goes on

module _ (settings : Settings) (ends : Bool) (more : List ℕ) where
  -- a tape without a message, by why the player stopped
  stop_goes_on : (device : Device) (tape : List ℕ) (stop : Stop) (rest : Playing) → wants (closing device record_room stop).stop ≡ true
      → Goes settings ends (closing device record_room stop).device (drop (closing device record_room stop).used tape ++ more) rest
      → Goes settings ends device (tape ++ more) (behind (closing device record_room stop).used (closing device record_room stop).records rest)
  unfolding closing
  stop_goes_on device tape MoreTape rest waits goes = rw zero-add goes
  stop_goes_on device tape Room rest waits goes = rw zero-add goes
  stop_goes_on device tape End rest waits goes = absurd (false≢true waits)
  stop_goes_on device tape (Error number) rest waits goes = absurd (false≢true waits)
  stop_goes_on device tape (Refused number) rest waits goes = absurd (false≢true waits)

  -- where the player waits, what comes of the rest comes behind what it did
  pub goes_on : {early : Bool} {device : Device} {tape : List ℕ} {first : Playing} (rest : Playing) → Goes settings early device tape first → wants first.stop ≡ true
      → Goes settings ends first.device (drop first.used tape ++ more) rest → Goes settings ends device (tape ++ more) (behind first.used first.records rest)
  goes_on {early} {device} {tape} rest (over stop is) waits goes = stop_goes_on device tape stop rest waits goes
  goes_on rest cramped waits goes = rw zero-add goes
  goes_on rest (refused size number is says) waits goes = absurd (false≢true waits)
  goes_on {early} {device} {tape} rest (onward size bytes next said says begun) waits goes =
      let is = message_is false tape size (message_stands early tape size said) in
      let behind_next = goes_on rest begun waits (rw drop-drop goes) in
      rw (add_assoc (head_length + size) next.used rest.used, append_assoc)
      (onward {device = device} size bytes (behind next.used next.records rest) (message_longer tape more size is ends) (rw (body_longer tape more size is) says)
      (rw (body_longer tape more size is, rest_longer tape more size is) behind_next))

  -- where it does not, more tape changes nothing
  pub is_done : {device : Device} {tape : List ℕ} {first : Playing} → Goes settings false device tape first → wants first.stop ≡ false → Goes settings ends device (tape ++ more) first
  unfolding closing
  is_done {device} {tape} (over stop is) done =
      over stop (over_longer tape more ends stop is (λ wish. true≢false (sym (ap (λ (why : Stop). wants (closing device record_room why).stop) wish) ∙ done)))
  is_done cramped done = absurd (true≢false done)
  is_done {device} {tape} (refused size number is says) done = refused {device = device} size number (message_longer tape more size is ends) (rw (body_longer tape more size is) says)
  is_done {device} {tape} (onward size bytes next is says begun) done =
      onward {device = device} size bytes next (message_longer tape more size is ends) (rw (body_longer tape more size is) says)
      (rw (body_longer tape more size is, rest_longer tape more size is) (is_done begun done))

  -- by whether it waits
  by_wish : (device : Device) (tape : List ℕ) (first rest : Playing) → Goes settings false device tape first
      → Goes settings ends first.device (drop first.used tape ++ more) rest
      → Goes settings ends device (tape ++ more) (cond (wants first.stop) (behind first.used first.records rest) first)
  by_wish device tape first rest begun goes =
      of_test (Goes settings ends device (tape ++ more)) (wants first.stop) (λ waits. goes_on rest begun waits goes) (λ done. is_done begun done)

-- ---- all turns

-- the one stop that is for want of room
stopped_for_room : (stop : Stop) → is_room stop ≡ true → stop ≡ Room
stopped_for_room MoreTape wanted = absurd (false≢true wanted)
stopped_for_room Room wanted = refl
stopped_for_room End wanted = absurd (false≢true wanted)
stopped_for_room (Error number) wanted = absurd (false≢true wanted)
stopped_for_room (Refused number) wanted = absurd (false≢true wanted)

module _ (settings : Settings) (ends : Bool) where
  -- a turn that wants room, and the turns behind it
  wants_on : (device : Device) (tape : List ℕ) (first rest : Playing) → Goes settings ends device tape first → is_room first.stop ≡ true
      → Goes settings ends first.device (drop first.used tape) rest → Goes settings ends device tape (behind first.used first.records rest)
  wants_on device tape first rest begun wanted goes =
      rw append-nil at (goes_on settings ends [] rest begun (ap wants (stopped_for_room first.stop wanted)) (rw append-nil goes))

  -- turns go a way of the tape
  pub turns_go : (device : Device) (rooms tape : List ℕ) → Goes settings ends device tape (playing_on settings device ends rooms tape)
  unfolding playing_on
  turns_go device [] tape = cramped
  turns_go device (room ∷ rooms) tape =
      let first = play_tape settings device ends room tape in
      let begun = goes_so settings ends device room tape in
      of_test (Goes settings ends device tape) (is_room first.stop) (λ wanted. wants_on device tape first _ begun wanted (turns_go first.device rooms (drop first.used tape)))
      (λ done. begun)

-- ---- all pieces

module _ (settings : Settings) (rooms : List ℕ) where
  -- pieces go a way of the whole tape
  pub pieces_go : (device : Device) (held : List ℕ) (pieces : List Piece) → Goes settings true device (held ++ all_of pieces) (played_in_pieces settings device held rooms pieces)
  unfolding all_of played_in_pieces
  pieces_go device held [] = rw append-nil (turns_go settings true device rooms held)
  pieces_go device held (piece ∷ pieces) =
      let first = play_tape settings device false piece.room (held ++ piece.bytes) in
      rw (← append_assoc held piece.bytes (all_of pieces))
      (by_wish settings true (all_of pieces) device (held ++ piece.bytes) first _ (goes_so settings false device piece.room (held ++ piece.bytes))
      (pieces_go first.device (drop first.used (held ++ piece.bytes)) pieces))
