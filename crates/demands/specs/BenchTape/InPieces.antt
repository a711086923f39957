-- Document 01, "The bench tape": a tape that comes in pieces, and one that is played in turns. Definitions only.
use Rattle.std.specs.Prelude.{ℕ, ◌≤◌, Bool, true, false, cond, List, [], ◌∷◌, ◌++◌, length, drop}
use Rattle.tm32.specs.Device.{Device}
use Rattle.tm32.specs.declared.Settings.{Settings}
use Rattle.tape.specs.Play.{Playing, behind, play_tape, record_room, stopped}
use Rattle.tape.specs.Script.{script_of}
use Rattle.tape.specs.Stops.{Stop, MoreTape, Room, End, Error, Refused}

-- How many messages a tape holds.
abbrev pub message_count : Bool → List ℕ → ℕ
message_count ends tape = length (script_of ends tape).messages

-- ---- in turns

-- Whether the player stopped for want of room.
abbrev pub is_room : Stop → Bool
is_room MoreTape = false
is_room Room = true
is_room End = false
is_room (Error number) = false
is_room (Refused number) = false

-- A tape played on for as long as the player stops for want of room: turn after turn, each in room of its own, and what was not used is played again in the next. Where no turn is left, room is still
-- wanted.
unfoldable pub playing_on : Settings → Device → Bool → List ℕ → List ℕ → Playing
playing_on settings device ends [] tape = stopped device Room
playing_on settings device ends (room ∷ rooms) tape =
    let first : Playing = play_tape settings device ends room tape in
    let rest : Playing = playing_on settings first.device ends rooms (drop first.used tape) in
    cond (is_room first.stop) (behind first.used first.records rest) first

-- That each turn has room for the record of any reply.
pub data Roomy : List ℕ → Type 0 where
  no_turn : Roomy []
  turn : {room : ℕ} {rooms : List ℕ} → record_room ≤ room → Roomy rooms → Roomy (room ∷ rooms)

-- ---- in pieces

-- A piece of a tape as it comes in, and the room for records when it is played. A turn for which nothing is read, since the one before it stopped for want of room, is a piece with no bytes.
pub record Piece : Type 0 where
  pub bytes : List ℕ
  pub room : ℕ

-- Whether the player goes on once it is handed more: it wished for more tape, or for more room. At any other stop it is done.
abbrev pub wants : Stop → Bool
wants MoreTape = true
wants Room = true
wants End = false
wants (Error number) = false
wants (Refused number) = false

-- The bytes of all pieces, one behind the other.
unfoldable pub all_of : List Piece → List ℕ
all_of [] = []
all_of (piece ∷ pieces) = piece.bytes ++ all_of pieces

-- Pieces played one after the other. What the player did not use of a piece is held, and stands before the next. The input goes on behind each piece; behind the last it has ended,
-- and what is held is played on with that said, in the rooms of the last turns.
unfoldable pub played_in_pieces : Settings → Device → List ℕ → List ℕ → List Piece → Playing
played_in_pieces settings device held rooms [] = playing_on settings device true rooms held
played_in_pieces settings device held rooms (piece ∷ pieces) =
    let first : Playing = play_tape settings device false piece.room (held ++ piece.bytes) in
    let rest : Playing = played_in_pieces settings first.device (drop first.used (held ++ piece.bytes)) rooms pieces in
    cond (wants first.stop) (behind first.used first.records rest) first
