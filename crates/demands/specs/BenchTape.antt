-- Document 01, "The bench tape": a tape that is played in pieces, cut anywhere, gives byte for byte what it gives played whole; its replies are those of a run of its messages; and more rights never alter
-- an answer that the player writes, for demand 3. That is so of all plays with room enough for their records: a tape that is played on turn after turn has it where each turn has room for the longest
-- record and there are more turns than messages, and a single play where it has that room once more than there are messages.
-- Words to read, below: `InPieces`, `Shown` and `TwoTapes`. Tapes worked out: `Tapes` and `WrongTapes`. One cut, which is less telling than many pieces: `OneCut`. Lemmas to skip: `Pieces`, `RoomEnough`,
-- `TurnsEnough`, `StillHeard`, `TapeRuns` and `TapesCompared`.
pub mod InPieces
pub mod Shown
pub mod TwoTapes
pub mod Pieces
pub mod RoomEnough
pub mod TurnsEnough
pub mod OneCut
pub mod StillHeard
pub mod TapeRuns
pub mod TapesCompared
pub mod Tapes
pub mod WrongTapes
use Rattle.std.specs.Prelude.{ℕ, suc, ◌*◌, ◌≤◌, ◌<◌, Bool, true, List, [], ◌++◌, ◌≡◌, refl, length}
use Rattle.std.proofs.Common.{sym, ap, ◌∙◌}
use Rattle.tm32.specs.After.{call_checks, reply_room}
use Rattle.tm32_asks.specs.Checks.{verdict}
use Rattle.tm32.specs.Device.{Device}
use Rattle.tm32.specs.Fresh.{fresh_device, fresh_settings, with_start}
use Rattle.tm32_asks.specs.Options.{ProtectAll, option_bytes}
use Rattle.tm32.specs.Run.{run}
use Rattle.tm32.specs.declared.Settings.{Settings}
use Rattle.tape.specs.Play.{play_tape, record_room}
use Rattle.tape.specs.Script.{script_of}
use Rattle.tape.specs.Stops.{Room, Refused}
use Rattle.tape.proofs.Ways.{goes_so, one_way}
use Rattle.demands.specs.BenchTape.InPieces.{Piece, Roomy, all_of, played_in_pieces, message_count, playing_on}
use Rattle.demands.specs.BenchTape.Pieces.{pieces_go, turns_go}
use Rattle.demands.specs.BenchTape.RoomEnough.{tape_roomy}
use Rattle.demands.specs.BenchTape.Shown.{seen_of, shown}
use Rattle.demands.specs.BenchTape.TapeRuns.{fresh_hears, way_heard, way_shown}
use Rattle.demands.specs.BenchTape.TapesCompared.{plays_agree}
use Rattle.demands.specs.BenchTape.TurnsEnough.{pieces_last, turns_last}
use Rattle.demands.specs.BenchTape.TwoTapes.{TapesAgree, sent_by}
use Rattle.demands.specs.Demand2.Replies.{Sized}
use Rattle.demands.specs.Demand3.{more_rights}
use Rattle.demands.specs.Demand3.Grows.{calls_alike}
use Rattle.demands.specs.Demand3.TwoDevices.{AlikeButOptions, permitted_by, spares_options}

-- ---- room enough

module _ (settings : Settings) (device : Device) where
  -- A tape is played on, each turn has room for the record of any reply, and there are more turns than messages. Then the player does not stop for want of room.
  pub turns_enough : (ends : Bool) (rooms tape : List ℕ) → Roomy rooms → message_count ends tape < length rooms → ¬ ((playing_on settings device ends rooms tape).stop ≡ Room)
  turns_enough = turns_last settings device

  -- Such turns give what a single play of the tape gives, in any room in which it does not stop for want of it.
  pub played_on : (ends : Bool) (rooms tape : List ℕ) (room : ℕ) → Roomy rooms → message_count ends tape < length rooms → ¬ ((play_tape settings device ends room tape).stop ≡ Room)
      → playing_on settings device ends rooms tape ≡ play_tape settings device ends room tape
  played_on ends rooms tape room large many roomy =
      one_way settings ends (turns_go settings ends device rooms tape) (goes_so settings ends device room tape) (turns_enough ends rooms tape large many) roomy

  -- The settings have the two bytes of version and the twelve of serial number that the type of the code's settings gives them.
  module _ (sized : Sized settings) where
    -- A single play does not stop for want of room where it has room for the record of any reply once for each message, and once more.
    pub room_enough : (ends : Bool) (room : ℕ) (tape : List ℕ) → suc (message_count ends tape) * record_room ≤ room → ¬ ((play_tape settings device ends room tape).stop ≡ Room)
    room_enough = tape_roomy settings sized device

    -- ---- in pieces

    -- Played in pieces, in any room for each, and then on in more roomy turns than the whole tape has messages, a tape gives what it gives played whole in room enough.
    pub in_pieces : (held rooms : List ℕ) (pieces : List Piece) (room : ℕ) → Roomy rooms → message_count true (held ++ all_of pieces) < length rooms
        → suc (message_count true (held ++ all_of pieces)) * record_room ≤ room
        → played_in_pieces settings device held rooms pieces ≡ play_tape settings device true room (held ++ all_of pieces)
    in_pieces held rooms pieces room large many enough =
        one_way settings true (pieces_go settings rooms device held pieces) (goes_so settings true device room (held ++ all_of pieces))
        (pieces_last settings device held rooms pieces large many) (room_enough true room (held ++ all_of pieces) enough)

-- The bench's own settings have these lengths.
pub fresh_sized : Sized fresh_settings
unfolding fresh_settings
fresh_sized = record { version = refl; serial = refl }

-- ---- a tape is a run of its messages

module _ (settings : Settings) (device : Device) where
  -- A play that stops neither for want of room nor at a message that is refused shows what the tape is to show. What room is enough, `room_enough` tells.
  pub tape_runs : (ends : Bool) (room : ℕ) (tape : List ℕ) → ¬ ((play_tape settings device ends room tape).stop ≡ Room)
      → ((number : ℕ) → ¬ ((play_tape settings device ends room tape).stop ≡ Refused number))
      → seen_of (play_tape settings device ends room tape) ≡ shown settings device ends tape
  tape_runs ends room tape roomy heard = way_shown settings ends (goes_so settings ends device room tape) roomy heard

  module _ (hears : verdict 0 (call_checks device reply_room) ≡ 0) where
    -- On a device that passes the checks of a call no play stops at a message that is refused.
    pub heard_throughout : (ends : Bool) (room : ℕ) (tape : List ℕ) (number : ℕ) → ¬ ((play_tape settings device ends room tape).stop ≡ Refused number)
    heard_throughout ends room tape number = way_heard settings ends number (goes_so settings ends device room tape) hears

    -- Pieces of any size, played on such a device in any room, and then on in more roomy turns than there are messages, show what the whole tape is to show.
    pub whole_tape : (rooms : List ℕ) (pieces : List Piece) → Roomy rooms → message_count true (all_of pieces) < length rooms
        → seen_of (played_in_pieces settings device [] rooms pieces) ≡ shown settings device true (all_of pieces)
    whole_tape rooms pieces large many =
        let goes = pieces_go settings rooms device [] pieces in
        way_shown settings true goes (pieces_last settings device [] rooms pieces large many) (λ number. way_heard settings true number goes hears)

-- Pieces of any size, played on the bench in any room, and then on in more roomy turns than there are messages, show what the whole tape is to show.
pub bench_tape : (rooms : List ℕ) (pieces : List Piece) → Roomy rooms → message_count true (all_of pieces) < length rooms
    → seen_of (played_in_pieces fresh_settings fresh_device [] rooms pieces) ≡ shown fresh_settings fresh_device true (all_of pieces)
bench_tape rooms pieces large many = whole_tape fresh_settings fresh_device fresh_hears rooms pieces large many

-- And so they do on the bench with any other start value of the CRC, whose settings have the same lengths.
pub started_tape : (start : ℕ) (rooms : List ℕ) (pieces : List Piece) → Roomy rooms → message_count true (all_of pieces) < length rooms
    → seen_of (played_in_pieces (with_start fresh_settings start) fresh_device [] rooms pieces) ≡ shown (with_start fresh_settings start) fresh_device true (all_of pieces)
started_tape start rooms pieces large many = whole_tape (with_start fresh_settings start) fresh_device fresh_hears rooms pieces large many

pub started_sized : (start : ℕ) → Sized (with_start fresh_settings start)
started_sized start = record { version = fresh_sized.version; serial = fresh_sized.serial }

-- ---- two tapes

module _ (settings : Settings) (strict loose : Device) (alike : AlikeButOptions strict loose) (protects : ProtectAll (option_bytes strict.memory.nvr) (option_bytes loose.memory.nvr)) where
  -- Two devices, the first of which protects all that the second does, are alike but for their option bytes, and hear messages. Both have the same settings, the CRC's start value among them. A tape is
  -- played on the first. No message of it reads or writes the option bytes. Another tape has the same messages but for those that the first device refuses for protection, ends as the first tape does,
  -- and is played on the second device. Then the two plays agree, if neither stops for want of room. What room is enough, `room_enough` tells.
  pub two_tapes : verdict 0 (call_checks strict reply_room) ≡ 0
      → (ends : Bool) (tape other : List ℕ) (room other_room : ℕ)
      → spares_options settings strict (sent_by ends tape) ≡ true
      → sent_by ends other ≡ permitted_by settings strict (sent_by ends tape)
      → (script_of ends other).stop ≡ (script_of ends tape).stop
      → ¬ ((play_tape settings strict ends room tape).stop ≡ Room)
      → ¬ ((play_tape settings loose ends other_room other).stop ≡ Room)
      → TapesAgree (run settings strict (sent_by ends tape)).told (script_of ends tape).stop (play_tape settings strict ends room tape) (play_tape settings loose ends other_room other)
  two_tapes hears ends tape other room other_room spared left stops roomy other_roomy =
      let loose_hears = sym (ap (verdict 0) (calls_alike strict loose reply_room alike)) ∙ hears in
      plays_agree settings strict loose ends tape other (tape_runs settings strict ends room tape roomy (heard_throughout settings strict hears ends room tape))
      (tape_runs settings loose ends other_room other other_roomy (heard_throughout settings loose loose_hears ends other_room other)) stops
      (rw (sym left) at (more_rights settings strict loose (sent_by ends tape) alike protects spared))
