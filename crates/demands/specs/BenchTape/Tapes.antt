-- Document 01, "The bench tape": tapes played on the fresh device, worked out by the checker: the records that are written, why the player stops, and every byte of the device
-- afterwards. The tape that 01 prints comes first, then both sides of each bound of a record.
use Rattle.std.specs.Prelude.{ℕ, Bool, true, false, List, [], ◌∷◌, ◌++◌, ◌≡◌, refl, length, replicate}
use Rattle.frame.specs.Crc.{bit_done, bits_done, byte_done, crc, polynomial, shifted}
use Rattle.frame.specs.Frame.{covered, data_of, frame, reading, word, word_at}
use Rattle.memory.specs.Stores.{part, replaced, same}
use Rattle.tm32.specs.After.{call_checks, tell}
use Rattle.tm32_asks.specs.Checks.{checks, protections, verdict}
use Rattle.tm32.specs.Device.{Device}
use Rattle.tm32.specs.Fresh.{fresh_device, fresh_flash, fresh_nvr, fresh_options, fresh_ram, fresh_settings}
use Rattle.tm32_asks.specs.Numbers.{from_one_to}
use Rattle.tm32_asks.specs.Options.{option_bytes}
use Rattle.tm32_asks.specs.Request.{exactly, reading_result, request_in, request_of}
use Rattle.tm32.specs.Respond.{greet, refuse, reply_to, respond, serve, verdict_on}
use Rattle.tm32.specs.Work.{work}
use Rattle.tm32.specs.declared.State.TheVariants.{Waiting}
use Rattle.tape.specs.Play.{closing, onward, play, play_tape}
use Rattle.tape.specs.Records.{body_in, head_of, record_in, record_of}
use Rattle.tape.specs.Script.{headed, next_of, script_from}
use Rattle.tape.specs.Stops.{Stop, End, Error, MoreTape}
use Rattle.cases.specs.Cases.{blank_device, blank_flash, on_bench}
use Rattle.cases.specs.Wire.{halfwords, heart_beat, hex, little, off, options}
use Rattle.demands.specs.BenchTape.Shown.{Seen, seen, seen_of}

-- A tape, whether the input ends behind it, and all that must come of it.
pub record Tape : Type 0 where
  pub bytes : List ℕ
  pub ends : Bool
  pub right : Seen

-- What the definitions make of each tape, with 4,096 bytes of room for records, and what is right.
unfoldable pub computed : List Tape → List Seen
computed [] = []
computed (one ∷ rest) = seen_of (play_tape fresh_settings fresh_device one.ends 4096 one.bytes) ∷ computed rest

unfoldable pub expected : List Tape → List Seen
expected [] = []
expected (one ∷ rest) = one.right ∷ expected rest

-- A tape behind which the input ends, and one behind which it goes on.
abbrev pub whole : List ℕ → Device → List ℕ → Stop → Tape
whole bytes device records stop = record { bytes = bytes; ends = true; right = seen device records stop }

abbrev pub begun : List ℕ → Device → List ℕ → Stop → Tape
begun bytes device records stop = record { bytes = bytes; ends = false; right = seen device records stop }

-- The fresh device as it was, and after a handshake.
abbrev pub untouched : Device
untouched = on_bench Waiting blank_flash off

abbrev pub shaken_hands : Device
shaken_hands = blank_device off

-- A record of some kind, whose head says how long its body is.
abbrev pub of_kind : ℕ → List ℕ → List ℕ
of_kind kind body = little 2 (length body) ++ little 2 kind ++ body

-- The record that tells what is wrong with a tape, as it stands on the wire.
abbrev pub error_record : ℕ → List ℕ
error_record number = 0x01 ∷ 0x00 ∷ 0xFF ∷ 0x00 ∷ number ∷ []

-- A tape of which nothing comes but the record of what is wrong: found where the input ends, and found although it goes on.
abbrev pub wrong : List ℕ → ℕ → Tape
wrong bytes number = whole bytes untouched (error_record number) (Error number)

abbrev pub wrong_already : List ℕ → ℕ → Tape
wrong_already bytes number = begun bytes untouched (error_record number) (Error number)

-- The tape that 01 prints, and the replies that it prints.
unfoldable pub printed_tape : List Tape
printed_tape = whole (hex 15 0x010001007F060001002D4100005524) shaken_hands (hex 15 0x0100020079060002002D900000F176) End ∷ []

-- Tapes that end before a record, in a head (behind its first byte, and before its last), and in a body (before its first byte, and before its last). Where the input goes on, more tape is
-- wished for instead.
unfoldable pub cut_tapes : List Tape
cut_tapes =
    whole [] untouched [] End
    ∷ begun [] untouched [] MoreTape
    ∷ wrong (hex 1 0x06) 1
    ∷ wrong (hex 3 0x060001) 1
    ∷ begun (hex 3 0x060001) untouched [] MoreTape
    ∷ wrong (hex 4 0x06000100) 1
    ∷ wrong (hex 9 0x060001002D41000055) 1
    ∷ begun (hex 9 0x060001002D41000055) untouched [] MoreTape
    ∷ []

-- A body of 2,048 bytes is a message, here one that is refused for want of a handshake. One byte more is wrong, and so is every kind but 1, also one whose low byte is 1. The length is judged
-- before the kind, and both before the body is there.
unfoldable pub judged_heads : List Tape
judged_heads =
    whole (of_kind 1 (replicate 2048 0x55)) untouched (hex 10 0x060002002D8000009235) End
    ∷ wrong (of_kind 1 (replicate 2049 0x55)) 3
    ∷ wrong (of_kind 2 (replicate 2048 0x55)) 2
    ∷ wrong (of_kind 2 (replicate 2049 0x55)) 3
    ∷ wrong (of_kind 0 []) 2
    ∷ wrong (of_kind 0x0101 []) 2
    ∷ wrong (hex 4 0x00080200) 2
    ∷ wrong_already (hex 4 0x00080200) 2
    ∷ wrong_already (hex 4 0x01080100) 3
    ∷ wrong_already (hex 4 0x01080200) 3
    ∷ []

-- An empty message draws an empty reply, which has a record too; and behind a record that is wrong nothing is played.
unfoldable pub other_tapes : List Tape
other_tapes =
    whole (of_kind 1 []) untouched (hex 4 0x00000200) End
    ∷ whole (of_kind 1 (0x7F ∷ []) ++ of_kind 2 [] ++ of_kind 1 heart_beat) shaken_hands (hex 5 0x0100020079 ++ error_record 2) (Error 2)
    ∷ []

-- All of them, as one list.
unfoldable pub worked_tapes : List Tape
worked_tapes = printed_tape ++ cut_tapes ++ judged_heads ++ other_tapes

-- All of them come out right.
pub tapes_hold : computed worked_tapes ≡ expected worked_tapes
unfolding computed expected worked_tapes printed_tape cut_tapes judged_heads other_tapes hex little halfwords options play_tape play closing onward script_from headed next_of record_in record_of head_of body_in tell call_checks verdict respond greet serve reply_to refuse verdict_on checks protections work request_in reading_result request_of exactly reading word_at data_of frame covered word crc byte_done bits_done bit_done shifted polynomial part same option_bytes fresh_device fresh_flash fresh_ram fresh_nvr fresh_options fresh_settings replaced from_one_to
tapes_hold = refl
