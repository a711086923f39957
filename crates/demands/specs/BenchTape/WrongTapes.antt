-- Document 01, "The bench tape": mistakes that somebody might make, and that the definitions of `tape` rule out, as `WrongAnswers` of `cases` has them of the other crates.
use Rattle.std.specs.Prelude.{ℕ, Bool, true, false, List, [], ◌∷◌, ◌≢◌, eqb, get_or, replicate}
use Rattle.std.proofs.lemmas.Bool.{false≢true}
use Rattle.std.proofs.Common.{true≢false, ap}
use Rattle.frame.specs.Frame.{laid, word, word_at}
use Rattle.memory.specs.Stores.{part, replaced, same}
use Rattle.tm32.specs.After.{call_checks, tell}
use Rattle.tm32_asks.specs.Checks.{verdict}
use Rattle.tm32.specs.Device.{memory_of}
use Rattle.tm32.specs.Fresh.{fresh_device, fresh_flash, fresh_nvr, fresh_options, fresh_ram, fresh_settings}
use Rattle.tm32_asks.specs.Numbers.{from_one_to}
use Rattle.tm32.specs.Respond.{respond}
use Rattle.tape.specs.Blocks.{keeping, rest_of}
use Rattle.tape.specs.Play.{closing, onward, play, play_tape, played}
use Rattle.tape.specs.Records.{body_in, head, head_of, record_in, record_of}
use Rattle.tape.specs.Script.{headed, next_of, script_from}
use Rattle.tape.specs.Starting.{starting}
use Rattle.tape.specs.declared.Found.{Found}
use Rattle.tape.specs.declared.Found.TheVariants.{Nothing, HeadCut, BodyCut, Whole}
use Rattle.cases.specs.Cases.{blank_flash, flash_bytes}
use Rattle.cases.specs.Wire.{hex}

-- play: a record at the clean end of the input
pub play_writes_an_end : (played fresh_settings fresh_device true [] (replicate 2048 0x11)).written ≢ 4
unfolding played play_tape script_from play closing
play_writes_an_end is = true≢false (ap (eqb 0) is)

-- fresh: the flash is made blank before the length of the RAM is asked for
pub fresh_begins_and_refuses : (starting (memory_of (replicate flash_bytes 0x00) [] [])).memory.flash ≢ blank_flash
unfolding starting call_checks verdict
fresh_begins_and_refuses is = true≢false (ap (λ (flash : List ℕ). eqb (get_or flash 0 0) 0x00) is)

-- fresh_settings: the version with its other byte first
pub version_turned_round : fresh_settings.version ≢ 0x01 ∷ 0x00 ∷ []
unfolding fresh_settings same
version_turned_round is = true≢false (ap (same (0x00 ∷ 0x01 ∷ [])) is)

-- fresh_settings: the links of the manual's example
pub links_of_the_example : fresh_settings.links ≢ 0x0000000B
unfolding fresh_settings
links_of_the_example is = true≢false (ap (eqb 0x7F) is)

-- record_in: part of a head taken for the clean end of a tape
is_nothing : Found → Bool
is_nothing Nothing = true
is_nothing HeadCut = false
is_nothing (BodyCut head) = false
is_nothing (Whole head) = false

pub part_of_a_head_is_nothing : record_in (0x01 ∷ []) ≢ Nothing
unfolding record_in is_nothing
part_of_a_head_is_nothing is = false≢true (ap is_nothing is)

-- record_in: length and kind with the high byte first
is_whole : Found → Bool
is_whole Nothing = false
is_whole HeadCut = false
is_whole (BodyCut head) = false
is_whole (Whole head) = true

pub record_high_byte_first : record_in (hex 5 0x010001007F) ≢ BodyCut (head 0x0100 0x0100)
unfolding hex word_at record_in is_whole
record_high_byte_first is = true≢false (ap is_whole is)

-- record_in: a body of which the last byte is missing taken as whole
pub body_one_byte_short : record_in (hex 5 0x020001007F) ≢ Whole (head 2 1)
unfolding hex word_at record_in is_whole
body_one_byte_short is = false≢true (ap is_whole is)

-- body_of: what is behind the record belongs to it too
pub body_runs_on : body_in (hex 7 0x010001007F0600) 1 ≢ hex 3 0x7F0600
unfolding hex body_in same
body_runs_on is = true≢false (ap (same (0x7F ∷ [])) is)

-- head_of: the high byte first
pub head_high_byte_first : head_of 6 2 ≢ hex 4 0x00060002
unfolding hex head_of word same
head_high_byte_first is = true≢false (ap (same (hex 4 0x06000200)) is)

-- keep_rest: the block is cleared behind what is kept
pub keep_clears_the_rest : (keeping (1 ∷ 2 ∷ 3 ∷ 4 ∷ []) 3 4).block ≢ 4 ∷ 0 ∷ 0 ∷ 0 ∷ []
unfolding keeping rest_of part laid same
keep_clears_the_rest is = true≢false (ap (same (4 ∷ 2 ∷ 3 ∷ 4 ∷ [])) is)

-- play: no record for an empty reply
pub empty_reply_left_out : (play_tape fresh_settings fresh_device true 4096 (hex 4 0x00000100)).records ≢ []
unfolding hex play_tape play closing onward script_from headed next_of record_in record_of head_of body_in tell call_checks verdict respond word_at word same fresh_device fresh_flash fresh_ram fresh_nvr fresh_options replaced from_one_to
empty_reply_left_out is = true≢false (ap (same (hex 4 0x00000200)) is)

-- play: a head judged for its kind before its length
pub kind_judged_first : (play_tape fresh_settings fresh_device true 4096 (hex 4 0x01080200)).records ≢ hex 5 0x0100FF0002
unfolding hex play_tape play closing script_from headed next_of record_in record_of head_of word_at word same
kind_judged_first is = true≢false (ap (same (hex 5 0x0100FF0003)) is)
