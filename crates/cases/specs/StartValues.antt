-- Document 01 with docs/01-AMENDMENTS.md, "A message and its reply" and "The ten commands": the value that a CRC starts from is a setting, for frames both ways and for Memory CRC alike. Messages and
-- replies are written out whole; the CRCs of those that 01 does not print were worked out apart from the definitions under trial (docs/DECISIONS.md says how).
use Rattle.std.specs.Prelude.{◌≡◌, refl, ℕ, ◌-◌, List, [], ◌∷◌, ◌++◌, replicate}
use Rattle.frame.specs.Crc.{bit_done, bits_done, byte_done, crc, polynomial, shifted}
use Rattle.frame.specs.Frame.{covered, data_of, frame, laid, reading, word, word_at}
use Rattle.memory.specs.Pages.{covers, some_page, some_from, touched}
use Rattle.memory.specs.Ranges.{within}
use Rattle.memory.specs.Stores.{kept, masked, part, replaced, same}
use Rattle.tm32_asks.specs.Checks.{checks, flash_pages, protections, read_checks, verdict, write_checks}
use Rattle.tm32.specs.After.{after, call_checks, lay, tell}
use Rattle.tm32.specs.Device.{Device, bytes_at}
use Rattle.tm32.specs.Fresh.{fresh_device, fresh_flash, fresh_nvr, fresh_options, fresh_ram, fresh_settings, with_start}
use Rattle.tm32_asks.specs.Map.{in_read_region, in_user_region}
use Rattle.tm32_asks.specs.Numbers.{from_one_to, long_at}
use Rattle.tm32_asks.specs.Options.{in_either, option_bytes, rdp_on}
use Rattle.tm32_asks.specs.Request.{exactly, reading_result, request_in, request_of, write_in}
use Rattle.tm32.specs.Respond.{greet, refuse, reply_to, respond, serve, verdict_on}
use Rattle.tm32.specs.Work.{compared, programmed_result, readback, work, written}
use Rattle.tm32.specs.declared.State.TheVariants.{Waiting, Talking}
use Rattle.cases.specs.Cases.{Case, blank_device, blank_flash, case_with, computed, expected, flash_bytes, fresh, on_bench, prepared}
use Rattle.cases.specs.Wire.{done, halfwords, handshake, heart_beat, hex, little, off, options, shaken}

-- A fresh device but for its start value, 0xFFFF, after some messages.
abbrev pub from_ones : List (List ℕ) → List ℕ → List ℕ → Device → Case
from_ones = case_with (with_start fresh_settings 0xFFFF) fresh_device

-- The characters 123456789 at the start of page 1, in a flash that is blank otherwise.
abbrev pub nine_written : Device
nine_written = on_bench Talking (replicate 1024 0xFF ++ hex 9 0x313233343536373839 ++ replicate (flash_bytes - 1033) 0xFF) off

-- Heart beat, the write of those characters with readback, and work done, from 0xFFFF.
abbrev pub ones_heart_beat : List ℕ
ones_heart_beat = hex 6 0x2D41000095A0

abbrev pub ones_write : List ℕ
ones_write = hex 20 0x2D120E0001000400083132333435363738394BA2

abbrev pub ones_done : List ℕ
ones_done = hex 6 0x2D90000031F2

-- The handshake has no CRC. Heart beat when Waiting and when Talking; a Write, and a Read of what was written; Memory CRC with the sum of the nine characters from 0xFFFF, 0x29B1, and with the one from
-- 0, 0x31C3. And the Heart beat that 01 prints, which starts from 0: a failure of shape, told in a frame that starts from 0xFFFF.
unfoldable pub ones_cases : List Case
ones_cases =
    from_ones [] handshake shaken (blank_device off)
    ∷ from_ones [] ones_heart_beat (hex 6 0x2D80000052B1) (on_bench Waiting blank_flash off)
    ∷ from_ones (handshake ∷ []) ones_heart_beat ones_done (blank_device off)
    ∷ from_ones (handshake ∷ []) ones_write ones_done nine_written
    ∷ from_ones (handshake ∷ ones_write ∷ []) (hex 12 0x2D11060000040008090026F2) (hex 15 0x2D9009003132333435363738390598) nine_written
    ∷ from_ones (handshake ∷ ones_write ∷ []) (hex 16 0x2D130A000004000809000000B1298E42) ones_done nine_written
    ∷ from_ones (handshake ∷ ones_write ∷ []) (hex 16 0x2D130A000004000809000000C3318CBF) (hex 6 0x2DF400009AB5) nine_written
    ∷ from_ones (handshake ∷ []) heart_beat (hex 6 0x2D91000001C5) (blank_device off)
    ∷ []

-- The same write from 0.
abbrev pub nought_write : List ℕ
nought_write = hex 20 0x2D120E000100040008313233343536373839E0E7

-- The other way round on the fresh device, which starts from 0: Memory CRC with 0x31C3, and with 0x29B1; and the Heart beat from 0xFFFF.
unfoldable pub nought_cases : List Case
nought_cases =
    fresh (nought_write ∷ []) (hex 16 0x2D130A000004000809000000C331E616) done nine_written
    ∷ fresh (nought_write ∷ []) (hex 16 0x2D130A000004000809000000B129E4EB) (hex 6 0x2DF400005A31) nine_written
    ∷ fresh [] ones_heart_beat (hex 6 0x2D910000C141) (blank_device off)
    ∷ []

-- All of them, as one list.
unfoldable pub start_cases : List Case
start_cases = ones_cases ++ nought_cases

-- All of them hold.
pub starts_hold : computed start_cases ≡ expected start_cases
unfolding computed expected prepared hex little halfwords options start_cases ones_cases nought_cases after tell call_checks lay laid respond greet serve reply_to verdict_on refuse frame covered word crc byte_done bits_done bit_done shifted polynomial reading word_at data_of request_in reading_result request_of write_in exactly long_at checks verdict protections read_checks write_checks flash_pages some_page some_from covers touched within in_read_region in_user_region bytes_at part replaced masked kept same rdp_on in_either option_bytes work written readback programmed_result compared fresh_device fresh_flash fresh_ram fresh_nvr fresh_options fresh_settings from_one_to
starts_hold = refl
