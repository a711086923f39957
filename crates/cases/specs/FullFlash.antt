-- Document 01, "Both sides of each edge" and "Ways to get it almost right": a blank flash hides what is read, erased, written or wiped, so the marked cases of which that is so stand here once more,
-- over a full flash, with page 7 write-protected once options are written. And what 01 warns of.
use Rattle.std.specs.Prelude.{◌≡◌, refl, List, [], ◌∷◌, ◌++◌, replicate}
use Rattle.frame.specs.Crc.{bit_done, bits_done, byte_done, crc, polynomial, shifted}
use Rattle.frame.specs.Frame.{covered, data_of, frame, laid, reading, word, word_at}
use Rattle.memory.specs.Erases.{erased_pages, wiped_from, wiped_pages}
use Rattle.memory.specs.Pages.{covers, some_page, some_from, touched}
use Rattle.memory.specs.Ranges.{within}
use Rattle.memory.specs.Stores.{kept, masked, part, replaced, same}
use Rattle.tm32_asks.specs.Checks.{checks, flash_pages, protections, read_checks, verdict, write_checks}
use Rattle.tm32.specs.After.{after, call_checks, lay, tell}
use Rattle.tm32.specs.Device.{bytes_at}
use Rattle.tm32.specs.Fresh.{fresh_device, fresh_flash, fresh_nvr, fresh_options, fresh_ram, fresh_settings}
use Rattle.tm32_asks.specs.Map.{in_read_region, in_user_region}
use Rattle.tm32_asks.specs.Numbers.{from_one_to, long_at}
use Rattle.tm32_asks.specs.Options.{in_either, option_bytes, rdp_on}
use Rattle.tm32_asks.specs.Request.{exactly, reading_result, request_in, request_of, write_in}
use Rattle.tm32.specs.Respond.{greet, refuse, reply_to, respond, serve, verdict_on}
use Rattle.tm32.specs.Work.{erased, programmed_result, readback, wiped, wipes, with_options, work, written}
use Rattle.tm32.specs.declared.State.TheVariants.{Talking}
use Rattle.cases.specs.Cases.{Case, blank_device, computed, expected, filled, full_device, full_flash, full_pages, on_bench, pcrop5wrp7, prepared, put, rdp_wrp7, wrp7}
use Rattle.cases.specs.Wire.{ask_erase, ask_read, ask_write, ask_write_options, done, halfwords, hex, little, message, off, options}

-- The marked cases over a full flash. All pages but the named ones stay, and the wipe takes the write-protected one too.
unfoldable pub over_full_flash : List Case
over_full_flash =
    filled [] (ask_read 0x0800BFFF 1) (hex 7 0x2D9001003CBE2F) (full_device off)
    ∷ filled [] (ask_read 0x0800BFFF 2) (hex 6 0x2DF10000AADA) (full_device off)
    ∷ filled (ask_write_options pcrop5wrp7 ∷ []) (ask_read 0x080013FF 1) (hex 7 0x2D9001004421D0) (full_device pcrop5wrp7)
    ∷ filled (ask_write_options pcrop5wrp7 ∷ []) (ask_read 0x080013FF 2) (hex 6 0x2D630000F3CC) (full_device pcrop5wrp7)
    ∷ filled (ask_write_options wrp7 ∷ []) (ask_erase 47 1) done (on_bench Talking (full_pages 0x0F ++ replicate 1024 0xFF) wrp7)
    ∷ filled (ask_write_options wrp7 ∷ []) (ask_erase 47 2) (hex 6 0x2DF10000AADA) (full_device wrp7)
    ∷ filled (ask_write_options wrp7 ∷ []) (ask_write 1 0x08000400 (0x3C ∷ [])) (hex 6 0x2D9200009118) (on_bench Talking (full_flash 0x0C) wrp7)
    ∷ filled (ask_write_options wrp7 ∷ []) (put 0x3C) done (on_bench Talking (full_flash 0x0C) wrp7)
    ∷ filled [] (ask_write_options rdp_wrp7) done (full_device rdp_wrp7)
    ∷ filled (ask_write_options rdp_wrp7 ∷ []) (ask_read 0x08000400 1) (hex 6 0x2D620000C3FB) (full_device rdp_wrp7)
    ∷ filled (ask_write_options rdp_wrp7 ∷ []) (ask_write_options wrp7) done (blank_device wrp7)
    ∷ []

-- Ways to get it almost right, and what is right: a range that would wrap is refused; so is one with a protected page in its middle, and one whose first byte is free, of which
-- nothing is written; and with read protection off before and after nothing is wiped.
unfoldable pub almost_right : List Case
almost_right =
    filled [] (ask_read 0xFFFFFFFF 2) (hex 6 0x2DF10000AADA) (full_device off)
    ∷ filled (ask_write_options pcrop5wrp7 ∷ []) (ask_erase 4 3) (hex 6 0x2D630000F3CC) (full_device pcrop5wrp7)
    ∷ filled (ask_write_options wrp7 ∷ []) (ask_write 0 0x08001BFF (0x00 ∷ 0x00 ∷ [])) (hex 6 0x2D61000093A2) (full_device wrp7)
    ∷ filled [] (ask_write_options wrp7) done (full_device wrp7)
    ∷ []

-- All of them, as one list.
unfoldable pub full_flash_cases : List Case
full_flash_cases = over_full_flash ++ almost_right

-- All of them hold.
pub full_flash_hold : computed full_flash_cases ≡ expected full_flash_cases
unfolding computed expected prepared hex little message halfwords options full_flash_cases over_full_flash almost_right after tell call_checks lay laid respond greet serve reply_to verdict_on refuse frame covered word crc byte_done bits_done bit_done shifted polynomial reading word_at data_of request_in reading_result request_of write_in exactly long_at checks verdict protections read_checks write_checks flash_pages some_page some_from covers touched within in_read_region in_user_region bytes_at part replaced masked kept same rdp_on in_either option_bytes erased erased_pages wipes wiped wiped_pages wiped_from with_options work written readback programmed_result fresh_device fresh_flash fresh_ram fresh_nvr fresh_options fresh_settings from_one_to
full_flash_hold = refl
