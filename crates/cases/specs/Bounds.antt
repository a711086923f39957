-- Document 01, "The ten commands" and "Who may touch which page": the commands, regions and bounds that the cases of `Edges` do not have, worked out in the same way.
use Rattle.std.specs.Prelude.{◌≡◌, refl, List, [], ◌∷◌, ◌++◌, replicate}
use Rattle.frame.specs.Crc.{bit_done, bits_done, byte_done, crc, polynomial, shifted}
use Rattle.frame.specs.Frame.{covered, data_of, frame, laid, reading, word, word_at}
use Rattle.memory.specs.Erases.{erased_pages, wiped_from, wiped_pages}
use Rattle.memory.specs.Pages.{covers, some_page, some_from, touched}
use Rattle.memory.specs.Ranges.{within}
use Rattle.memory.specs.Stores.{kept, masked, part, replaced, same}
use Rattle.tm32_asks.specs.Checks.{checks, flash_pages, protections, read_checks, verdict, write_checks}
use Rattle.tm32.specs.After.{after, call_checks, lay, tell}
use Rattle.tm32.specs.Device.{bytes_at, session_of, start, with_session}
use Rattle.tm32.specs.Fresh.{fresh_device, fresh_flash, fresh_nvr, fresh_options, fresh_ram, fresh_settings}
use Rattle.tm32_asks.specs.Map.{in_read_region, in_user_region}
use Rattle.tm32_asks.specs.Numbers.{from_one_to, long, long_at}
use Rattle.tm32_asks.specs.Options.{in_either, option_bytes, rdp_on}
use Rattle.tm32_asks.specs.Request.{exactly, reading_result, request_in, request_of, write_in}
use Rattle.tm32.specs.Respond.{greet, refuse, reply_to, respond, serve, verdict_on}
use Rattle.tm32.specs.Work.{command_word, compared, erased, information, programmed_result, readback, told_commands, wiped, wipes, with_options, work, written}
use Rattle.tm32_asks.specs.declared.Link.TheVariants.{Spi}
use Rattle.tm32.specs.declared.State.TheVariants.{Talking, Gone}
use Rattle.cases.specs.Cases.{Case, at_code, blank_beside, blank_device, blank_flash, case, computed, expected, filled, fresh, full_device, full_flash, on_bench, pcrop5, pcrop5wrp7, prepared, put, rdp, wrp7}
use Rattle.cases.specs.Wire.{ask_erase, ask_get, ask_go, ask_memory_crc, ask_pps, ask_read, ask_read_options, ask_write, ask_write_options, done, first, halfwords, handshake, heart_beat, hex, little, message, no_pages, off, options, shaken}

-- Commands and regions: Get and the option bytes; the last rate code, the one above it, 0, and a link without a rate; the CRC of the last two bytes of a full flash (0x16AB, worked out apart), and another; the last byte of
-- RAM, the first of NVR5, and the last of NVR4, which is not for writing; the last place to jump to, and after the jump nothing is answered.
unfoldable pub other_commands : List Case
other_commands =
    fresh [] ask_get (hex 30 0x2D90180000010000000000000000000000000000FF0100007F000000038F) (blank_device off)
    ∷ fresh (ask_write_options pcrop5wrp7 ∷ []) ask_read_options (hex 28 0x2D901600AA000000FF00000005000500FF0000000700070000003FC4) (blank_device pcrop5wrp7)
    ∷ fresh [] (ask_pps 0x10) done (at_code 0x10)
    ∷ fresh [] (ask_pps 0x11) (hex 6 0x2DF000009AED) (blank_device off)
    ∷ fresh [] (ask_pps 0x00) (hex 6 0x2DF000009AED) (blank_device off)
    ∷ case (with_session fresh_device (start Spi)) (handshake ∷ []) (ask_pps 0x11) (hex 6 0x2DF500006A06) (with_session (blank_device off) (session_of Talking Spi 0x0A))
    ∷ filled [] (ask_memory_crc 0x0800BFFE 2 0x16AB) done (full_device off)
    ∷ filled [] (ask_memory_crc 0x0800BFFE 2 0x16AC) (hex 6 0x2DF400005A31) (full_device off)
    ∷ fresh [] (ask_write 1 0x20003FFF (0xA5 ∷ [])) done (blank_beside (replicate 9215 0 ++ 0xA5 ∷ []) (replicate 2048 0 ++ off ++ replicate 4074 0))
    ∷ fresh [] (ask_write 1 0x1FFF1000 (0xA5 ∷ [])) done (blank_beside (replicate 9216 0) (replicate 2048 0 ++ off ++ replicate 2026 0 ++ 0xA5 ∷ replicate 2047 0))
    ∷ fresh [] (ask_write 1 0x1FFF0FFF (0xA5 ∷ [])) (hex 6 0x2DF10000AADA) (blank_device off)
    ∷ fresh [] (ask_go 0x0800BFF8) done (on_bench (Gone 0x0800BFF8) blank_flash off)
    ∷ fresh [] (ask_go 0x0800BFF9) (hex 6 0x2DF10000AADA) (blank_device off)
    ∷ fresh (ask_go 0x0800BFF8 ∷ []) heart_beat [] (on_bench (Gone 0x0800BFF8) blank_flash off)
    ∷ []

-- Both sides of more bounds of 01.
unfoldable pub more_bounds : List Case
more_bounds =
    -- Shape: a spoiled CRC, an unknown command, a heart beat with a byte of data, a write with four bytes of data, and one with flag 2.
    fresh [] (hex 6 0x2D4100005525) (hex 6 0x2D910000C141) (blank_device off)
    ∷ fresh [] (message 0x02 []) (hex 6 0x2D910000C141) (blank_device off)
    ∷ fresh [] (message 0x41 (0x55 ∷ [])) (hex 6 0x2D910000C141) (blank_device off)
    ∷ fresh [] (message 0x12 (0x00 ∷ 0x00 ∷ 0x04 ∷ 0x00 ∷ [])) (hex 6 0x2D910000C141) (blank_device off)
    ∷ fresh [] (ask_write 2 0x08000400 (0x3C ∷ [])) (hex 6 0x2D910000C141) (blank_device off)
    -- Rate: code 0x01, and a handshake that keeps code 0x10.
    ∷ fresh [] (ask_pps 0x01) done (at_code 0x01)
    ∷ fresh (ask_pps 0x10 ∷ []) handshake shaken (at_code 0x10)
    -- Length: a write of nothing, a CRC of nothing, and a CRC of 1,025 bytes.
    ∷ fresh [] (ask_write 0 0x08000400 []) (hex 6 0x2DF20000FA83) (blank_device off)
    ∷ fresh [] (ask_memory_crc 0x20001C00 0 0x0000) (hex 6 0x2DF20000FA83) (blank_device off)
    ∷ fresh [] (ask_memory_crc 0x20001C00 1025 0x0000) done (blank_device off)
    -- Page count: 0, 48 and 49, and 49 from the last page on.
    ∷ filled [] (ask_erase 0 0) (hex 6 0x2DF30000CAB4) (full_device off)
    ∷ filled [] (ask_erase 0 48) done (blank_device off)
    ∷ filled [] (ask_erase 0 49) (hex 6 0x2DF30000CAB4) (full_device off)
    ∷ filled [] (ask_erase 47 49) (hex 6 0x2DF30000CAB4) (full_device off)
    -- Address: the last place to jump to in RAM, and one byte further.
    ∷ fresh [] (ask_go 0x20003FF8) done (on_bench (Gone 0x20003FF8) blank_flash off)
    ∷ fresh [] (ask_go 0x20003FF9) (hex 6 0x2DF10000AADA) (blank_device off)
    -- Protection: the page behind page 5; RAM and NVR under read protection; a write under read protection and PCROP; an erase of the write-protected page.
    ∷ filled (ask_write_options pcrop5 ∷ []) (ask_read 0x08001800 1) (hex 7 0x2D9001005ADE23) (full_device pcrop5)
    ∷ fresh (ask_write_options rdp ∷ []) (ask_read 0x20001C00 1) (hex 7 0x2D9001000061D8) (blank_device rdp)
    ∷ fresh (ask_write_options rdp ∷ []) (ask_read 0x1FFF0800 1) (hex 7 0x2D9001000061D8) (blank_device rdp)
    ∷ filled (ask_write_options (options 0x00 (first 1) no_pages) ∷ []) (put 0x3C) done (on_bench Talking (full_flash 0x0C) (options 0x00 (first 1) no_pages))
    ∷ filled (ask_write_options wrp7 ∷ []) (ask_erase 7 1) (hex 6 0x2D61000093A2) (full_device wrp7)
    ∷ []

-- Where a flash of 32 pages would end: its next address is a good one, and page 32 can be read, erased and protected. Neither 33 pages nor a range up to page 47 is too much.
unfoldable pub beyond32_pages : List Case
beyond32_pages =
    filled [] (ask_read 0x08008000 1) (hex 7 0x2D9001005ADE23) (full_device off)
    ∷ filled [] (ask_read 0x08007FFF 2) (hex 8 0x2D9002005A5A62AA) (full_device off)
    ∷ filled [] (ask_erase 0 33) done (on_bench Talking (replicate 33792 0xFF ++ replicate 15359 0x5A ++ 0x3C ∷ []) off)
    ∷ filled [] (ask_erase 31 33) (hex 6 0x2DF10000AADA) (full_device off)
    ∷ filled (ask_write_options (options 0xAA (first 32) (first 47)) ∷ []) (ask_read 0x08007FFF 2) (hex 6 0x2D630000F3CC) (full_device (options 0xAA (first 32) (first 47)))
    ∷ filled (ask_write_options (options 0xAA (first 32) (first 47)) ∷ []) (ask_erase 46 2) (hex 6 0x2D61000093A2) (full_device (options 0xAA (first 32) (first 47)))
    ∷ []

-- All of them, as one list.
unfoldable pub bound_cases : List Case
bound_cases = other_commands ++ more_bounds ++ beyond32_pages

-- All of them hold.
pub bounds_hold : computed bound_cases ≡ expected bound_cases
unfolding computed expected prepared hex little message halfwords options bound_cases other_commands more_bounds beyond32_pages after tell call_checks lay laid respond greet serve reply_to verdict_on refuse frame covered word crc byte_done bits_done bit_done shifted polynomial reading word_at data_of request_in reading_result request_of write_in exactly long_at checks verdict protections read_checks write_checks flash_pages some_page some_from covers touched within in_read_region in_user_region bytes_at part replaced masked kept same rdp_on in_either option_bytes erased erased_pages wipes wiped wiped_pages wiped_from with_options work written readback programmed_result compared information long command_word told_commands fresh_device fresh_flash fresh_ram fresh_nvr fresh_options fresh_settings from_one_to
bounds_hold = refl
