-- Document 01, "Both sides of each edge": the cases marked P, all of them and no others, as one list, and one statement that each of them comes out as 01 says: the length of the reply, every
-- byte of the lent reply buffer, and every byte of the device. The other edges stand in `Bounds`; those that a blank flash would hide stand in `FullFlash` once more.
use Rattle.std.specs.Prelude.{◌≡◌, refl, List, [], ◌∷◌}
use Rattle.frame.specs.Crc.{bit_done, bits_done, byte_done, crc, polynomial, shifted}
use Rattle.frame.specs.Frame.{covered, data_of, frame, laid, reading, word, word_at}
use Rattle.memory.specs.Erases.{erased_pages, wiped_from, wiped_pages}
use Rattle.memory.specs.Pages.{covers, some_page, some_from, touched}
use Rattle.memory.specs.Ranges.{within}
use Rattle.memory.specs.Stores.{kept, masked, part, replaced, same}
use Rattle.tm32_asks.specs.Checks.{checks, flash_pages, protections, read_checks, verdict, write_checks}
use Rattle.tm32.specs.After.{after, call_checks, lay, tell}
use Rattle.tm32.specs.Device.{bytes_at}
use Rattle.tm32.specs.Fresh.{fresh_device, fresh_flash, fresh_nvr, fresh_options, fresh_ram, fresh_settings}
use Rattle.tm32_asks.specs.Map.{in_read_region, in_user_region}
use Rattle.tm32_asks.specs.Numbers.{from_one_to, long_at}
use Rattle.tm32_asks.specs.Options.{in_either, option_bytes, rdp_on}
use Rattle.tm32_asks.specs.Request.{exactly, reading_result, request_in, request_of, write_in}
use Rattle.tm32.specs.Respond.{greet, refuse, reply_to, respond, serve, verdict_on}
use Rattle.tm32.specs.Work.{erased, programmed_result, readback, wiped, wipes, with_options, work, written}
use Rattle.tm32.specs.declared.State.TheVariants.{Waiting, Talking}
use Rattle.cases.specs.Cases.{Case, blank_device, blank_flash, case, computed, expected, fresh, on_bench, one_byte, pcrop5, prepared, put, rdp}
use Rattle.cases.specs.Wire.{ask_erase, ask_read, ask_write, ask_write_options, done, halfwords, heart_beat, hex, little, message, off, options}

-- Fourteen marks, in 01's order; that of RDP 0x00 over 0xAA is a write and a read, so fifteen messages.
unfoldable pub marked_p : List Case
marked_p =
    -- Heart beat when Waiting, and when Talking.
    case fresh_device [] heart_beat (hex 6 0x2D8000009235) (on_bench Waiting blank_flash off)
    ∷ fresh [] heart_beat done (blank_device off)
    -- Read of the last byte of the flash, and one more; of 1,025 bytes, and of none.
    ∷ fresh [] (ask_read 0x0800BFFF 1) (hex 7 0x2D900100FF91C6) (blank_device off)
    ∷ fresh [] (ask_read 0x0800BFFF 2) (hex 6 0x2DF10000AADA) (blank_device off)
    ∷ fresh [] (ask_read 0x08000000 1025) (hex 6 0x2DF20000FA83) (blank_device off)
    ∷ fresh [] (ask_read 0x08000000 0) (hex 6 0x2DF20000FA83) (blank_device off)
    -- PCROP 5 to 5: Read of the last byte before page 5, and one more.
    ∷ fresh (ask_write_options pcrop5 ∷ []) (ask_read 0x080013FF 1) (hex 7 0x2D900100FF91C6) (blank_device pcrop5)
    ∷ fresh (ask_write_options pcrop5 ∷ []) (ask_read 0x080013FF 2) (hex 6 0x2D630000F3CC) (blank_device pcrop5)
    -- Erase of page 47, and of one page more.
    ∷ fresh [] (ask_erase 47 1) done (blank_device off)
    ∷ fresh [] (ask_erase 47 2) (hex 6 0x2DF10000AADA) (blank_device off)
    -- 0x3C written over 0x0F, with flag 1 and with flag 0.
    ∷ fresh (put 0x0F ∷ []) (ask_write 1 0x08000400 (0x3C ∷ [])) (hex 6 0x2D9200009118) (on_bench Talking (one_byte 0x0C) off)
    ∷ fresh (put 0x0F ∷ []) (put 0x3C) done (on_bench Talking (one_byte 0x0C) off)
    -- RDP 0x00 over 0xAA: the write, and a read; and 0xAA again.
    ∷ fresh [] (ask_write_options rdp) done (blank_device rdp)
    ∷ fresh (ask_write_options rdp ∷ []) (ask_read 0x08000000 1) (hex 6 0x2D620000C3FB) (blank_device rdp)
    ∷ fresh (ask_write_options rdp ∷ []) (ask_write_options off) done (blank_device off)
    ∷ []

-- All of them hold.
pub marked_p_hold : computed marked_p ≡ expected marked_p
unfolding computed expected prepared hex little message halfwords options marked_p after tell call_checks lay laid respond greet serve reply_to verdict_on refuse frame covered word crc byte_done bits_done bit_done shifted polynomial reading word_at data_of request_in reading_result request_of write_in exactly long_at checks verdict protections read_checks write_checks flash_pages some_page some_from covers touched within in_read_region in_user_region bytes_at part replaced masked kept same rdp_on in_either option_bytes erased erased_pages wipes wiped wiped_pages wiped_from with_options work written readback programmed_result fresh_device fresh_flash fresh_ram fresh_nvr fresh_options fresh_settings from_one_to
marked_p_hold = refl
