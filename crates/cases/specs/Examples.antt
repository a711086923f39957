-- What the definitions say where document 01 gives an example or a bound, worked out by the checker: protected pages, rates, last addresses, what Get tells, refusals 1 to 5, the messages that
-- touch the option bytes, and a short run.
use Rattle.std.specs.Prelude.{ℕ, zero, suc, ◌+◌, ◌-◌, Bool, true, false, cond, List, [], ◌∷◌, ◌++◌, map, ◌≡◌, refl, length, replicate}
use Rattle.frame.specs.Crc.{bit_done, bits_done, byte_done, crc, polynomial, shifted}
use Rattle.frame.specs.Frame.{covered, data_of, frame, laid, reading, word, word_at}
use Rattle.memory.specs.Pages.{covers}
use Rattle.memory.specs.Ranges.{within}
use Rattle.memory.specs.Stores.{replaced, same}
use Rattle.tm32.specs.After.{after, call_checks, lay, no_reply, replied, tell}
use Rattle.tm32_asks.specs.Checks.{checks, protections, verdict}
use Rattle.tm32.specs.Device.{Device, device_of, memory_of, session_of, with_session}
use Rattle.tm32.specs.Fresh.{fresh_device, fresh_flash, fresh_nvr, fresh_options, fresh_ram, fresh_settings}
use Rattle.tm32_asks.specs.Map.{flash_length, flash_start, nvr_length, nvr_start, page_count, ram_length, ram_start, user_nvr_length, user_nvr_start}
use Rattle.tm32.specs.OptionMessages.{is_talking, option_message, reads_options, touches_options}
use Rattle.tm32_asks.specs.Options.{in_either, rdp_on, under_pcrop, under_wrp}
use Rattle.tm32_asks.specs.Rates.{bits_per_second, rates}
use Rattle.tm32_asks.specs.Numbers.{from_one_to, long, long_at}
use Rattle.tm32_asks.specs.Request.{exactly, reading_result, request_in, request_of}
use Rattle.tm32.specs.Respond.{greet, refuse, reply_to, respond, serve, verdict_on}
use Rattle.tm32.specs.Run.{restarted, run, sent}
use Rattle.tm32.specs.Work.{command_word, information, spi1, told_commands, uart1, uart2, work}
use Rattle.tm32_asks.specs.declared.Link.TheVariants.{Spi, Uart}
use Rattle.tm32.specs.declared.State.TheVariants.{Talking}
use Rattle.cases.specs.Wire.{ask_read, ask_read_options, ask_write_options, done, halfwords, handshake, heart_beat, hex, little, message, off, options, shaken}

-- Which of so many pages pass a test.
unfoldable pub passing : (ℕ → Bool) → ℕ → List ℕ
passing test zero = []
passing test (suc page) = passing test page ++ cond (test page) (page ∷ []) []

-- Both ends of a range are in, pages past the last are not, and a start above the end protects nothing.
pub range_46_to_200 : passing (covers page_count 46 200) 256 ≡ 46 ∷ 47 ∷ []
unfolding passing covers
range_46_to_200 = refl

-- So it is with 2 pages; and with 256, the most that have numbers of one byte, all of them can be protected.
pub range_of_2_pages : passing (covers 2 1 200) 256 ≡ 1 ∷ []
unfolding passing covers
range_of_2_pages = refl

pub range_of_256_pages : length (passing (covers 256 0 255) 300) ∷ passing (covers 256 254 255) 300 ≡ 256 ∷ 254 ∷ 255 ∷ []
unfolding passing covers
range_of_256_pages = refl

pub range_6_to_5 : passing (covers page_count 6 5) 256 ≡ []
unfolding passing covers
range_6_to_5 = refl

-- Option bytes with every bit set that means nothing: RDP 0xAA, PCROP 5 to 5 and 46 to 200, WRP 0 to 1 and 7 to 6.
unfoldable pub crowded : List ℕ
crowded =
    0xAA ∷ 0xFF ∷ 0xFF ∷ 0xFF
    ∷ 5 ∷ 0xFF ∷ 5 ∷ 0xFF ∷ 46 ∷ 0xFF ∷ 200 ∷ 0xFF
    ∷ 0 ∷ 0xFF ∷ 1 ∷ 0xFF ∷ 7 ∷ 0xFF ∷ 6 ∷ 0xFF
    ∷ 0xFF ∷ 0xFF ∷ []

pub pages_under_pcrop : passing (under_pcrop crowded) 256 ≡ 5 ∷ 46 ∷ 47 ∷ []
unfolding passing crowded in_either covers
pages_under_pcrop = refl

pub pages_under_wrp : passing (under_wrp crowded) 256 ≡ 0 ∷ 1 ∷ []
unfolding passing crowded in_either covers
pages_under_wrp = refl

-- 0xAA alone is off.
pub only_0xAA_is_off : map rdp_on (crowded ∷ (0x55 ∷ []) ∷ (0x00 ∷ []) ∷ (0xAB ∷ []) ∷ []) ≡ false ∷ true ∷ true ∷ true ∷ []
unfolding crowded rdp_on
only_0xAA_is_off = refl

-- Codes 0x00, 0x01, 0x0A, 0x10 and 0x11.
pub rates_at_the_ends : map bits_per_second (0x00 ∷ 0x01 ∷ 0x0A ∷ 0x10 ∷ 0x11 ∷ []) ≡ 0 ∷ 2400 ∷ 115200 ∷ 1382400 ∷ 0 ∷ []
unfolding bits_per_second rates from_one_to
rates_at_the_ends = refl

-- The last address of each part of the memory.
pub last_addresses :
    (flash_start + flash_length - 1) ∷ (ram_start + ram_length - 1) ∷ (nvr_start + nvr_length - 1) ∷ (user_nvr_start + user_nvr_length - 1) ∷ []
    ≡ 0x0800BFFF ∷ 0x20003FFF ∷ 0x1FFF17FF ∷ 0x1FFF17FF ∷ []
last_addresses = refl

-- What Get tells where all settings differ: version 01 02, serial 11 to 1C, package 21, model 22, links 0x34333231. Of the start value, 0x5678, it tells nothing.
pub information_told :
    information (record { version = 0x01 ∷ 0x02 ∷ []; serial = hex 12 0x1112131415161718191A1B1C; «package» = 0x21; model = 0x22; links = 0x34333231; start = 0x5678 })
    ≡ hex 24 0x01021112131415161718191A1B1C2122FF01000031323334
unfolding hex information long word command_word told_commands
information_told = refl

-- The two words of Get that 01 gives.
pub commands_told : command_word ≡ 0x000001FF
unfolding command_word told_commands
commands_told = refl

pub links_told : uart1 + uart2 + spi1 ≡ 0x0000000B
links_told = refl

-- All five reasons to refuse at once, then one fewer each time: the numbers come in order, and 0 where there is none.
pub lent : List ℕ → List ℕ → List ℕ → ℕ → Device
lent flash ram nvr rate = device_of (session_of Talking Uart rate) (memory_of flash ram nvr)

pub refusals_in_order :
    verdict 0 (call_checks (lent [] [] [] 0) 1029)
    ∷ verdict 0 (call_checks (lent fresh_flash [] [] 0) 1029)
    ∷ verdict 0 (call_checks (lent fresh_flash fresh_ram [] 0) 1029)
    ∷ verdict 0 (call_checks (lent fresh_flash fresh_ram fresh_nvr 0) 1029)
    ∷ verdict 0 (call_checks (lent fresh_flash fresh_ram fresh_nvr 0) 1030)
    ∷ verdict 0 (call_checks (lent fresh_flash fresh_ram fresh_nvr 0x10) 1030)
    ∷ []
    ≡ 1 ∷ 2 ∷ 3 ∷ 4 ∷ 5 ∷ 0 ∷ []
unfolding lent verdict call_checks fresh_flash fresh_ram fresh_nvr fresh_options replaced word from_one_to
refusals_in_order = refl

-- A flash of 32 pages is too short, and so is one that lacks a byte; one byte more is too long.
pub flash_lengths :
    map (λ (bytes : ℕ). verdict 0 (call_checks (lent (replicate bytes 0xFF) fresh_ram fresh_nvr 0x0A) 1030)) (32768 ∷ 49151 ∷ 49152 ∷ 49153 ∷ [])
    ≡ 1 ∷ 1 ∷ 0 ∷ 1 ∷ []
unfolding lent verdict call_checks fresh_ram fresh_nvr fresh_options replaced word from_one_to
flash_lengths = refl

-- What reads or writes the option bytes of a device that Talks: 0x31, 0x32, and a Read that touches them. A Read beside them does not, nor one that is too long to be served.
pub touching_the_options :
    map (λ (one : List ℕ). option_message 0 (with_session fresh_device (session_of Talking Uart 0x0A)) one 1030)
    (ask_write_options off ∷ ask_read_options ∷ ask_read 0x1FFF07FF 1 ∷ ask_read 0x1FFF07FF 2 ∷ ask_read 0x1FFF0815 1 ∷ ask_read 0x1FFF0816 1 ∷ ask_read 0x1FFF0800 1025 ∷ heart_beat ∷ [])
    ≡ true ∷ true ∷ false ∷ true ∷ true ∷ false ∷ false ∷ false ∷ []
unfolding hex little message halfwords options fresh_device fresh_flash fresh_ram fresh_nvr fresh_options replaced call_checks verdict option_message is_talking touches_options reads_options within request_in reading_result request_of exactly long_at reading word_at data_of frame covered word crc byte_done bits_done bit_done shifted polynomial from_one_to
touching_the_options = refl

-- A device that Waits reads none of them, and no message does where the room for the reply is too small.
pub nothing_while_waiting : map (λ (one : List ℕ). option_message 0 fresh_device one 1030) (ask_write_options off ∷ ask_read_options ∷ ask_read 0x1FFF0800 1 ∷ []) ≡ false ∷ false ∷ false ∷ []
unfolding fresh_device fresh_flash fresh_ram fresh_nvr fresh_options replaced word call_checks verdict option_message is_talking from_one_to
nothing_while_waiting = refl

pub nothing_without_room : option_message 0 (with_session fresh_device (session_of Talking Uart 0x0A)) ask_read_options 1029 ≡ false
unfolding fresh_device fresh_flash fresh_ram fresh_nvr fresh_options replaced word call_checks verdict option_message from_one_to
nothing_without_room = refl

-- Where a CRC starts from 0xFFFF the same messages, which start from 0, read or write nothing, and Read options from 0xFFFF does.
pub touching_from_ones :
    map (λ (one : List ℕ). option_message 0xFFFF (with_session fresh_device (session_of Talking Uart 0x0A)) one 1030) (ask_write_options off ∷ ask_read_options ∷ hex 6 0x2D320000CD21 ∷ [])
    ≡ false ∷ false ∷ true ∷ []
unfolding hex little message halfwords options fresh_device fresh_flash fresh_ram fresh_nvr fresh_options replaced call_checks verdict option_message is_talking touches_options request_in reading_result request_of exactly reading word_at data_of frame covered word crc byte_done bits_done bit_done shifted polynomial from_one_to
touching_from_ones = refl

-- A handshake, a heart beat with too little room, one with enough, and one more after a restart on SPI.
pub a_short_run :
    (run fresh_settings fresh_device (sent handshake 1030 ∷ sent heart_beat 1029 ∷ sent heart_beat 1030 ∷ restarted Spi ∷ sent heart_beat 1030 ∷ [])).told
    ≡ replied shaken ∷ no_reply 4 ∷ replied done ∷ replied (hex 6 0x2D8000009235) ∷ []
unfolding hex run tell call_checks verdict respond greet serve reply_to refuse verdict_on checks protections work request_in reading_result request_of exactly reading word_at data_of frame covered word crc byte_done bits_done bit_done shifted polynomial same fresh_device fresh_flash fresh_ram fresh_nvr fresh_options fresh_settings replaced from_one_to
a_short_run = refl

-- The reply lies over the start of the buffer, and the rest of it is as it came.
pub rest_of_the_buffer : (after fresh_settings fresh_device handshake (replicate 1040 0x11)).buffer ≡ 0x79 ∷ replicate 1039 0x11
unfolding hex after lay laid tell call_checks verdict respond greet same fresh_device fresh_flash fresh_ram fresh_nvr fresh_options replaced word from_one_to
rest_of_the_buffer = refl
