-- Mistakes that somebody might make, and that the definitions rule out: of each function an outcome that its contract does not admit, worked out by the checker. Each is told from the
-- right one by a question that has another answer. docs/OUTCOMES.md says which functions they belong to; there stand too the mistakes that are tried on the code.
-- The last part has mistakes of whole cases of `Edges`. Those of the tape stand in `demands`, in `BenchTape.WrongTapes`.
use Rattle.std.specs.Prelude.{ℕ, ◌-◌, true, false, List, [], ◌∷◌, ◌++◌, ◌≢◌, eqb, drop, get_or, length, replicate}
use Rattle.std.proofs.lemmas.Bool.{false≢true}
use Rattle.std.proofs.Common.{true≢false, ap}
use Rattle.frame.specs.Crc.{bit_done, bits_done, byte_done, crc, polynomial, shifted}
use Rattle.frame.specs.Frame.{covered, data_of, frame, laid, reading, word, word_at, writing}
use Rattle.memory.specs.Erases.{erased_pages, wiped_from, wiped_pages}
use Rattle.memory.specs.Pages.{covers, pages, some_from, some_page, touched}
use Rattle.memory.specs.Ranges.{within}
use Rattle.memory.specs.Stores.{holds, kept, masked, part, replaced, replacing, same}
use Rattle.memory.specs.declared.PageRun.{PageRun}
use Rattle.tm32.specs.After.{after, call_checks, lay, tell}
use Rattle.tm32_asks.specs.Checks.{checks, flash_pages, is_page_count, is_uart, protections, read_checks, verdict, write_checks}
use Rattle.tm32.specs.Device.{Device, restart, session_of, start}
use Rattle.tm32.specs.Fresh.{fresh_device, fresh_flash, fresh_nvr, fresh_options, fresh_ram, fresh_settings, with_start}
use Rattle.tm32_asks.specs.Map.{in_flash, in_go_region, in_nvr, in_ram, in_read_region, in_user_region}
use Rattle.tm32_asks.specs.Numbers.{from_one_to, long_at}
use Rattle.tm32_asks.specs.Options.{in_either, option_bytes, rdp_on, under_pcrop}
use Rattle.tm32_asks.specs.Rates.{bits_per_second, is_rate, rates}
use Rattle.tm32_asks.specs.Request.{exactly, reading_result, request_in, request_of, write_in}
use Rattle.tm32.specs.Respond.{greet, is_waiting, refuse, reply_to, respond, serve, verdict_on}
use Rattle.tm32.specs.Work.{erased, wiped, wipes, with_options, work, written}
use Rattle.tm32_asks.specs.declared.Link.TheVariants.{Spi, Uart}
use Rattle.tm32_asks.specs.declared.Request.{Request}
use Rattle.tm32_asks.specs.declared.Request.TheVariants.{HeartBeat}
use Rattle.tm32.specs.declared.Session.{Session}
use Rattle.tm32.specs.declared.Settings.{Settings}
use Rattle.tm32.specs.declared.State.TheVariants.{Talking, Waiting}
use Rattle.cases.specs.Cases.{flash_bytes, full_device, full_flash, on_bench, one_byte, pcrop5, prepared, rdp_wrp7, wrp7}
use Rattle.cases.specs.Wire.{ask_read, ask_write, ask_write_options, done, first, halfwords, handshake, hex, little, message, no_pages, off, options}

-- ---- frame

-- crc: started from 0xFFFF, as others do
pub crc_from_ones : crc 0 (hex 9 0x313233343536373839) ≢ 0x29B1
unfolding hex polynomial shifted bit_done bits_done byte_done crc
crc_from_ones is = true≢false (ap (eqb 0x31C3) is)

-- crc: its bits inverted at the end
pub crc_inverted : crc 0 (hex 9 0x313233343536373839) ≢ 0xCE3C
unfolding hex polynomial shifted bit_done bits_done byte_done crc
crc_inverted is = true≢false (ap (eqb 0x31C3) is)

-- word_at: a last byte without a second one is passed over
pub half_a_word_dropped : word_at (0x34 ∷ []) 0 ≢ 0
unfolding word_at
half_a_word_dropped is = true≢false (ap (eqb 0x34) is)

-- word: cut to its low byte
pub word_cut_to_a_byte : word 0x1234 ≢ 0x34 ∷ 0x00 ∷ []
unfolding word same
word_cut_to_a_byte is = true≢false (ap (same (0x34 ∷ 0x12 ∷ [])) is)

-- write: the buffer is cleared behind the frame
pub write_clears_the_rest : (writing 0 0x90 [] (replicate 8 0x11)).buffer ≢ done ++ 0x00 ∷ 0x00 ∷ []
unfolding hex same writing laid frame covered word polynomial shifted bit_done bits_done byte_done crc
write_clears_the_rest is = true≢false (ap (same (done ++ 0x11 ∷ 0x11 ∷ [])) is)

-- write: as much of the frame as fits is written, and then refused
pub write_begins_and_refuses : (writing 0 0x90 [] (replicate 5 0x11)).buffer ≢ hex 5 0x2D900000F1
unfolding hex same writing
write_begins_and_refuses is = true≢false (ap (same (replicate 5 0x11)) is)

-- ---- memory

-- within: the last byte of a range is not asked for
pub end_not_asked_for : within 0x08000000 0xC000 0x0800BFFF 2 ≢ true
unfolding within
end_not_asked_for is = false≢true is

-- store: as many bytes as fit are stored, and it looks like success
pub store_what_fits : (replacing (1 ∷ 2 ∷ 3 ∷ []) 2 (7 ∷ 8 ∷ [])).memory ≢ 1 ∷ 2 ∷ 7 ∷ []
unfolding replacing holds same
store_what_fits is = true≢false (ap (same (1 ∷ 2 ∷ 3 ∷ [])) is)

-- fill: one value more than was asked for
pub fill_one_more : (replacing (1 ∷ 2 ∷ 3 ∷ []) 1 (replicate 1 9)).memory ≢ 1 ∷ 9 ∷ 9 ∷ []
unfolding replacing holds replaced same
fill_one_more is = true≢false (ap (same (1 ∷ 9 ∷ 3 ∷ [])) is)

-- touched: the page at which nothing stands is touched
pub nothing_touches_a_page : touched 1024 1024 0 ≢ pages 1 1
unfolding touched
nothing_touches_a_page is = true≢false (ap (λ (run : PageRun). eqb run.count 0) is)

-- ---- tm32_asks

-- request_in: an unknown command is read as the one before it
pub unknown_command_read : request_in 0 (message 0x42 []) ≢ HeartBeat
unfolding message frame covered word crc byte_done bits_done bit_done shifted polynomial reading word_at data_of request_in reading_result request_of checks
unknown_command_read is = true≢false (ap (λ (request : Request). eqb (length (checks Uart request)) 1) is)

-- request_in: data that the command does not take is passed over
pub data_passed_over : request_in 0 (message 0x41 (0x55 ∷ [])) ≢ HeartBeat
unfolding message frame covered word crc byte_done bits_done bit_done shifted polynomial reading word_at data_of request_in reading_result request_of exactly checks
data_passed_over is = true≢false (ap (λ (request : Request). eqb (length (checks Uart request)) 1) is)

-- request_in: a frame whose CRC starts from another value is read all the same
pub other_start_read : request_in 0xFFFF (message 0x41 []) ≢ HeartBeat
unfolding message frame covered word crc byte_done bits_done bit_done shifted polynomial reading word_at data_of request_in reading_result request_of exactly checks
other_start_read is = true≢false (ap (λ (request : Request). eqb (length (checks Uart request)) 1) is)

-- bytes_to_write: the last byte of the address is taken for the first of the data
pub address_among_the_bytes : drop 5 (hex 7 0x0100040008A5A6) ≢ hex 3 0x08A5A6
unfolding hex same
address_among_the_bytes is = true≢false (ap (same (hex 2 0xA5A6)) is)

-- bytes_to_write: data too short for flag and address is handed on as it is
pub short_data_handed_on : drop 5 (hex 4 0x01000400) ≢ hex 4 0x01000400
unfolding hex same
short_data_handed_on is = true≢false (ap (same []) is)

-- is_rate: code 0 is taken for a rate
pub nought_is_a_rate : is_rate 0x00 ≢ true
unfolding from_one_to
nought_is_a_rate is = false≢true is

-- is_rate: and so is the code above the last
pub rate_above_the_last : is_rate 0x11 ≢ true
unfolding from_one_to
rate_above_the_last is = false≢true is

-- in_flash: a range that only begins in the flash
pub flash_runs_on : in_flash 0x0800BFFF 2 ≢ true
unfolding within
flash_runs_on is = false≢true is

-- in_flash: the last byte is left out
pub flash_ends_early : in_flash 0x0800BFFF 1 ≢ false
unfolding within
flash_ends_early is = true≢false is

-- in_flash: it ends with page 31
pub flash_of_32_pages : in_flash 0x08008000 1 ≢ false
unfolding within
flash_of_32_pages is = true≢false is

-- verdict: 33 pages are too many, and page 32 is never protected
pub erase_of_32_pages : is_page_count 33 ≢ false
unfolding from_one_to
erase_of_32_pages is = true≢false is

pub protection_of_32_pages : under_pcrop (options 0xAA (first 32) no_pages) 32 ≢ false
unfolding little halfwords options in_either covers
protection_of_32_pages is = true≢false is

-- in_ram: the RAM that the boot loader keeps counts too
pub loader_ram_counts : in_ram 0x20001BFF 1 ≢ true
unfolding within
loader_ram_counts is = false≢true is

-- in_ram: a range that only begins in the RAM
pub ram_runs_on : in_ram 0x20003FFF 2 ≢ true
unfolding within
ram_runs_on is = false≢true is

-- in_nvr: only the user's own two count
pub only_user_nvr : in_nvr 0x1FFF0000 1 ≢ false
unfolding within
only_user_nvr is = true≢false is

-- in_nvr: a range that only begins in the NVR
pub nvr_runs_on : in_nvr 0x1FFF17FF 2 ≢ true
unfolding within
nvr_runs_on is = false≢true is

-- ---- tm32

-- answer: the buffer is cleared behind the reply
pub answer_clears_the_rest : (after fresh_settings fresh_device handshake (replicate 1040 0x11)).buffer ≢ 0x79 ∷ replicate 1039 0x00
unfolding hex after lay laid tell call_checks verdict respond greet same fresh_device fresh_flash fresh_ram fresh_nvr fresh_options replaced word from_one_to
answer_clears_the_rest is = true≢false (ap (λ (buffer : List ℕ). eqb (get_or buffer 1 0) 0x11) is)

-- start: ready for frames before the handshake
pub start_talks_at_once : start Uart ≢ session_of Talking Uart 0x0A
start_talks_at_once is = true≢false (ap (λ (session : Session). is_waiting session.state) is)

-- start: on UART, whatever the link
pub start_always_on_uart : start Spi ≢ session_of Waiting Uart 0x0A
start_always_on_uart is = false≢true (ap (λ (session : Session). is_uart session.link) is)

-- start: at the first rate of the table
pub start_at_the_first_rate : start Uart ≢ session_of Waiting Uart 0x01
start_at_the_first_rate is = true≢false (ap (λ (session : Session). eqb session.rate 0x0A) is)

-- restart: the old rate is kept
pub restart_keeps_the_rate : restart (session_of Talking Uart 0x01) Uart ≢ session_of Waiting Uart 0x01
restart_keeps_the_rate is = true≢false (ap (λ (session : Session). eqb session.rate 0x0A) is)

-- restart: the old link is kept
pub restart_keeps_the_link : restart (session_of Talking Uart 0x01) Spi ≢ session_of Waiting Uart 0x0A
restart_keeps_the_link is = false≢true (ap (λ (session : Session). is_uart session.link) is)

-- bits_per_second: the rate of the code before
pub rate_one_early : bits_per_second 0x0A ≢ 76800
unfolding bits_per_second rates from_one_to
rate_one_early is = true≢false (ap (eqb 115200) is)

-- bits_per_second: the last rate for each code above it
pub rate_past_the_table : bits_per_second 0x11 ≢ 1382400
unfolding bits_per_second from_one_to
rate_past_the_table is = true≢false (ap (eqb 0) is)

-- starting_from: the start value stays what it was
pub start_value_kept : with_start fresh_settings 0xFFFF ≢ fresh_settings
unfolding fresh_settings
start_value_kept is = true≢false (ap (λ (settings : Settings). eqb settings.start 0xFFFF) is)

-- starting_from: the links are lost
pub links_lost : (with_start fresh_settings 0xFFFF).links ≢ 0
unfolding fresh_settings
links_lost is = true≢false (ap (eqb 0x7F) is)

-- answer: replies start from 0, whatever the setting
pub reply_from_nought : (respond (with_start fresh_settings 0xFFFF) fresh_device (message 0x41 [])).reply ≢ hex 6 0x2D8000009235
unfolding hex message respond same refuse frame covered word crc byte_done bits_done bit_done shifted polynomial fresh_device fresh_settings
reply_from_nought is = true≢false (ap (same (hex 6 0x2D80000052B1)) is)

-- answer: Go takes an address only where it is a multiple of 4
pub jump_wants_alignment : in_go_region 0x08000002 ≢ false
unfolding within
jump_wants_alignment is = true≢false is

-- answer: a write that does not read back as it was sent is taken back
pub readback_rolls_back : (respond fresh_settings (on_bench Talking (one_byte 0x0F) off) (ask_write 1 0x08000400 (0x3C ∷ []))).device ≢ on_bench Talking (one_byte 0x0F) off
unfolding little message halfwords options respond serve reply_to verdict_on frame covered word crc byte_done bits_done bit_done shifted polynomial reading word_at data_of request_in reading_result request_of write_in long_at checks verdict protections write_checks flash_pages some_page some_from covers touched within in_user_region part replaced masked kept same in_either option_bytes work written fresh_settings from_one_to
readback_rolls_back is = true≢false (ap (λ (device : Device). eqb (get_or device.memory.flash 1024 0) 0x0C) is)

-- answer: a request is worked on before its checks are asked, so a refused write is written whole, on the write-protected page too
pub refused_write_is_written :
    (respond fresh_settings (full_device wrp7) (ask_write 0 0x08001BFF (0x00 ∷ 0x00 ∷ []))).device.memory.flash
    ≢ replicate 1024 0x5A ++ 0x0F ∷ replicate 4094 0x5A ++ 0x44 ∷ replicate 2047 0x5A ++ 0x00 ∷ 0x00 ∷ replicate (flash_bytes - 7170) 0x5A ++ 0x3C ∷ []
unfolding little message halfwords options respond serve verdict_on refuse frame covered word crc byte_done bits_done bit_done shifted polynomial reading word_at data_of request_in reading_result request_of write_in long_at checks verdict protections write_checks flash_pages some_page some_from covers touched within in_user_region part same in_either option_bytes fresh_settings from_one_to
refused_write_is_written is = true≢false (ap (λ (flash : List ℕ). eqb (get_or flash 7167 0) 0x5A) is)

-- answer: the wipe spares the pages under write protection
pub wipe_spares_protected : wipes rdp_wrp7 wrp7 7 ≢ false
unfolding little halfwords options rdp_on wipes
wipe_spares_protected is = true≢false is

-- ---- worked cases

-- a write that ends in a write-protected page: the byte before that page is written
pub free_part_written :
    (respond fresh_settings (prepared fresh_settings (on_bench Waiting (full_flash 0x0F) off) (handshake ∷ ask_write_options wrp7 ∷ [])) (ask_write 0 0x08001BFF (0x00 ∷ 0x00 ∷ []))).device
    ≢ on_bench Talking (replicate 1024 0x5A ++ 0x0F ∷ replicate 4094 0x5A ++ 0x44 ∷ replicate 2047 0x5A ++ 0x00 ∷ replicate (flash_bytes - 7169) 0x5A ++ 0x3C ∷ []) wrp7
unfolding prepared hex little message halfwords options after tell call_checks lay respond greet serve reply_to verdict_on refuse frame covered word crc byte_done bits_done bit_done shifted polynomial reading word_at data_of request_in reading_result request_of write_in exactly long_at checks verdict protections write_checks flash_pages some_page some_from covers touched within in_user_region part replaced same rdp_on in_either option_bytes wipes wiped wiped_pages wiped_from with_options work fresh_settings from_one_to
free_part_written is = true≢false (ap (λ (device : Device). eqb (get_or device.memory.flash 7167 0) 0x5A) is)

-- a Read that ends in a page under PCROP: it is answered with data, as from blank flash
pub protected_page_read_as_blank :
    (respond fresh_settings (prepared fresh_settings fresh_device (handshake ∷ ask_write_options pcrop5 ∷ [])) (ask_read 0x080013FF 2)).reply ≢ hex 8 0x2D900200FFFFA6AD
unfolding prepared hex little message halfwords options after tell call_checks lay respond greet serve reply_to verdict_on refuse frame covered word crc byte_done bits_done bit_done shifted polynomial reading word_at data_of request_in reading_result request_of exactly long_at checks verdict protections read_checks flash_pages some_page some_from covers touched within in_read_region part replaced same rdp_on in_either option_bytes wipes wiped wiped_pages wiped_from with_options work fresh_device fresh_flash fresh_ram fresh_nvr fresh_options fresh_settings from_one_to
protected_page_read_as_blank is = true≢false (ap (same (hex 6 0x2D630000F3CC)) is)

-- options that take read protection away: the page under write protection is not wiped
pub protected_page_spared :
    (respond fresh_settings (prepared fresh_settings (on_bench Waiting (full_flash 0x0F) off) (handshake ∷ ask_write_options rdp_wrp7 ∷ [])) (ask_write_options wrp7)).device
    ≢ on_bench Talking (replicate 7168 0xFF ++ replicate 1024 0x5A ++ replicate (flash_bytes - 8192) 0xFF) wrp7
unfolding prepared hex little message halfwords options after tell call_checks lay respond greet serve reply_to verdict_on frame covered word crc byte_done bits_done bit_done shifted polynomial reading word_at data_of request_in reading_result request_of exactly checks verdict protections part replaced same rdp_on option_bytes erased erased_pages wipes wiped wiped_pages wiped_from with_options work fresh_settings from_one_to
protected_page_spared is = true≢false (ap (λ (device : Device). eqb (get_or device.memory.flash 7168 0) 0xFF) is)
