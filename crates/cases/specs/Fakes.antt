-- Document 01, "What nobody may be able to fake": two of its false devices, each written beside the right one. Each replies as the right one does, whatever the message, and is told apart by the memory
-- alone. The contract of the device's code is an equation with `after`, so code that does what they do does not meet it. The other three are changes of a line of code: docs/OUTCOMES.md.
use Rattle.std.specs.Prelude.{ℕ, cond, List, ◌≢◌, ◌≡◌, refl, eqb, get_or}
use Rattle.std.proofs.Common.{true≢false, ap}
use Rattle.std.proofs.lemmas.Bool.{false≢true}
use Rattle.frame.specs.Crc.{bit_done, bits_done, byte_done, crc, polynomial, shifted}
use Rattle.frame.specs.Frame.{covered, data_of, frame, reading, word, word_at}
use Rattle.memory.specs.Pages.{covers, some_from, some_page, touched}
use Rattle.memory.specs.Ranges.{within}
use Rattle.memory.specs.Stores.{kept, masked, part, replaced, same}
use Rattle.memory.proofs.Choices.{of_both}
use Rattle.tm32.specs.After.{After, after, after_of, call_checks, lay, tell}
use Rattle.tm32_asks.specs.Checks.{checks, flash_pages, protections, verdict, write_checks}
use Rattle.tm32.specs.Device.{Device, device_of}
use Rattle.tm32.specs.Fresh.{fresh_device, fresh_flash, fresh_nvr, fresh_options, fresh_ram, fresh_settings}
use Rattle.tm32_asks.specs.Map.{in_user_region}
use Rattle.tm32_asks.specs.Numbers.{from_one_to, long_at}
use Rattle.tm32_asks.specs.Options.{in_either, option_bytes}
use Rattle.tm32_asks.specs.Request.{reading_result, request_in, request_of, write_in}
use Rattle.tm32.specs.Respond.{greet, hello, reply_to, respond, serve, verdict_on}
use Rattle.tm32.specs.Work.{work, written}
use Rattle.tm32.specs.declared.Settings.{Settings}
use Rattle.cases.specs.Cases.{blank_device, lent_buffer, put}
use Rattle.cases.specs.Wire.{halfwords, handshake, hex, little, message, off, options}

-- That two outcomes are the same but for the memory: session, answer, and every byte of the reply buffer.
abbrev pub SameButMemory : After → After → Type 0
SameButMemory one other = (one.device.session ≡ other.device.session) × (one.answer ≡ other.answer) × (one.buffer ≡ other.buffer)

-- The byte at the start of page 1, to which `put` writes.
abbrev pub byte_of_page1 : After → ℕ
byte_of_page1 outcome = get_or outcome.device.memory.flash 1024 0

-- ---- it replies, and stores nothing

-- Answer, buffer and session are right, the data of Get and Read and the results 0x92 and 0xF4 with them; the memory is as it came.
unfoldable pub stores_nothing : Settings → Device → List ℕ → List ℕ → After
stores_nothing settings device message buffer =
    let right : After = after settings device message buffer in
    after_of (device_of right.device.session device.memory) right.answer right.buffer

pub stores_nothing_replies_right : (settings : Settings) (device : Device) (message buffer : List ℕ)
    → SameButMemory (stores_nothing settings device message buffer) (after settings device message buffer)
unfolding stores_nothing
stores_nothing_replies_right settings device message buffer = (refl, refl, refl)

-- The memory after a Write tells it apart.
pub stores_nothing_differs : stores_nothing fresh_settings (blank_device off) (put 0x3C) lent_buffer ≢ after fresh_settings (blank_device off) (put 0x3C) lent_buffer
unfolding stores_nothing little message halfwords options after tell call_checks lay respond serve reply_to verdict_on frame covered word crc byte_done bits_done bit_done shifted polynomial reading word_at data_of request_in reading_result request_of write_in long_at checks verdict protections write_checks flash_pages some_page some_from covers touched within in_user_region part replaced masked kept same in_either option_bytes work written fresh_settings from_one_to
stores_nothing_differs is = false≢true (ap (λ (outcome : After). eqb (byte_of_page1 outcome) 0x3C) is)

-- ---- it applies a later message at the handshake

-- Answer, buffer and session are right; the memory after the handshake is already what the later message would leave.
unfoldable pub applies_early : List ℕ → Settings → Device → List ℕ → List ℕ → After
applies_early later settings device message buffer =
    let right : After = after settings device message buffer in
    let onward : After = after settings right.device later buffer in
    cond (same message hello) (after_of (device_of right.device.session onward.device.memory) right.answer right.buffer) right

pub applies_early_replies_right : (later : List ℕ) (settings : Settings) (device : Device) (message buffer : List ℕ)
    → SameButMemory (applies_early later settings device message buffer) (after settings device message buffer)
unfolding applies_early
applies_early_replies_right later settings device message buffer =
    let right = after settings device message buffer in
    of_both (λ (outcome : After). SameButMemory outcome right) (same message hello) (refl, refl, refl) (refl, refl, refl)

-- The memory after the handshake tells it apart.
pub applies_early_differs : applies_early (put 0x3C) fresh_settings fresh_device handshake lent_buffer ≢ after fresh_settings fresh_device handshake lent_buffer
unfolding applies_early hex little message halfwords options after tell call_checks lay respond greet serve reply_to verdict_on frame covered word crc byte_done bits_done bit_done shifted polynomial reading word_at data_of request_in reading_result request_of write_in long_at checks verdict protections write_checks flash_pages some_page some_from covers touched within in_user_region part replaced masked kept same in_either option_bytes work written fresh_device fresh_flash fresh_ram fresh_nvr fresh_options fresh_settings from_one_to
applies_early_differs is = true≢false (ap (λ (outcome : After). eqb (byte_of_page1 outcome) 0x3C) is)
