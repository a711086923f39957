-- Document 01, "The ten commands" and "Who may touch which page": what an accepted request does.
use Rattle.std.specs.Prelude.{ℕ, ◌-◌, ◌^◌, Bool, cond, not, ◌&&◌, List, [], ◌∷◌, ◌++◌, eqb, length, drop}
use Rattle.frame.specs.Crc.{crc}
use Rattle.memory.specs.Erases.{erased_pages, wiped_pages}
use Rattle.memory.specs.Stores.{kept, replaced, same}
use Rattle.memory.specs.declared.Programmed.{Programmed}
use Rattle.memory.specs.declared.Programmed.TheVariants.{AsGiven, Differs}
use Rattle.tm32.specs.Device.{Device, Memory, at_rate, bytes_at, in_state, memory_of, with_flash, with_memory, with_nvr, with_ram, with_session}
use Rattle.tm32_asks.specs.Map.{blank, flash_start, in_flash, in_ram, nvr_start, options_start, page_count, page_size, ram_start}
use Rattle.tm32_asks.specs.Numbers.{long}
use Rattle.tm32_asks.specs.Options.{option_bytes, rdp_on}
use Rattle.tm32_asks.specs.Results.{readback_differs, work_done, wrong_shape, wrong_crc}
use Rattle.tm32_asks.specs.declared.Request.{Request}
use Rattle.tm32_asks.specs.declared.Request.TheVariants.{Pps, Get, Read, Write, MemoryCrc, Erase, Go, WriteOptions, ReadOptions, HeartBeat, Misshapen}
use Rattle.tm32.specs.declared.Settings.{Settings}
use Rattle.tm32.specs.declared.State.TheVariants.{Gone}

-- What comes of work: the result, the reply's data, and the device afterwards.
pub record Worked : Type 0 where
  pub result : ℕ
  pub payload : List ℕ
  pub device : Device

-- The three put together.
abbrev pub worked : ℕ → List ℕ → Device → Worked
worked result payload device = record { result = result; payload = payload; device = device }

-- Get tells which commands there are: a bit for each of these, from bit 0 on. Heart beat has none.
unfoldable pub told_commands : List ℕ
told_commands = 0x01 ∷ 0x11 ∷ 0x12 ∷ 0x13 ∷ 0x14 ∷ 0x21 ∷ 0x31 ∷ 0x32 ∷ 0x00 ∷ []

-- All of those bits.
unfoldable pub command_word : ℕ
command_word = 2 ^ length told_commands - 1

-- The bits of the link word, from bit 0 on. It is a setting, and is sent as it is given.
abbrev pub uart1 : ℕ
uart1 = 2 ^ 0

abbrev pub uart2 : ℕ
uart2 = 2 ^ 1

abbrev pub uart3 : ℕ
uart3 = 2 ^ 2

abbrev pub spi1 : ℕ
spi1 = 2 ^ 3

abbrev pub spi2 : ℕ
spi2 = 2 ^ 4

abbrev pub i2c1 : ℕ
i2c1 = 2 ^ 5

abbrev pub i2c2 : ℕ
i2c2 = 2 ^ 6

-- The 24 bytes of Get: version, serial, package, model, commands, links.
unfoldable pub information : Settings → List ℕ
information settings =
    settings.version ++ settings.serial ++ settings.«package» ∷ settings.model ∷ long command_word ++ long settings.links

-- Write: a flash byte can only lose bits; RAM and NVR take the bytes as they are.
unfoldable pub written : Memory → ℕ → List ℕ → Memory
written memory address bytes =
    cond (in_flash address (length bytes))
    (with_flash memory (replaced memory.flash (address - flash_start) (kept memory.flash (address - flash_start) bytes)))
    (cond (in_ram address (length bytes)) (with_ram memory (replaced memory.ram (address - ram_start) bytes))
    (with_nvr memory (replaced memory.nvr (address - nvr_start) bytes)))

-- What the answer of programming comes to in 01's numbers, for a write with a flag: where some byte is not what was sent, flag 1 is told so. What was written stays either way.
unfoldable pub programmed_result : ℕ → Programmed → ℕ
programmed_result flag AsGiven = work_done
programmed_result flag Differs = cond (eqb flag 1) readback_differs work_done

-- The result of a write, by whether each byte is now what was sent.
unfoldable pub readback : ℕ → ℕ → List ℕ → Memory → ℕ
readback flag address bytes after = programmed_result flag (cond (same (bytes_at after address (length bytes)) bytes) AsGiven Differs)

-- Memory CRC: the frame's own CRC over the range, from the same start value, against the one that was sent.
unfoldable pub compared : ℕ → Memory → ℕ → ℕ → ℕ → ℕ
compared start memory address count wanted = cond (eqb (crc start (bytes_at memory address count)) wanted) work_done wrong_crc

-- Erase: so many pages from the first on become blank.
unfoldable pub erased : List ℕ → ℕ → ℕ → List ℕ
erased flash first count = erased_pages page_size blank flash first count

-- Whether writing new options over old ones wipes a page: each page, where read protection goes from on to off. Write protection spares none.
unfoldable pub wipes : List ℕ → List ℕ → ℕ → Bool
wipes old new page = rdp_on old && not (rdp_on new)

-- The flash once the wipe has gone over its first so many pages.
unfoldable pub wiped : List ℕ → List ℕ → ℕ → List ℕ → List ℕ
wiped old new pages flash = wiped_pages page_size blank (wipes old new) pages flash

-- Write options: first the wipe, then the bytes are stored. The next message already meets them.
unfoldable pub with_options : Memory → List ℕ → Memory
with_options memory options =
    memory_of
    (wiped (option_bytes memory.nvr) options page_count memory.flash)
    memory.ram
    (replaced memory.nvr (options_start - nvr_start) options)

-- The work of each command, given the data of its frame. Three of them have data for their reply.
unfoldable pub work : Settings → Device → List ℕ → Request → Worked
work settings device payload (Pps code) = worked work_done [] (with_session device (at_rate device.session code))
work settings device payload Get = worked work_done (information settings) device
work settings device payload (Read address count) = worked work_done (bytes_at device.memory address count) device
work settings device payload (Write flag address count) =
    let after : Memory = written device.memory address (drop 5 payload) in
    worked (readback flag address (drop 5 payload) after) [] (with_memory device after)
work settings device payload (MemoryCrc address count wanted) = worked (compared settings.start device.memory address count wanted) [] device
work settings device payload (Erase first count) = worked work_done [] (with_memory device (with_flash device.memory (erased device.memory.flash first count)))
work settings device payload (Go address) = worked work_done [] (with_session device (in_state device.session (Gone address)))
work settings device payload WriteOptions = worked work_done [] (with_memory device (with_options device.memory payload))
work settings device payload ReadOptions = worked work_done (option_bytes device.memory.nvr) device
work settings device payload HeartBeat = worked work_done [] device
-- This never comes here: the checks refuse it.
work settings device payload Misshapen = worked wrong_shape [] device
