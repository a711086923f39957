-- Document 01, "The ten commands" and "Who may touch which page": which bytes a message names as ones to change, and which messages wipe the flash. Definitions only.
use Rattle.std.specs.Prelude.{ℕ, ◌+◌, ◌-◌, ◌*◌, ◌/◌, Bool, false, not, ◌&&◌, List, get_or}
use Rattle.frame.specs.Frame.{data_of}
use Rattle.memory.specs.Ranges.{within}
use Rattle.tm32.specs.Device.{Device, Memory, bytes_at}
use Rattle.tm32_asks.specs.Map.{flash_start, options_length, options_start, page_size}
use Rattle.tm32_asks.specs.Options.{option_bytes, rdp_on}
use Rattle.tm32_asks.specs.Request.{request_in}
use Rattle.tm32_asks.specs.declared.Request.{Request}
use Rattle.tm32_asks.specs.declared.Request.TheVariants.{Pps, Get, Read, Write, MemoryCrc, Erase, Go, WriteOptions, ReadOptions, HeartBeat, Misshapen}

-- The byte at an address.
unfoldable pub byte_at : Memory → ℕ → ℕ
byte_at memory address = get_or (bytes_at memory address 1) 0 0

-- Whether a request names an address as one to change: Write its range, Erase its pages, Write options the option bytes.
unfoldable pub named : Request → ℕ → Bool
named (Pps code) address = false
named Get address = false
named (Read from count) address = false
named (Write flag from count) address = within from count address 1
named (MemoryCrc from count wanted) address = false
named (Erase first count) address = within (flash_start + first * page_size) (count * page_size) address 1
named (Go to) address = false
named WriteOptions address = within options_start options_length address 1
named ReadOptions address = false
named HeartBeat address = false
named Misshapen address = false

-- Whether a request with its data wipes the flash: it writes options that take read protection away.
unfoldable pub wipes_by : List ℕ → List ℕ → Request → Bool
wipes_by options payload (Pps code) = false
wipes_by options payload Get = false
wipes_by options payload (Read address count) = false
wipes_by options payload (Write flag address count) = false
wipes_by options payload (MemoryCrc address count wanted) = false
wipes_by options payload (Erase first count) = false
wipes_by options payload (Go address) = false
wipes_by options payload WriteOptions = rdp_on options && not (rdp_on payload)
wipes_by options payload ReadOptions = false
wipes_by options payload HeartBeat = false
wipes_by options payload Misshapen = false

-- The same of a message, where a CRC starts from a value.
unfoldable pub wiping : ℕ → Device → List ℕ → Bool
wiping start device message = wipes_by (option_bytes device.memory.nvr) (data_of message) (request_in start message)

-- The page of an address in the flash.
abbrev pub page_of : ℕ → ℕ
page_of address = (address - flash_start) / page_size
