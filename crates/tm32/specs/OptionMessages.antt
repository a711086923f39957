-- Document 01, "Who may touch which page": the messages that read or write the option bytes, by what they do. Where devices with different options are compared, these messages stand apart.
use Rattle.std.specs.Prelude.{ℕ, ◌+◌, Bool, true, false, ◌&&◌, List, eqb, ltb}
use Rattle.tm32.specs.After.{call_checks}
use Rattle.tm32_asks.specs.Checks.{is_length, verdict}
use Rattle.tm32.specs.Device.{Device}
use Rattle.tm32_asks.specs.Map.{in_nvr, options_length, options_start}
use Rattle.tm32_asks.specs.Request.{request_in}
use Rattle.tm32_asks.specs.declared.Request.{Request}
use Rattle.tm32_asks.specs.declared.Request.TheVariants.{Pps, Get, Read, Write, MemoryCrc, Erase, Go, WriteOptions, ReadOptions, HeartBeat, Misshapen}
use Rattle.tm32.specs.declared.State.{State}
use Rattle.tm32.specs.declared.State.TheVariants.{Waiting, Talking, Gone}

-- Whether a Read passes the checks of length and address, and touches an option byte.
unfoldable pub reads_options : ℕ → ℕ → Bool
reads_options address count =
    is_length count && in_nvr address count && ltb address (options_start + options_length) && ltb options_start (address + count)

-- Whether a request reads or writes the option bytes.
unfoldable pub touches_options : Request → Bool
touches_options (Pps code) = false
touches_options Get = false
touches_options (Read address count) = reads_options address count
touches_options (Write flag address count) = false
touches_options (MemoryCrc address count wanted) = false
touches_options (Erase first count) = false
touches_options (Go address) = false
touches_options WriteOptions = true
touches_options ReadOptions = true
touches_options HeartBeat = false
touches_options Misshapen = false

-- Only a Talking device reads requests.
unfoldable pub is_talking : State → Bool
is_talking Waiting = false
is_talking Talking = true
is_talking (Gone address) = false

-- Whether a message, sent to a device with so much room for the reply, reads or writes its option bytes, where a CRC starts from a value. A call that is refused with 1 to 5 does neither.
unfoldable pub option_message : ℕ → Device → List ℕ → ℕ → Bool
option_message start device message room =
    eqb (verdict 0 (call_checks device room)) 0 && is_talking device.session.state && touches_options (request_in start message)
