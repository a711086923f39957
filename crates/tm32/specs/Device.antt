-- Document 01, "The chip on the bench": a device is a session and the memory that is lent to it.
use Rattle.std.specs.Prelude.{ℕ, ◌-◌, cond, List}
use Rattle.memory.specs.Stores.{part}
use Rattle.tm32_asks.specs.Map.{flash_start, ram_start, nvr_start, in_flash, in_ram}
use Rattle.tm32_asks.specs.declared.Link.{Link}
use Rattle.tm32.specs.declared.Session.{Session}
use Rattle.tm32.specs.declared.State.{State}
use Rattle.tm32.specs.declared.State.TheVariants.{Waiting}

-- A session, put together. No other definition does that.
abbrev pub session_of : State → Link → ℕ → Session
session_of state link rate = record { state = state; link = link; rate = rate }

-- A session in another state, and one at another rate.
abbrev pub in_state : Session → State → Session
in_state session state = session_of state session.link session.rate

abbrev pub at_rate : Session → ℕ → Session
at_rate session rate = session_of session.state session.link rate

-- The rate code of a start: 115,200 bits per second.
abbrev pub start_rate : ℕ
start_rate = 0x0A

-- A start on a link: Waiting, at the rate of a start.
abbrev pub start : Link → Session
start link = session_of Waiting link start_rate

-- A restart of a session on a link. Nothing of the old session is left.
abbrev pub restart : Session → Link → Session
restart session link = start link

-- The memory that is lent: flash, RAM and NVR as lists of bytes.
pub record Memory : Type 0 where
  pub flash : List ℕ
  pub ram : List ℕ
  pub nvr : List ℕ

-- The three put together.
abbrev pub memory_of : List ℕ → List ℕ → List ℕ → Memory
memory_of flash ram nvr = record { flash = flash; ram = ram; nvr = nvr }

-- A memory with one of the three changed.
abbrev pub with_flash : Memory → List ℕ → Memory
with_flash memory flash = memory_of flash memory.ram memory.nvr

abbrev pub with_ram : Memory → List ℕ → Memory
with_ram memory ram = memory_of memory.flash ram memory.nvr

abbrev pub with_nvr : Memory → List ℕ → Memory
with_nvr memory nvr = memory_of memory.flash memory.ram nvr

-- The session and the memory.
pub record Device : Type 0 where
  pub session : Session
  pub memory : Memory

-- The two put together.
abbrev pub device_of : Session → Memory → Device
device_of session memory = record { session = session; memory = memory }

-- A device with one of the two changed.
abbrev pub with_session : Device → Session → Device
with_session device session = device_of session device.memory

abbrev pub with_memory : Device → Memory → Device
with_memory device memory = device_of device.session memory

-- The bytes that a range names, in the region that holds it. What is in neither flash nor RAM is in NVR: the checks let no other range through.
unfoldable pub bytes_at : Memory → ℕ → ℕ → List ℕ
bytes_at memory address count =
    cond (in_flash address count) (part memory.flash (address - flash_start) count)
    (cond (in_ram address count) (part memory.ram (address - ram_start) count)
    (part memory.nvr (address - nvr_start) count))
