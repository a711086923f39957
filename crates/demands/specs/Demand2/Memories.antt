-- Document 01, "When nothing is done", "The chip on the bench" and "Who may touch which page": that two memories are as long as one another, that memory and settings are made of bytes, and that two
-- lots of option bytes agree in the bits that say anything. Definitions only.
use Rattle.std.specs.Prelude.{ℕ, ◌≤◌, ◌<◌, List, ◌≡◌, length}
use Rattle.memory.proofs.Laws.{AllBytes}
use Rattle.tm32.specs.Device.{Memory}
use Rattle.tm32_asks.specs.Options.{low_byte}
use Rattle.tm32.specs.declared.Settings.{Settings}

-- That two memories are as long as one another, region by region.
pub record SameLengths (old new : Memory) : Type 0 where
  pub flash : length new.flash ≡ length old.flash
  pub ram : length new.ram ≡ length old.ram
  pub nvr : length new.nvr ≡ length old.nvr

-- That flash, RAM and NVR are made of bytes.
pub record MemoryBytes (memory : Memory) : Type 0 where
  pub flash : AllBytes memory.flash
  pub ram : AllBytes memory.ram
  pub nvr : AllBytes memory.nvr

-- That the settings which Get tells as they are given are made of bytes. The links are sent as a number of 32 bits.
pub record SettingsBytes (settings : Settings) : Type 0 where
  pub version : AllBytes settings.version
  pub serial : AllBytes settings.serial
  pub «package» : settings.«package» < 256
  pub model : settings.model < 256

-- That two lists of option bytes have the same low byte in these halfwords.
pub record SameLow (one other : List ℕ) : Type 0 where
  pub first : low_byte one 1 ≡ low_byte other 1
  pub ranges : (halfword : ℕ) → 3 ≤ halfword → halfword ≤ 10 → low_byte one halfword ≡ low_byte other halfword
