-- Document 01, "When nothing is done": lemmas for demand 2. No work makes the flash, the RAM or the NVR longer or shorter.
use Rattle.std.specs.Prelude.{ℕ, ◌-◌, List, ◌≡◌, drop, length}
use Rattle.std.proofs.Math.Path.{refl, sym}
use Rattle.std.proofs.Common.{◌∙◌, le_refl, arith}
use Rattle.memory.specs.Stores.{kept}
use Rattle.memory.proofs.Laws.{length_kept, length_replaced}
use Rattle.tm32.specs.Device.{Device, Memory}
use Rattle.tm32_asks.specs.Map.{flash_length, flash_start, nvr_start, options_length, options_start, page_count, ram_length, ram_start}
use Rattle.tm32_asks.specs.Options.{option_bytes}
use Rattle.tm32.specs.Promises.{Lent}
use Rattle.tm32.specs.Work.{with_options, work}
use Rattle.tm32_asks.specs.declared.Request.{Request}
use Rattle.tm32_asks.specs.declared.Request.TheVariants.{Pps, Get, Read, Write, MemoryCrc, Erase, Go, WriteOptions, ReadOptions, HeartBeat, Misshapen}
use Rattle.tm32.specs.declared.Settings.{Settings}
use Rattle.tm32_asks.proofs.Accepted.{Shaped, erase_accepted, write_accepted}
use Rattle.tm32.proofs.Written.{erased_length, wiped_length}
use Rattle.demands.specs.Demand2.Memories.{SameLengths}
use Rattle.demands.specs.Messages.Ways.{Known, Stored, fits, into_flash, into_nvr, into_ram, nvr_fits, stored_so}

-- a memory is as long as itself
pub unchanged : (memory : Memory) → SameLengths memory memory
unchanged memory = record { flash = refl; ram = refl; nvr = refl }

-- ---- the work of each command

module _ (device : Device) (room : ℕ) (sized : Lent device.memory room) where
  -- a write
  by_region : (address : ℕ) (bytes : List ℕ) (after : Memory) → Stored device.memory address bytes after → SameLengths device.memory after
  by_region address bytes after (into_flash inside) =
      let place = address - flash_start in
      let whole = fits device.memory.flash flash_start flash_length address (length bytes) sized.flash inside in
      let kept_length = length_kept device.memory.flash place bytes whole in
      record { flash = length_replaced device.memory.flash place (kept device.memory.flash place bytes) (rw kept_length whole); ram = refl; nvr = refl }
  by_region address bytes after (into_ram inside) =
      let whole = fits device.memory.ram ram_start ram_length address (length bytes) sized.ram inside in
      record { flash = refl; ram = length_replaced device.memory.ram (address - ram_start) bytes whole; nvr = refl }
  by_region address bytes after (into_nvr inside) =
      let whole = nvr_fits device.memory.nvr address (length bytes) sized.nvr inside in
      record { flash = refl; ram = refl; nvr = length_replaced device.memory.nvr (address - nvr_start) bytes whole }

  -- new options
  options_lengths : (payload : List ℕ) → length payload ≡ options_length → SameLengths device.memory (with_options device.memory payload)
  unfolding with_options
  options_lengths payload shape =
      record {
        flash = wiped_length (option_bytes device.memory.nvr) payload page_count device.memory.flash sized.flash (le_refl page_count) ∙ sym sized.flash;
        ram = refl;
        nvr = length_replaced device.memory.nvr (options_start - nvr_start) payload (omega arith);
      }

module _ (settings : Settings) (device : Device) (room : ℕ) (payload : List ℕ) where
  -- of the work of each command
  pub work_lengths : (request : Request) → Known device room payload request → SameLengths device.memory (work settings device payload request).device.memory
  unfolding Shaped work
  work_lengths (Pps code) known = unchanged device.memory
  work_lengths Get known = unchanged device.memory
  work_lengths (Read address count) known = unchanged device.memory
  work_lengths (Write flag address count) known =
      let facts = write_accepted _ _ flag address count known.pass in
      by_region device room known.sized address (drop 5 payload) _ (stored_so device.memory address (drop 5 payload) (rw known.shape.counted facts.inside))
  work_lengths (MemoryCrc address count wanted) known = unchanged device.memory
  work_lengths (Erase first count) known =
      let facts = erase_accepted _ _ first count known.pass in
      record { flash = erased_length device.memory.flash first count known.sized.flash facts.inside ∙ sym known.sized.flash; ram = refl; nvr = refl }
  work_lengths (Go address) known = unchanged device.memory
  work_lengths WriteOptions known = options_lengths device room known.sized payload known.shape
  work_lengths ReadOptions known = unchanged device.memory
  work_lengths HeartBeat known = unchanged device.memory
  work_lengths Misshapen known = unchanged device.memory
