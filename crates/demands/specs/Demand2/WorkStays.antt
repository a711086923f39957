-- Document 01, "The ten commands" and "Who may touch which page": lemmas for demand 2. The work of each command leaves the bytes that it does not name, and no request that is accepted names a byte of a
-- write-protected page.
use Rattle.std.specs.Prelude.{ℕ, ◌+◌, ◌-◌, ◌*◌, ◌≤◌, ◌<◌, Bool, true, false, cond, ◌&&◌, ◌||◌, ◌≡◌, length}
use Rattle.std.proofs.Math.Bool.{not, and-true, true≢false}
use mathlib.Core.List.{List}
use Rattle.std.proofs.Math.Path.{refl, ap}
use Rattle.std.proofs.Common.{sym, ◌∙◌, arith, lit<}
use Rattle.std.proofs.Math.Decide.{dec_lt}
use Rattle.std.proofs.Math.ListN.{drop, get_or}
use Rattle.frame.specs.Frame.{data_of}
use Rattle.memory.specs.Pages.{pages, some_page, touched}
use Rattle.memory.specs.Ranges.{within}
use Rattle.memory.specs.Stores.{kept, part, replaced}
use Rattle.memory.specs.declared.PageRun.{PageRun}
use Rattle.memory.proofs.Laws.{in_region, length_kept, part_at, region_holds, replaced_before, replaced_behind, some_page_passes, touched_page}
use Rattle.memory.proofs.PageLaws.{off_erased, wipe_of_none}
use Rattle.tm32.specs.After.{tell}
use Rattle.tm32_asks.specs.Checks.{flash_pages, none_fails}
use Rattle.tm32.specs.Device.{Device, Memory, bytes_at}
use Rattle.tm32_asks.specs.Map.{blank, flash_length, flash_start, in_flash, in_nvr, in_ram, in_read_region, in_user_nvr, in_user_region, nvr_length, nvr_start, options_length, options_start, page_count, page_size, ram_length, ram_start, user_nvr_length, user_nvr_start}
use Rattle.tm32_asks.specs.Options.{option_bytes, rdp_on, under_wrp}
use Rattle.tm32.specs.Promises.{Lent}
use Rattle.tm32_asks.specs.Request.{request_in}
use Rattle.tm32.specs.Work.{erased, wiped, wipes, with_options, work}
use Rattle.tm32_asks.specs.declared.Request.{Request}
use Rattle.tm32_asks.specs.declared.Request.TheVariants.{Pps, Get, Read, Write, MemoryCrc, Erase, Go, WriteOptions, ReadOptions, HeartBeat, Misshapen}
use Rattle.tm32.specs.declared.Settings.{Settings}
use Rattle.tm32_asks.proofs.Accepted.{EraseAccepted, Shaped, WriteAccepted, erase_accepted, write_accepted}
use Rattle.demands.specs.Demand2.Named.{byte_at, named, page_of, wipes_by, wiping}
use Rattle.demands.specs.Messages.FirstFailing.{request_checks}
use Rattle.demands.specs.Messages.Ways.{Known, Stored, fits, into_flash, into_nvr, into_ram, memory_after, nvr_fits, stored_so}

-- That two memories have the same byte at an address, in whichever region it lies.
record SameByte (old new : Memory) (address : ℕ) : Type 0 where
  flash : in_flash address 1 ≡ true → get_or new.flash (address - flash_start) 0 ≡ get_or old.flash (address - flash_start) 0
  ram : in_ram address 1 ≡ true → get_or new.ram (address - ram_start) 0 ≡ get_or old.ram (address - ram_start) 0
  nvr : in_nvr address 1 ≡ true → get_or new.nvr (address - nvr_start) 0 ≡ get_or old.nvr (address - nvr_start) 0

-- ---- the byte at an address

-- a test that cannot pass fails
pub cannot : (test : Bool) → (test ≡ true → ⊥) → test ≡ false
cannot true never = absurd (never refl)
cannot false never = refl

-- a part of one byte has the byte at its place
first_of : (memory : List ℕ) (place : ℕ) → get_or (part memory place 1) 0 0 ≡ get_or memory place 0
first_of memory place =
    let there : place + 0 ≡ place = omega arith in
    part_at memory place 1 0 (lit< tt) ∙ ap (λ (i : ℕ). get_or memory i 0) there

module _ (old new : Memory) (address : ℕ) (both : SameByte old new address) where
  -- in one region
  same_first : (start : ℕ) (one other : List ℕ) → get_or other (address - start) 0 ≡ get_or one (address - start) 0
      → get_or (part other (address - start) 1) 0 0 ≡ get_or (part one (address - start) 1) 0 0
  same_first start one other is = first_of other (address - start) ∙ is ∙ sym (first_of one (address - start))

  -- by the region of the address
  by_region : (flash ram : Bool) → in_flash address 1 ≡ flash → in_ram address 1 ≡ ram → (flash || ram || in_nvr address 1) ≡ true
      → get_or (cond flash (part new.flash (address - flash_start) 1) (cond ram (part new.ram (address - ram_start) 1) (part new.nvr (address - nvr_start) 1))) 0 0
      ≡ get_or (cond flash (part old.flash (address - flash_start) 1) (cond ram (part old.ram (address - ram_start) 1) (part old.nvr (address - nvr_start) 1))) 0 0
  by_region true ram flashed rammed readable = same_first flash_start old.flash new.flash (both.flash flashed)
  by_region false true flashed rammed readable = same_first ram_start old.ram new.ram (both.ram rammed)
  by_region false false flashed rammed readable = same_first nvr_start old.nvr new.nvr (both.nvr readable)

  -- so the byte at the address is the same
  same_byte : in_read_region address 1 ≡ true → byte_at new address ≡ byte_at old address
  unfolding in_read_region byte_at bytes_at
  same_byte readable = by_region (in_flash address 1) (in_ram address 1) refl refl readable

-- ---- a byte outside a range

module _ (memory : List ℕ) (start place : ℕ) (bytes : List ℕ) (whole : place + length bytes ≤ length memory) where
  -- before the range, in it, or behind
  by_side : (from count address : ℕ) → start + place ≡ from → length bytes ≡ count → start ≤ address → within from count address 1 ≡ false
      → Dec (address < from) → Dec (address < from + count)
      → get_or (replaced memory place bytes) (address - start) 0 ≡ get_or memory (address - start) 0
  by_side from count address is sized later outside (yes before) end = replaced_before memory place bytes whole (address - start) (omega arith)
  by_side from count address is sized later outside (no start') (yes before) =
      absurd (true≢false (sym (in_region from count address 1 (omega arith) (omega arith)) ∙ outside))
  by_side from count address is sized later outside (no start') (no end) = replaced_behind memory place bytes whole (address - start) (omega arith)

  -- stays where bytes are stored
  outside_stays : (from count address : ℕ) → start + place ≡ from → length bytes ≡ count → start ≤ address → within from count address 1 ≡ false
      → get_or (replaced memory place bytes) (address - start) 0 ≡ get_or memory (address - start) 0
  outside_stays from count address is sized later outside = by_side from count address is sized later outside (dec_lt address from) (dec_lt address (from + count))

-- ---- the work of each command

-- a wipe that does not take place leaves the flash
pub not_wiped : (old new : List ℕ) (pages : ℕ) (flash : List ℕ) → (rdp_on old && not (rdp_on new)) ≡ false → wiped old new pages flash ≡ flash
unfolding wiped wipes
not_wiped old new pages flash spared = wipe_of_none page_size blank (wipes old new) pages flash (λ page before. spared)

module _ (device : Device) (room : ℕ) (sized : Lent device.memory room) (address : ℕ) where
  -- a write
  write_stays : (from : ℕ) (bytes : List ℕ) (after : Memory) → within from (length bytes) address 1 ≡ false → Stored device.memory from bytes after
      → SameByte device.memory after address
  write_stays from bytes after outside (into_flash inside) =
      let place = from - flash_start in
      let old = device.memory.flash in
      let ends = region_holds flash_start flash_length from (length bytes) inside in
      let whole = fits old flash_start flash_length from (length bytes) sized.flash inside in
      let kept_length = length_kept old place bytes whole in
      record {
        flash = λ there. outside_stays old flash_start place (kept old place bytes) (rw kept_length whole) from (length bytes) address (omega arith) kept_length
            (region_holds flash_start flash_length address 1 there).0 outside;
        ram = λ there. refl;
        nvr = λ there. refl;
      }
  write_stays from bytes after outside (into_ram inside) =
      let ends = region_holds ram_start ram_length from (length bytes) inside in
      let whole = fits device.memory.ram ram_start ram_length from (length bytes) sized.ram inside in
      record {
        flash = λ there. refl;
        ram = λ there. outside_stays device.memory.ram ram_start (from - ram_start) bytes whole from (length bytes) address (omega arith) refl
            (region_holds ram_start ram_length address 1 there).0 outside;
        nvr = λ there. refl;
      }
  write_stays from bytes after outside (into_nvr inside) =
      let ends = region_holds user_nvr_start user_nvr_length from (length bytes) inside in
      let whole = nvr_fits device.memory.nvr from (length bytes) sized.nvr inside in
      record {
        flash = λ there. refl;
        ram = λ there. refl;
        nvr = λ there. outside_stays device.memory.nvr nvr_start (from - nvr_start) bytes whole from (length bytes) address (omega arith) refl
            (region_holds nvr_start nvr_length address 1 there).0 outside;
      }

  -- an erase
  erase_stays : (first count : ℕ) → first + count ≤ page_count → within (flash_start + first * page_size) (count * page_size) address 1 ≡ false → in_flash address 1 ≡ true
      → get_or (erased device.memory.flash first count) (address - flash_start) 0 ≡ get_or device.memory.flash (address - flash_start) 0
  unfolding erased
  erase_stays first count inside outside there =
      let here = region_holds flash_start flash_length address 1 there in
      off_erased page_size blank (lit< tt) page_count device.memory.flash sized.flash first count inside (address - flash_start)
      (λ from before. true≢false (sym (in_region (flash_start + first * page_size) (count * page_size) address 1 (omega arith) (omega arith)) ∙ outside))

  -- new options
  options_stay : (payload : List ℕ) → length payload ≡ options_length → within options_start options_length address 1 ≡ false
      → (wipes_by (option_bytes device.memory.nvr) payload WriteOptions && in_flash address 1) ≡ false
      → SameByte device.memory (with_options device.memory payload) address
  unfolding with_options wipes_by
  options_stay payload shape outside spared =
      let old = option_bytes device.memory.nvr in
      record {
        flash = λ there. ap (λ (bytes : List ℕ). get_or bytes (address - flash_start) 0)
            (not_wiped old payload page_count device.memory.flash (sym (and-true (rdp_on old && not (rdp_on payload))) ∙ (rw there at spared)));
        ram = λ there. refl;
        nvr = λ there. outside_stays device.memory.nvr nvr_start (options_start - nvr_start) payload (omega arith) options_start options_length address refl shape
            (region_holds nvr_start nvr_length address 1 there).0 outside;
      }

module _ (settings : Settings) (device : Device) (room : ℕ) (payload : List ℕ) (address : ℕ) (readable : in_read_region address 1 ≡ true) where
  -- of the work of each command
  work_stays : (request : Request) → named request address ≡ false → (wipes_by (option_bytes device.memory.nvr) payload request && in_flash address 1) ≡ false
      → Known device room payload request → byte_at (work settings device payload request).device.memory address ≡ byte_at device.memory address
  unfolding Shaped work named
  work_stays (Pps code) unnamed spared known = refl
  work_stays Get unnamed spared known = refl
  work_stays (Read from count) unnamed spared known = refl
  work_stays (Write flag from count) unnamed spared known =
      let facts = write_accepted _ _ flag from count known.pass in
      let bytes = drop 5 payload in
      same_byte device.memory _ address
      (write_stays device room known.sized address from bytes _ (rw known.shape.counted unnamed) (stored_so device.memory from bytes (rw known.shape.counted facts.inside)))
      readable
  work_stays (MemoryCrc from count wanted) unnamed spared known = refl
  work_stays (Erase first count) unnamed spared known =
      let facts = erase_accepted _ _ first count known.pass in
      same_byte device.memory _ address
      (record { flash = erase_stays device room known.sized address first count facts.inside unnamed; ram = λ there. refl; nvr = λ there. refl })
      readable
  work_stays (Go to) unnamed spared known = refl
  work_stays WriteOptions unnamed spared known =
      same_byte device.memory _ address (options_stay device room known.sized address payload known.shape unnamed spared) readable
  work_stays ReadOptions unnamed spared known = refl
  work_stays HeartBeat unnamed spared known = refl
  work_stays Misshapen unnamed spared known = refl

-- ---- pages under write protection

-- a run of which no page passes a test does not have a page that passes it
not_there : (test : ℕ → Bool) (run : PageRun) (page : ℕ) → some_page test run ≡ false → test page ≡ true → run.first ≤ page → page < run.first + run.count → ⊥
not_there test run page none passes from before = true≢false (sym (some_page_passes test run page from before passes) ∙ none)

module _ (address : ℕ) (flashed : in_flash address 1 ≡ true) where
  -- by the region of the range
  by_user : (from count : ℕ) → within from count address 1 ≡ true → (flash ram : Bool) → in_flash from count ≡ flash → in_ram from count ≡ ram
      → (flash || ram || in_user_nvr from count) ≡ true → flash ≡ true
  by_user from count over true ram flash_is ram_is user = refl
  by_user from count over false true flash_is ram_is user =
      let here = region_holds flash_start flash_length address 1 flashed in
      let there = region_holds ram_start ram_length from count ram_is in
      let ends = region_holds from count address 1 over in
      absurd (omega arith)
  by_user from count over false false flash_is ram_is user =
      let here = region_holds flash_start flash_length address 1 flashed in
      let there = region_holds user_nvr_start user_nvr_length from count user in
      let ends = region_holds from count address 1 over in
      absurd (omega arith)

  -- a range of the user's that has a byte of the flash lies in the flash
  all_in_flash : (from count : ℕ) → within from count address 1 ≡ true → in_user_region from count ≡ true → in_flash from count ≡ true
  unfolding in_user_region
  all_in_flash from count over user = by_user from count over (in_flash from count) (in_ram from count) refl refl user

  -- a write that is accepted does not name an address on a protected page
  write_unnamed : (options : List ℕ) (from count : ℕ) → under_wrp options (page_of address) ≡ true → WriteAccepted options from count → within from count address 1 ≡ true → ⊥
  unfolding flash_pages
  write_unnamed options from count under facts over =
      let inside = all_in_flash from count over facts.inside in
      let ends = region_holds from count address 1 over in
      let low = region_holds flash_start flash_length from count inside in
      let run = touched_page page_size (from - flash_start) count (lit< tt) (address - flash_start) (omega arith) (omega arith) in
      not_there (under_wrp options) (touched page_size (from - flash_start) count) (page_of address) (rw inside at facts.unprotected) under run.0 run.1

  -- nor does an erase
  erase_unnamed : (options : List ℕ) (first count : ℕ) → under_wrp options (page_of address) ≡ true → EraseAccepted options first count
      → within (flash_start + first * page_size) (count * page_size) address 1 ≡ true → ⊥
  erase_unnamed options first count under facts over =
      let ends = region_holds (flash_start + first * page_size) (count * page_size) address 1 over in
      not_there (under_wrp options) (pages first count) (page_of address) facts.unprotected under (omega arith) (omega arith)

  -- nor do new options, which lie elsewhere
  options_unnamed : within options_start options_length address 1 ≡ true → ⊥
  options_unnamed over =
      let here = region_holds flash_start flash_length address 1 flashed in
      let ends = region_holds options_start options_length address 1 over in
      omega arith

  -- so no request that is accepted names it
  pub protected_unnamed : (device : Device) (request : Request) → under_wrp (option_bytes device.memory.nvr) (page_of address) ≡ true → none_fails (request_checks device request) ≡ true
      → named request address ≡ false
  unfolding named
  protected_unnamed device (Pps code) under pass = refl
  protected_unnamed device Get under pass = refl
  protected_unnamed device (Read from count) under pass = refl
  protected_unnamed device (Write flag from count) under pass = cannot _ (write_unnamed _ from count under (write_accepted _ _ flag from count pass))
  protected_unnamed device (MemoryCrc from count wanted) under pass = refl
  protected_unnamed device (Erase first count) under pass = cannot _ (erase_unnamed _ first count under (erase_accepted _ _ first count pass))
  protected_unnamed device (Go to) under pass = refl
  protected_unnamed device WriteOptions under pass = cannot _ options_unnamed
  protected_unnamed device ReadOptions under pass = refl
  protected_unnamed device HeartBeat under pass = refl
  protected_unnamed device Misshapen under pass = refl

-- ---- every message

module _ (settings : Settings) (device : Device) (message : List ℕ) (room address : ℕ) where
  -- a byte stays that is not named where the work is done
  pub told_stays : in_read_region address 1 ≡ true → (Known device room (data_of message) (request_in settings.start message) → named (request_in settings.start message) address ≡ false)
      → (wiping settings.start device message && in_flash address 1) ≡ false → byte_at (tell settings device message room).device.memory address ≡ byte_at device.memory address
  unfolding wiping
  told_stays readable unnamed spared =
      memory_after settings device message room (λ (memory : Memory). byte_at memory address ≡ byte_at device.memory address) refl
      (λ known. work_stays settings device room (data_of message) address readable (request_in settings.start message) (unnamed known) spared known)
