-- Document 01, "The chip on the bench" and "Who may touch which page": what else follows for demand 2 of the pages of this chip. `memory.PageLaws` says it of any chip; here the chip's own count of pages takes the
-- place of any count, and is shown to be small enough.
use Rattle.std.specs.Prelude.{ℕ, ◌+◌, ◌-◌, ◌≤◌, ◌<◌, Bool, true, false, cond, ◌||◌, List, ◌≡◌, refl}
use Rattle.std.proofs.Common.{ap₂, arith, lit<, lit≤}
use Rattle.memory.specs.Pages.{covers, pages, touched}
use Rattle.memory.specs.declared.PageRun.{PageRun}
use Rattle.memory.proofs.Laws.{region_holds}
use Rattle.memory.proofs.PageLaws.{every_page, past_the_last, touched_had}
use Rattle.tm32_asks.specs.Checks.{flash_pages}
use Rattle.tm32_asks.specs.Map.{flash_length, flash_start, in_flash, page_count, page_size}
use Rattle.tm32_asks.specs.Options.{in_either, low_byte, under_pcrop, under_wrp}

-- a page past the last is in none of two ranges
in_neither : (options : List ℕ) (halfword page : ℕ) → page_count ≤ page → in_either options halfword page ≡ false
unfolding in_either
in_neither options halfword page past =
    ap₂ ◌||◌ (past_the_last page_count (low_byte options halfword) (low_byte options (halfword + 1)) page past)
    (past_the_last page_count (low_byte options (halfword + 2)) (low_byte options (halfword + 2 + 1)) page past)

-- so no option bytes put it under PCROP or WRP
pub past_the_last_free : (options : List ℕ) (page : ℕ) → page_count ≤ page → (under_pcrop options page ≡ false) × (under_wrp options page ≡ false)
past_the_last_free options page past = (in_neither options 3 page past, in_neither options 7 page past)

-- each page has a number of one byte, a range can cover it by itself, and one from 0 to 255 covers all
pub each_page_named : (page : ℕ) → page < page_count → (page < 256) × (covers page_count page page page ≡ true) × (covers page_count 0 0xFF page ≡ true)
each_page_named page had = every_page page_count page (lit≤ tt) had

-- by whether a range lies in the flash
by_region : (address count : ℕ) (flash : Bool) → in_flash address count ≡ flash
    → (let run : PageRun = cond flash (touched page_size (address - flash_start) count) (pages 0 0) in run.first + run.count ≤ page_count)
by_region address count true inside =
    let ends = region_holds flash_start flash_length address count inside in
    touched_had page_size (address - flash_start) count page_count (lit< tt) (omega arith)
by_region address count false inside = lit≤ tt

-- the pages that a range touches are pages that the chip has
pub touched_pages_had : (address count : ℕ) → (flash_pages address count).first + (flash_pages address count).count ≤ page_count
unfolding flash_pages
touched_pages_had address count = by_region address count (in_flash address count) refl
