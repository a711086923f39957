-- The laws of pages, for any size of a page and any count of pages: what a crate above goes by, with no definition of this crate opened.
--     past_the_last, turned_round, up_to_the_last, any_count, every_page     which pages a range of page numbers protects
--     wider_covers, wider_finds              more protection finds more pages
--     touched_had                            the pages that bytes of a memory touch are pages that it has
--     erase_fits, fill_erases, erase_length, on_erased, off_erased, erase_bytes     an erase: its pages are blank, and every other byte is as it was
--     wipe_turn, wipe_length, on_wiped, off_wiped, wipe_of_none, wipe_of_all, wipe_bytes     a wipe: the same of the pages that pass its test
-- Of an erase and a wipe they ask that a page has some length, that the memory is so many pages long, and that it has the pages in question. Only `every_page` asks for a count of at most 256: the ends of a
-- range are bytes, and no more pages have numbers of one byte.
use Prim.Native.Nat.{ℕ, zero, suc, ◌+◌, ◌-◌, ◌*◌, ◌/◌, ◌≤◌, ◌<◌}
use mathlib.Core.Bool.{Bool, true, false, cond}
use mathlib.Core.List.{List, ◌++◌}
use mathlib.Core.Path.{◌≡◌, refl, ◌∙◌}
use native.Mathlib.Nat.{add-mul, div-lt_iff_lt-mul, le-div_iff_mul-le, le_refl, mul-le-mul_right, suc-mul}
use native.Mathlib.Omega.{arith}
use lib.ListN.{length, take, drop, get_or, length-replicate, replicate}
use lib.Seq.{drop-append-add, take-append-add}
use Rattle.std.proofs.lemmas.Bool.Decides.{nat_tests}
use Rattle.std.proofs.lemmas.Grind.{common_steps, elements}
use Rattle.std.specs.Prelude.{Result, ⊤}
use Rattle.memory.specs.Erases.{erased_pages, wiped_from, wiped_pages}
use Rattle.memory.specs.Pages.{covers, meets, touched}
use Rattle.memory.specs.Stores.{change, replaced, replacing}
use Rattle.memory.specs.declared.Outside.{Outside}
use Rattle.memory.specs.declared.PageRun.{PageRun}
use Rattle.memory.proofs.Laws.{AllBytes, covered, no_earlier, replaced_bytes, replicate_bytes, some_grows, store_leaves}

-- ---- ranges of page numbers

module _ (total low high page : ℕ) where
  -- a page past the last is protected by no range
  pub past_the_last : total ≤ page → covers total low high page ≡ false
  unfolding covers
  past_the_last past = grind (arith, nat_tests)

  -- a range that starts above its end protects nothing
  pub turned_round : high < low → covers total low high page ≡ false
  unfolding covers
  turned_round above = grind (arith, nat_tests)

  -- a range that ends past the last page protects what one up to the last does
  pub up_to_the_last : total ≤ high + 1 → covers total low high page ≡ covers total low (total - 1) page
  unfolding covers
  up_to_the_last past = grind (arith, nat_tests)

  -- a page that two chips have is protected in both or in neither, whatever their counts of pages
  pub any_count : (other : ℕ) → page < total → page < other → covers total low high page ≡ covers other low high page
  unfolding covers
  any_count other had also = grind (arith, nat_tests)

  -- a wider range protects what a narrower one does
  pub wider_covers : (lower higher : ℕ) → lower ≤ low → high ≤ higher → covers total low high page ≡ true → covers total lower higher page ≡ true
  unfolding covers
  wider_covers lower higher below above is = grind (arith, nat_tests)

-- so it finds a page wherever the narrower one does
pub wider_finds : (total low high lower higher : ℕ) (run : PageRun) → lower ≤ low → high ≤ higher → meets total low high run ≡ true → meets total lower higher run ≡ true
unfolding meets
wider_finds total low high lower higher run below above = some_grows _ _ run (λ page. wider_covers total low high page lower higher below above)

-- of at most 256 pages each can be protected by itself, and all of them together, by ends that are bytes
pub every_page : (total page : ℕ) → total ≤ 256 → page < total → (page < 256) × (covers total page page page ≡ true) × (covers total 0 0xFF page ≡ true)
every_page total page few had =
    (omega arith, covered total page page page had (le_refl page) (le_refl page), covered total 0 0xFF page had (omega arith) (omega arith))

-- ---- the pages that a range touches

-- bytes of a memory of so many pages touch none but these
pub touched_had : (size place count total : ℕ) → 0 < size → place + count ≤ total * size → (touched size place count).first + (touched size place count).count ≤ total
unfolding touched
touched_had size place count total some inside =
    grind (arith, nat_tests, no_earlier size some place (place + count - 1), (div-lt_iff_lt-mul {k = size} {x = place + count - 1} {y = total} some).1)

-- ---- an erase

module _ (size blank : ℕ) (some : 0 < size) (total : ℕ) (memory : List ℕ) (sized : length memory ≡ total * size) (first count : ℕ) (had : first + count ≤ total) where
  -- pages that the memory has lie in it
  pub erase_fits : first * size + length (replicate (count * size) blank) ≤ length memory
  erase_fits = omega (arith, length-replicate {A = ℕ}, add-mul first count size, mul-le-mul_right size had)

  -- a value stored so many times, from the first page on, erases them
  pub fill_erases : (done : Result ⊤ Outside) (after : List ℕ) → change done after ≡ replacing memory (first * size) (replicate (count * size) blank)
      → after ≡ erased_pages size blank memory first count
  unfolding erased_pages
  fill_erases done after told = store_leaves memory (first * size) (replicate (count * size) blank) erase_fits done after told

  -- the memory is as long as before
  pub erase_length : length (erased_pages size blank memory first count) ≡ length memory
  unfolding erased_pages replaced
  erase_length = grind (arith, common_steps, erase_fits)

  -- a byte on an erased page is blank
  pub on_erased : (i : ℕ) → first ≤ i / size → i / size < first + count → get_or (erased_pages size blank memory first count) i 0 ≡ blank
  unfolding erased_pages replaced
  on_erased i from before =
      let low : first * size ≤ i = (le-div_iff_mul-le some).0 from in
      let high : i < (first + count) * size = (div-lt_iff_lt-mul some).0 before in
      grind (arith, elements, erase_fits, add-mul first count size)

  -- a byte off the erased pages stays
  pub off_erased : (i : ℕ) → (first ≤ i / size → i / size < first + count → ⊥) → get_or (erased_pages size blank memory first count) i 0 ≡ get_or memory i 0
  unfolding erased_pages replaced
  off_erased i off =
      let low : first * size ≤ i → first ≤ i / size = (le-div_iff_mul-le some).1 in
      let high : i < (first + count) * size → i / size < first + count = (div-lt_iff_lt-mul some).1 in
      grind (arith, elements, erase_fits, add-mul first count size, low, high, off)

  -- bytes stay bytes
  pub erase_bytes : blank < 256 → AllBytes memory → AllBytes (erased_pages size blank memory first count)
  unfolding erased_pages
  erase_bytes small all = replaced_bytes memory _ _ erase_fits all (replicate_bytes (count * size) blank small)

-- ---- a wipe

-- bytes that are stored behind a front leave it
behind_front : (front memory : List ℕ) (place : ℕ) (bytes : List ℕ) → replaced (front ++ memory) (length front + place) bytes ≡ front ++ replaced memory place bytes
unfolding replaced
behind_front front memory place bytes = grind (arith, common_steps, take-append-add, drop-append-add)

module _ (size blank : ℕ) (test : ℕ → Bool) where
  -- where no page passes, nothing is wiped
  none_from : (count page : ℕ) (memory : List ℕ) → ((later : ℕ) → page ≤ later → later < page + count → test later ≡ false)
      → wiped_from size blank test page count memory ≡ memory
  unfolding wiped_from
  none_from zero page memory none = refl
  none_from (suc count) page memory none =
      grind (arith, common_steps, none page, none_from count (page + 1) (drop size memory) (λ later from before. none later (omega arith) (omega arith)))

  pub wipe_of_none : (pages : ℕ) (memory : List ℕ) → ((page : ℕ) → page < pages → test page ≡ false) → wiped_pages size blank test pages memory ≡ memory
  unfolding wiped_pages
  wipe_of_none pages memory none = none_from pages 0 memory (λ page from before. none page (omega arith))

  -- one page alone
  one_page : (wipes : Bool) (memory : List ℕ) → cond wipes (replicate size blank) (take size memory) ++ drop size memory ≡ cond wipes (erased_pages size blank memory 0 1) memory
  unfolding erased_pages replaced
  one_page wipes memory = grind (arith, common_steps)

  -- of so many pages the last is erased where it passes the test, after those before it
  last_page : (count page : ℕ) (memory : List ℕ) → size + count * size ≤ length memory
      → wiped_from size blank test page (suc count) memory
      ≡ cond (test (page + count)) (erased_pages size blank (wiped_from size blank test page count memory) count 1) (wiped_from size blank test page count memory)
  unfolding wiped_from erased_pages
  last_page zero page memory room =
      let number : page + 0 ≡ page = omega arith in
      rw number (one_page (test page) memory)
  last_page (suc count) page memory room =
      let front = cond (test page) (replicate size blank) (take size memory) in
      let rest = wiped_from size blank test (page + 1) count (drop size memory) in
      grind (arith, common_steps, suc-mul count size, last_page count (page + 1) (drop size memory), behind_front front rest (count * size) (replicate (1 * size) blank))

module _ (size blank : ℕ) (some : 0 < size) (test : ℕ → Bool) (total : ℕ) (memory : List ℕ) (sized : length memory ≡ total * size) where
  -- what the wipe leaves of the first so many pages
  abbrev after : ℕ → List ℕ
  after page = wiped_pages size blank test page memory

  -- one page further: it is erased where it passes the test
  pub wipe_turn : (page : ℕ) → page < total → wiped_pages size blank test (suc page) memory
      ≡ cond (test page) (erased_pages size blank (wiped_pages size blank test page memory) page 1) (wiped_pages size blank test page memory)
  unfolding wiped_pages
  wipe_turn page had = grind (arith, common_steps, last_page size blank test page 0 memory, suc-mul page size, mul-le-mul_right size had)

  -- no page is wiped yet
  untouched : after 0 ≡ memory
  untouched = wipe_of_none size blank test 0 memory (λ page before. absurd (omega arith))

  -- the memory is as long as before
  pub wipe_length : (pages : ℕ) → pages ≤ total → length (wiped_pages size blank test pages memory) ≡ length memory
  wipe_length zero had = rw untouched
  wipe_length (suc page) had =
      let was = wipe_length page (omega arith) in
      grind (arith, common_steps, wipe_turn page, was, erase_length size blank some total (after page) (was ∙ sized) page 1)

  -- a byte on a page that passes the test is blank
  pub on_wiped : (pages i : ℕ) → pages ≤ total → i / size < pages → test (i / size) ≡ true → get_or (wiped_pages size blank test pages memory) i 0 ≡ blank
  on_wiped zero i had before passes = absurd (omega arith)
  on_wiped (suc page) i had before passes =
      let long = wipe_length page (omega arith) ∙ sized in
      let on = on_erased size blank some total (after page) long page 1 (omega arith) i in
      let off = off_erased size blank some total (after page) long page 1 (omega arith) i in
      grind (arith, common_steps, wipe_turn page, on, off, on_wiped page i)

  -- every other byte stays
  pub off_wiped : (pages i : ℕ) → pages ≤ total → (i / size < pages → test (i / size) ≡ false) → get_or (wiped_pages size blank test pages memory) i 0 ≡ get_or memory i 0
  off_wiped zero i had spared = rw untouched
  off_wiped (suc page) i had spared =
      let long = wipe_length page (omega arith) ∙ sized in
      let off = off_erased size blank some total (after page) long page 1 (omega arith) i in
      grind (arith, common_steps, wipe_turn page, off, off_wiped page i, spared)

  -- where every page passes, all of the memory is blank
  pub wipe_of_all : ((page : ℕ) → page < total → test page ≡ true) → wiped_pages size blank test total memory ≡ replicate (total * size) blank
  wipe_of_all all =
      let long = wipe_length total (le_refl total) ∙ sized in
      let on = λ (i : ℕ). (div-lt_iff_lt-mul {k = size} {x = i} {y = total} some).1 in
      grind (arith, elements, on_wiped total, all, on)

  -- bytes stay bytes
  pub wipe_bytes : blank < 256 → AllBytes memory → (pages : ℕ) → pages ≤ total → AllBytes (wiped_pages size blank test pages memory)
  wipe_bytes small all zero had = rw untouched all
  wipe_bytes small all (suc page) had =
      let was = wipe_bytes small all page (omega arith) in
      let erased = erase_bytes size blank some total (after page) (wipe_length page (omega arith) ∙ sized) page 1 (omega arith) small was in
      λ i. grind (arith, common_steps, wipe_turn page, was i, erased i)
