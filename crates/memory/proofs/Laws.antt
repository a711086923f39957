-- The laws of lent memory: what a crate above goes by, with no definition of this crate opened. Each holds of any numbers and any lists.
--     length_part, part_at, parts_sized, part_same     a part of a memory
--     length_replaced, part_of_replaced, replaced_inside, replaced_before, replaced_behind, replaced_nothing
--                                            a memory with other bytes from a place on: these stand there, and every other byte is as it was
--     length_masked, masked_at, length_kept, kept_at     what programming leaves of bytes that are given
--     same_itself, same_equal                the comparison of two lists
--     stored, store_leaves, not_stored, programmed, not_programmed     which answer a store gives, and what it leaves of the memory
--     store_answered                         the other way round: what is known of a store by its answer
--     in_region, region_holds                a range lies in a region just where both its ends do
--     some_page_passes, some_none, some_one, some_grows, some_either     whether some page of a run passes a test
--     covered, covers_known, meets_is        ranges of page numbers
--     no_earlier, touched_is, touched_nothing, touched_page, page_touched     the run of the pages on which a range has a byte
--     part_bytes, masked_bytes, kept_bytes, replicate_bytes, replaced_bytes     bytes stay bytes
-- Assumes nothing.
use Prim.Native.Nat.{ℕ, zero, suc, ◌+◌, ◌-◌, ◌*◌, ◌/◌, ◌≤◌, ◌<◌}
use mathlib.Core.Bool.{Bool, true, false, cond, ◌||◌}
use mathlib.Core.List.{List, [], ◌∷◌}
use mathlib.Core.Path.{◌≡◌, refl, sym, ap, ◌∙◌}
use native.Mathlib.Decide.{dec_le}
use native.Mathlib.Nat.{div-mul-le_self, le_refl, le_trans, le-div_iff_mul-le, mul-div_cancel}
use native.Mathlib.Omega.{arith}
use lib.Bits.{bit_and, and_zero_l, and_zero_r, and_le_r}
use lib.Dec.{leb}
use lib.ListN.{length, get_or, replicate, length-take, length-drop}
use lib.Seq.{paste-zero}
use Rattle.std.proofs.lemmas.Bool.Decides.{nat_tests}
use Rattle.std.proofs.lemmas.Grind.{common_steps, elements}
use Rattle.std.proofs.lemmas.List.{get_or_past}
use Rattle.std.specs.Prelude.{Result, Ok, Err, ⊤, is_ok}
use Rattle.memory.specs.Pages.{pages, touched, some_page, covers, meets}
use Rattle.memory.specs.Ranges.{within}
use Rattle.memory.specs.Stores.{part, replaced, masked, same, kept, holds, Change, change, outside, replacing, outcome, programming}
use Rattle.memory.specs.declared.Outside.{Outside}
use Rattle.memory.specs.declared.PageRun.{PageRun}
use Rattle.memory.specs.declared.Programmed.TheVariants.{AsGiven, Differs}
use Rattle.memory.proofs.Runs.{alone, found, grows, either, none_found}

-- ---- a part of a memory

-- a part that lies in the memory is as long as was asked
pub length_part : (memory : List ℕ) (place count : ℕ) → place + count ≤ length memory → length (part memory place count) ≡ count
unfolding part
length_part memory place count fits = grind (arith, common_steps)

-- it counts its bytes from the place on
pub part_at : (memory : List ℕ) (place count i : ℕ) → i < count → get_or (part memory place count) i 0 ≡ get_or memory (place + i) 0
unfolding part
part_at memory place count i inside = grind (arith, common_steps)

-- parts of memories of one length are of one length
pub parts_sized : (one other : List ℕ) (place count : ℕ) → length one ≡ length other → length (part one place count) ≡ length (part other place count)
unfolding part
parts_sized one other place count sized = simp (length-take, length-drop, sized)

-- two memories of one length that agree on a range have the same part there
pub part_same : (one other : List ℕ) (place count : ℕ) → length one ≡ length other → ((i : ℕ) → place ≤ i → i < place + count → get_or one i 0 ≡ get_or other i 0)
    → part one place count ≡ part other place count
unfolding part
part_same one other place count sized agree = grind (arith, elements, agree)

-- ---- a memory with other bytes from a place on

module _ (memory : List ℕ) (place : ℕ) (bytes : List ℕ) (fits : place + length bytes ≤ length memory) where
  -- it is as long as before
  pub length_replaced : length (replaced memory place bytes) ≡ length memory
  unfolding replaced
  length_replaced = grind (arith, common_steps)

  -- the bytes stand there, as a whole and one by one
  pub part_of_replaced : part (replaced memory place bytes) place (length bytes) ≡ bytes
  unfolding part replaced
  part_of_replaced = grind (arith, common_steps)

  pub replaced_inside : (i : ℕ) → i < length bytes → get_or (replaced memory place bytes) (place + i) 0 ≡ get_or bytes i 0
  unfolding replaced
  replaced_inside i inside = grind (arith, elements)

  -- every other byte is as it was, before them and behind
  pub replaced_before : (i : ℕ) → i < place → get_or (replaced memory place bytes) i 0 ≡ get_or memory i 0
  unfolding replaced
  replaced_before i before = grind (arith, elements)

  pub replaced_behind : (i : ℕ) → place + length bytes ≤ i → get_or (replaced memory place bytes) i 0 ≡ get_or memory i 0
  unfolding replaced
  replaced_behind i behind = grind (arith, elements)

-- no bytes change nothing, wherever they are put
pub replaced_nothing : (memory : List ℕ) (place : ℕ) → replaced memory place [] ≡ memory
unfolding replaced
replaced_nothing memory place = sym (paste-zero memory place [])

-- ---- bytes that can only be cleared

-- as many bytes stay as were given
pub length_masked : (old given : List ℕ) → length old ≡ length given → length (masked old given) ≡ length given
unfolding masked
length_masked [] given equal = equal
length_masked (x ∷ old) [] equal = refl
length_masked (x ∷ old) (y ∷ given) equal = ap suc (length_masked old given (omega arith))

-- each has the bits that the old byte and the given one both have
pub masked_at : (old given : List ℕ) (i : ℕ) → get_or (masked old given) i 0 ≡ bit_and (get_or old i 0) (get_or given i 0)
unfolding masked
masked_at [] given i = sym (and_zero_l (get_or given i 0))
masked_at (x ∷ old) [] i = sym (and_zero_r (get_or (x ∷ old) i 0))
masked_at (x ∷ old) (y ∷ given) zero = refl
masked_at (x ∷ old) (y ∷ given) (suc i) = masked_at old given i

module _ (memory : List ℕ) (place : ℕ) (bytes : List ℕ) where
  -- and so it is for the bytes of a memory from a place on
  pub length_kept : place + length bytes ≤ length memory → length (kept memory place bytes) ≡ length bytes
  unfolding kept
  length_kept fits = length_masked _ bytes (length_part memory place (length bytes) fits)

  pub kept_at : (i : ℕ) → i < length bytes → get_or (kept memory place bytes) i 0 ≡ bit_and (get_or memory (place + i) 0) (get_or bytes i 0)
  unfolding kept
  kept_at i inside = grind (arith, masked_at, part_at)

-- ---- lists that are the same

-- a list is the same as itself
pub same_itself : (bytes : List ℕ) → same bytes bytes ≡ true
unfolding same
same_itself [] = refl
same_itself (byte ∷ bytes) = grind (arith, nat_tests, same_itself bytes)

-- and two that are the same are equal
pub same_equal : (xs ys : List ℕ) → same xs ys ≡ true → xs ≡ ys
unfolding same
same_equal [] [] equal = refl
same_equal [] (y ∷ ys) equal = cc
same_equal (x ∷ xs) [] equal = cc
same_equal (x ∷ xs) (y ∷ ys) equal = grind (arith, nat_tests, same_equal xs ys)

-- ---- which answer a store gives, and what it leaves of the memory

module _ (memory : List ℕ) (place : ℕ) (bytes : List ℕ) where
  -- bytes that fit are stored
  pub stored : place + length bytes ≤ length memory → replacing memory place bytes ≡ change (Ok tt) (replaced memory place bytes)
  unfolding replacing holds
  stored fits = grind (arith, nat_tests)

  -- and stand in the memory afterwards
  pub store_leaves : place + length bytes ≤ length memory → (done : Result ⊤ Outside) (after : List ℕ) → change done after ≡ replacing memory place bytes
      → after ≡ replaced memory place bytes
  store_leaves fits done after told = ap (λ (did : Change). did.memory) (told ∙ stored fits)

  -- bytes that reach past the end are not, and nothing changes
  pub not_stored : length memory < place + length bytes → replacing memory place bytes ≡ change (Err outside) memory
  unfolding replacing holds
  not_stored short = grind (arith, nat_tests)

  -- the other way round: the answer is whether they fit, and says what the memory is now
  pub store_answered : (done : Result ⊤ Outside) (after : List ℕ) → change done after ≡ replacing memory place bytes
      → (leb (place + length bytes) (length memory) ≡ is_ok done) × (after ≡ cond (is_ok done) (replaced memory place bytes) memory)
  unfolding replacing holds
  store_answered (Ok done) after equal = (grind (arith, nat_tests), grind (arith, nat_tests))
  store_answered (Err error) after equal = (grind (arith, nat_tests), grind (arith, nat_tests))

  -- bytes that fit are programmed, and the answer is whether they are kept as given
  pub programmed : place + length bytes ≤ length memory → programming memory place bytes
      ≡ outcome (Ok (cond (same (kept memory place bytes) bytes) AsGiven Differs)) (replaced memory place (kept memory place bytes))
  unfolding programming holds
  programmed fits = grind (arith, nat_tests)

  -- bytes that reach past the end are not programmed, and nothing changes
  pub not_programmed : length memory < place + length bytes → programming memory place bytes ≡ outcome (Err outside) memory
  unfolding programming holds
  not_programmed short = grind (arith, nat_tests)

-- ---- ranges

-- a range whose ends lie in a region lies in it
pub in_region : (start size address count : ℕ) → start ≤ address → address + count ≤ start + size → within start size address count ≡ true
unfolding within
in_region start size address count from to = grind (arith, nat_tests)

-- and one that lies in it has its ends there
pub region_holds : (start size address count : ℕ) → within start size address count ≡ true → (start ≤ address) × (address + count ≤ start + size)
unfolding within
region_holds start size address count inside = (grind (arith, nat_tests), grind (arith, nat_tests))

-- ---- runs of pages

-- some page passes where a page of the run does
pub some_page_passes : (test : ℕ → Bool) (run : PageRun) (page : ℕ) → run.first ≤ page → page < run.first + run.count → test page ≡ true → some_page test run ≡ true
unfolding some_page
some_page_passes test run page from before passes = found test run.count run.first page from before passes

-- none passes where no page of the run does
pub some_none : (test : ℕ → Bool) (run : PageRun) → ((page : ℕ) → run.first ≤ page → page < run.first + run.count → test page ≡ false) → some_page test run ≡ false
unfolding some_page
some_none test run none = none_found test run.count run.first none

-- a test that passes wherever another does finds some page wherever the other does
pub some_grows : (test wider : ℕ → Bool) (run : PageRun) → ((page : ℕ) → test page ≡ true → wider page ≡ true) → some_page test run ≡ true → some_page wider run ≡ true
unfolding some_page
some_grows test wider run implies passes = grows test wider implies run.count run.first passes

-- a run of one page passes where the page does
pub some_one : (test : ℕ → Bool) (page : ℕ) → some_page test (pages page 1) ≡ test page
unfolding some_page
some_one test page = alone test page

-- two tests tried together, page by page, find a page where one of them finds one
pub some_either : (one other : ℕ → Bool) (run : PageRun) → some_page (λ page. one page || other page) run ≡ some_page one run || some_page other run
unfolding some_page
some_either one other run = either one other run.count run.first

-- ---- ranges of page numbers

module _ (total low high page : ℕ) where
  -- a page that the chip has, between the ends, is covered
  pub covered : page < total → low ≤ page → page ≤ high → covers total low high page ≡ true
  unfolding covers
  covered had from to = grind (arith, nat_tests)

  -- and a covered page is one of these
  pub covers_known : covers total low high page ≡ true → (page < total) × (low ≤ page) × (page ≤ high)
  unfolding covers
  covers_known passes = (grind (arith, nat_tests), grind (arith, nat_tests), grind (arith, nat_tests))

-- a range meets a run where it covers some page of it
pub meets_is : (total low high : ℕ) (run : PageRun) → meets total low high run ≡ some_page (covers total low high) run
unfolding meets
meets_is total low high run = refl

-- ---- the pages that a range touches

-- without a byte no page is touched
pub touched_nothing : (size place : ℕ) → touched size place 0 ≡ pages 0 0
unfolding touched
touched_nothing size place = grind (arith, nat_tests)

-- the page of a later byte is no earlier one
pub no_earlier : (size : ℕ) → 0 < size → (place later : ℕ) → place ≤ later → place / size ≤ later / size
no_earlier size some place later after = (le-div_iff_mul-le some).1 (le_trans (div-mul-le_self place size) after)

-- A byte of a range that lies on a page.
pub record ByteOn (size place count page : ℕ) : Type 0 where
  pub byte : ℕ
  pub from : place ≤ byte
  pub before : byte < place + count
  pub on : byte / size ≡ page

module _ (size place count : ℕ) (some_size : 0 < size) where
  -- with a byte: from the page of the first byte to that of the last
  pub touched_is : 0 < count → touched size place count ≡ pages (place / size) ((place + count - 1) / size - place / size + 1)
  unfolding touched
  touched_is byte = grind (arith, nat_tests)

  -- each byte of the range lies on a page of the run
  pub touched_page : (i : ℕ) → place ≤ i → i < place + count
      → ((touched size place count).first ≤ i / size) × (i / size < (touched size place count).first + (touched size place count).count)
  unfolding touched
  touched_page i from before = (grind (arith, nat_tests, no_earlier size some_size), grind (arith, nat_tests, no_earlier size some_size))

  -- the first byte lies on the page, or the page's own first byte is in the range
  on_page : (page : ℕ) → place / size ≤ page → page ≤ (place + count - 1) / size → 0 < count → Dec (page * size ≤ place) → ByteOn size place count page
  on_page page from to byte (yes starts) =
      record { byte = place; from = le_refl place; before = omega arith; on = omega (arith, (le-div_iff_mul-le some_size).1 starts) }
  on_page page from to byte (no starts) =
      record {
        byte = page * size;
        from = omega arith;
        before = omega (arith, (le-div_iff_mul-le some_size).0 to);
        on = mul-div_cancel page some_size;
      }

  -- and on each page of the run lies a byte of the range
  pub page_touched : (page : ℕ) → 0 < count → (touched size place count).first ≤ page → page < (touched size place count).first + (touched size place count).count
      → ByteOn size place count page
  page_touched page byte from before =
      let run = touched_is byte in
      let low = rw run at from in
      let high = rw run at before in
      on_page page low (omega (arith, no_earlier size some_size place (place + count - 1) (omega arith))) byte (dec_le (page * size) place)

-- ---- bytes

-- Every number of a list is a byte, as it is in every slice that the code is lent.
abbrev pub AllBytes : List ℕ → Type 0
AllBytes bytes = (i : ℕ) → get_or bytes i 0 < 256

-- a part of a memory of bytes is made of bytes
pub part_bytes : (memory : List ℕ) (place count : ℕ) → AllBytes memory → AllBytes (part memory place count)
unfolding part
part_bytes memory place count all i = grind (arith, common_steps, get_or_past, all)

-- what programming leaves of bytes is made of bytes
pub masked_bytes : (old given : List ℕ) → AllBytes given → AllBytes (masked old given)
masked_bytes old given all i = omega (arith, masked_at old given i, and_le_r (get_or old i 0) (get_or given i 0), all i)

pub kept_bytes : (memory : List ℕ) (place : ℕ) (bytes : List ℕ) → AllBytes bytes → AllBytes (kept memory place bytes)
unfolding kept
kept_bytes memory place bytes all = masked_bytes _ bytes all

-- so is a byte that is repeated
pub replicate_bytes : (count value : ℕ) → value < 256 → AllBytes (replicate count value)
replicate_bytes count value small i = grind (arith, common_steps, get_or_past)

-- so is a memory of bytes with other bytes in it
pub replaced_bytes : (memory : List ℕ) (place : ℕ) (bytes : List ℕ) → place + length bytes ≤ length memory → AllBytes memory → AllBytes bytes
    → AllBytes (replaced memory place bytes)
unfolding replaced
replaced_bytes memory place bytes fits all all' i = grind (arith, elements, all, all')
