-- Which page of a run passes a test, and for a range of page numbers what the ends alone say of it.
use Prim.Native.Nat.{ℕ, zero, suc, ◌+◌, ◌≤◌, ◌<◌, max, min}
use mathlib.Core.Bool.{Bool, true, false, ◌||◌, or-false}
use mathlib.Core.Path.{◌≡◌, refl}
use native.Mathlib.Omega.{arith}
use lib.Dec.{ltb}
use Rattle.std.proofs.lemmas.Bool.Decides.{nat_tests}
use Rattle.memory.specs.Pages.{some_from, covers}

-- a page of the run that passes is found
pub found : (test : ℕ → Bool) (count first page : ℕ) → first ≤ page → page < first + count → test page ≡ true → some_from test first count ≡ true
unfolding some_from
found test zero first page from before passes = absurd (omega arith)
found test (suc count) first page from before passes = grind (arith, nat_tests, found test count (first + 1) page)

-- where no page of the run passes none is found
pub none_found : (test : ℕ → Bool) (count first : ℕ) → ((page : ℕ) → first ≤ page → page < first + count → test page ≡ false) → some_from test first count ≡ false
unfolding some_from
none_found test zero first none = refl
none_found test (suc count) first none =
    rw (none first (omega arith) (omega arith)) (none_found test count (first + 1) (λ page from before. none page (omega arith) (omega arith)))

-- one page decides for itself
pub alone : (test : ℕ → Bool) (page : ℕ) → some_from test page 1 ≡ test page
unfolding some_from
alone test page = or-false (test page)

-- a test that passes wherever another does finds a page wherever the other does
pub grows : (test wider : ℕ → Bool) → ((page : ℕ) → test page ≡ true → wider page ≡ true)
    → (count first : ℕ) → some_from test first count ≡ true → some_from wider first count ≡ true
unfolding some_from
grows test wider implies zero first passes = passes
grows test wider implies (suc count) first passes = grind (arith, nat_tests, implies first, grows test wider implies count (first + 1))

-- two tests tried together, page by page, find a page where one of them does
pub either : (one other : ℕ → Bool) (count first : ℕ)
    → some_from (λ page. one page || other page) first count ≡ some_from one first count || some_from other first count
unfolding some_from
either one other zero first = refl
either one other (suc count) first = grind (arith, nat_tests, either one other count (first + 1))

-- a run has a covered page just where the later of the two starts lies before the sooner of the ends
pub some_covered : (total low high count first : ℕ)
    → some_from (covers total low high) first count ≡ ltb (max first low) (min (first + count) (min (high + 1) total))
unfolding covers some_from
some_covered total low high zero first = grind (arith, nat_tests)
some_covered total low high (suc count) first = grind (arith, nat_tests, some_covered total low high count (first + 1))
