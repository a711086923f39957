-- Bytes that all fit on the paper of a sheet: they stand behind one another, and the system is not asked.
use Prim.Native.Nat.{ℕ, suc, ◌+◌, ◌≤◌, ◌<◌}
use mathlib.Core.Bool.{Bool, true}
use mathlib.Core.List.{List, [], ◌∷◌, ◌++◌}
use mathlib.Core.Path.{◌≡◌, sym, ap, ◌∙◌}
use native.Mathlib.Numerals.{add-one}
use native.Mathlib.Omega.{arith}
use borrow.Author.Tests.{lt-ltb}
use lib.ListN.{drop, length, length-set, replicate, length-replicate, set, take}
use lib.Seq.{paste, sets, take-length}
use Rattle.std.proofs.lemmas.List.Edits.{sets-eq}
use Rattle.stream.specs.Sheets.{Sheet, AddsAll, Collected, all_more, collected, one_more, putting_on, sheet_of, with_room}

-- a byte that fits
one_fits : (taken : Bool) (sheet : Sheet) (buffer : List ℕ) (value : ℕ) → sheet.place < length buffer
    → one_more taken sheet buffer value ≡ collected (sheet_of (sheet.place + 1) sheet.failed) (set buffer sheet.place value)
unfolding one_more with_room putting_on
one_fits taken sheet buffer value room = simp (lt-ltb _ _ room, lt-ltb _ _ room)

-- all of them, whatever the system would answer
all_fit : (sheet : Sheet) (buffer values : List ℕ) → sheet.place + length values ≤ length buffer
    → all_more (replicate (length values) true) sheet buffer values ≡ collected (sheet_of (sheet.place + length values) sheet.failed) (sets buffer sheet.place values)
unfolding all_more
all_fit sheet buffer [] fits =
    let none : sheet.place ≡ sheet.place + 0 = omega arith in
    ap (λ (place : ℕ). collected (sheet_of place sheet.failed) buffer) none
all_fit sheet buffer (value ∷ values) fits =
    let first = one_fits true sheet buffer value (omega arith) in
    let rest = all_fit (sheet_of (sheet.place + 1) sheet.failed) (set buffer sheet.place value) values (simp length-set (omega arith)) in
    let next : sheet.place + 1 ≡ suc sheet.place = add-one sheet.place in
    let end : sheet.place + 1 + length values ≡ sheet.place + suc (length values) = omega arith in
    ap (λ (done : Collected). all_more (replicate (length values) true) done.sheet done.buffer values) first ∙ rest
    ∙ ap (λ (place : ℕ). collected (sheet_of place sheet.failed) (sets (set buffer sheet.place value) (sheet.place + 1) values)) end
    ∙ ap (λ (from : ℕ). collected (sheet_of (sheet.place + suc (length values)) sheet.failed) (sets (set buffer sheet.place value) from values)) next

-- which is what the contract asks, of the paper as copying leaves it
pub laid_on : (sheet : Sheet) (buffer values after : List ℕ) → sheet.place + length values ≤ length buffer → after ≡ paste buffer sheet.place values (length values)
    → AddsAll sheet buffer values (sheet_of (sheet.place + length values) sheet.failed) after
laid_on sheet buffer values after fits copied =
    let whole : paste buffer sheet.place values (length values) ≡ take sheet.place buffer ++ values ++ drop (sheet.place + length values) buffer = rw take-length in
    record {
      answers = replicate (length values) true;
      one_each = length-replicate (length values) true;
      same = ap (collected (sheet_of (sheet.place + length values) sheet.failed)) (copied ∙ whole ∙ sym (sets-eq values buffer sheet.place fits)) ∙ sym (all_fit sheet buffer values fits);
    }
