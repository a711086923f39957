-- Bytes that are put on a sheet, one by one: what the sheets themselves and their writers go by.
use Prim.Native.Nat.{ℕ, ◌+◌, ◌≤◌, ◌<◌}
use mathlib.Core.Bool.{Bool}
use mathlib.Core.List.{List, [], ◌∷◌, ◌++◌}
use mathlib.Core.Path.{◌≡◌, refl, sym, ap, ◌∙◌}
use native.Mathlib.Nat.{suc_inj, suc-ne-zero}
use native.Mathlib.Numerals.{add-one}
use native.Mathlib.Omega.{arith}
use borrow.Author.Tests.{le-ltb, lt-ltb}
use lib.ListN.{length, take, get_or, set, length-append}
use lib.Seq.{take-suc}
use Rattle.stream.specs.Sheets.{Sheet, Adds, AddsAll, Collected, MakesRoom, all_more, collected, one_more, putting_on, sheet_of}

module _ {sheet roomy : Sheet} {buffer : List ℕ} {value : ℕ} (makes : MakesRoom (length buffer) sheet roomy) where
  -- a sheet with room
  pub put_on : roomy.place < length buffer → Adds sheet buffer value (sheet_of (roomy.place + 1) roomy.failed) (set buffer roomy.place value)
  unfolding one_more putting_on
  put_on room =
      let put : collected (sheet_of (roomy.place + 1) roomy.failed) (set buffer roomy.place value) ≡ putting_on roomy buffer value = simp (lt-ltb _ _ room) in
      record { taken = makes.taken; same = put ∙ ap (λ (one : Sheet). putting_on one buffer value) makes.same }

  -- one without
  pub not_put_on : length buffer ≤ roomy.place → Adds sheet buffer value roomy buffer
  unfolding one_more putting_on
  not_put_on full =
      let lost : collected roomy buffer ≡ putting_on roomy buffer value = simp (le-ltb _ _ full) in
      record { taken = makes.taken; same = lost ∙ ap (λ (one : Sheet). putting_on one buffer value) makes.same }

-- one byte more behind some, with one answer more
one_behind : (answers : List Bool) (taken : Bool) (sheet : Sheet) (buffer values : List ℕ) (value : ℕ) → length answers ≡ length values
    → all_more (answers ++ taken ∷ []) sheet buffer (values ++ value ∷ [])
    ≡ one_more taken (all_more answers sheet buffer values).sheet (all_more answers sheet buffer values).buffer value
unfolding all_more
one_behind [] taken sheet buffer [] value each = refl
one_behind [] taken sheet buffer (first ∷ values) value each = absurd (suc-ne-zero (length values) (sym each))
one_behind (one ∷ answers) taken sheet buffer [] value each = absurd (suc-ne-zero (length answers) each)
one_behind (one ∷ answers) taken sheet buffer (first ∷ values) value each =
    let done : Collected = one_more one sheet buffer first in
    one_behind answers taken done.sheet done.buffer values value (suc_inj each)

-- nothing yet
pub none_added : (sheet : Sheet) (buffer : List ℕ) → AddsAll sheet buffer [] sheet buffer
unfolding all_more
none_added sheet buffer = record { answers = []; one_each = refl; same = refl }

module _ {sheet₀ sheet : Sheet} {buffer₀ buffer : List ℕ} (values : List ℕ) (i : ℕ) (so_far : AddsAll sheet₀ buffer₀ (take i values) sheet buffer) where
  -- a turn of the loop
  pub one_added : {after : Sheet} {buffer' : List ℕ} → i < length values → Adds sheet buffer (get_or values i 0) after buffer' → AddsAll sheet₀ buffer₀ (take (i + 1) values) after buffer'
  one_added more adds =
      let behind = one_behind so_far.answers adds.taken sheet₀ buffer₀ (take i values) (get_or values i 0) so_far.one_each in
      let split : take (i + 1) values ≡ take i values ++ get_or values i 0 ∷ [] = rw add-one (take-suc values i 0 more) in
      rw split
      (record {
        answers = so_far.answers ++ adds.taken ∷ [];
        one_each = simp length-append (omega (arith, so_far.one_each));
        same = adds.same ∙ ap (λ (done : Collected). one_more adds.taken done.sheet done.buffer (get_or values i 0)) so_far.same ∙ sym behind;
      })
