-- Wrong answers, worked out by the checker (docs/OUTCOMES.md says of which function). Each is told from what the contract admits, whatever the system answers, by a question that has another answer.
use Prim.Native.Nat.{ℕ}
use mathlib.Core.Bool.{Bool, true, false, false≢true, true≢false}
use mathlib.Core.List.{List, [], ◌∷◌}
use mathlib.Core.Logic.{◌≢◌}
use mathlib.Core.Path.{◌≡◌, ap}
use native.Mathlib.Omega.{arith}
use lib.Dec.{eqb}
use Rattle.std.specs.Prelude.{Result, Ok, Err}
use lib.ListN.{drop, length, get_or, take}
use Rattle.stream.specs.Sheets.{Sheet, Adds, AddsAll, Collected, WritesOut, all_more, collected, empty_sheet, one_more, putting_on, sheet_of, with_room, written_out}

-- empty: a sheet that counts as failed, so that nothing would ever be written
empty_and_failed : empty_sheet ≢ sheet_of 0 true
empty_and_failed is = false≢true (ap (λ (sheet : Sheet). sheet.failed) is)

-- empty: a sheet with a byte on it, so that a byte would be written that nobody gave
empty_with_a_byte : empty_sheet ≢ sheet_of 1 false
empty_with_a_byte is = true≢false (ap (λ (sheet : Sheet). eqb sheet.place 0) is)

-- resumed and sheet: a sheet with bytes on it is begun anew, so that they would be lost
begun_anew : sheet_of 5 false ≢ empty_sheet
begun_anew is = false≢true (ap (λ (sheet : Sheet). eqb sheet.place 0) is)

-- written: what was collected stays on the sheet, and would be written twice
written_and_kept : WritesOut (sheet_of 5 false) (sheet_of 5 false) → ⊥
unfolding written_out
written_and_kept writes = false≢true (ap (λ (sheet : Sheet). eqb sheet.place 0) writes.same)

-- written: a sheet that had failed looks well
failure_forgotten : WritesOut (sheet_of 0 true) empty_sheet → ⊥
unfolding written_out
failure_forgotten writes = false≢true (ap (λ (sheet : Sheet). sheet.failed) writes.same)

-- byte: counted, and not stored
counted_and_not_stored : Adds empty_sheet (0x11 ∷ 0x22 ∷ []) 0x55 (sheet_of 1 false) (0x11 ∷ 0x22 ∷ []) → ⊥
unfolding one_more with_room putting_on
counted_and_not_stored adds = true≢false (ap (λ (done : Collected). eqb (get_or done.buffer 0 0) 0x11) adds.same)

-- byte: lost where the sheet was full
lost_behind_a_full_sheet : (failed : Bool) → Adds (sheet_of 2 false) (0x11 ∷ 0x22 ∷ []) 0x55 (sheet_of 0 failed) (0x11 ∷ 0x22 ∷ []) → ⊥
unfolding one_more with_room written_out putting_on
lost_behind_a_full_sheet failed adds = true≢false (ap (λ (done : Collected). eqb done.sheet.place 0) adds.same)

-- bytes: the last one first, with any two answers
turned_round : (answers : List Bool) → length answers ≡ 2 → collected (sheet_of 2 false) (0x22 ∷ 0x11 ∷ []) ≡ all_more answers empty_sheet (0x00 ∷ 0x00 ∷ []) (0x11 ∷ 0x22 ∷ []) → ⊥
unfolding all_more one_more with_room putting_on
turned_round [] two is = omega arith
turned_round (one ∷ []) two is = omega arith
turned_round (one ∷ other ∷ []) two is = true≢false (ap (λ (done : Collected). eqb (get_or done.buffer 0 0) 0x22) is)
turned_round (one ∷ other ∷ third ∷ rest) two is = omega arith

last_byte_first : AddsAll empty_sheet (0x00 ∷ 0x00 ∷ []) (0x11 ∷ 0x22 ∷ []) (sheet_of 2 false) (0x22 ∷ 0x11 ∷ []) → ⊥
last_byte_first adds = turned_round adds.answers adds.one_each adds.same

-- print, println and write_all of standard output that goes on: a failure is told
failure_told : (failure : ℕ) → ◌≢◌ {A = Result Unit ℕ} (Ok tt) (Err failure)
failure_told failure is = cc

-- first: one byte more than was asked for
one_byte_more : take {A = ℕ} 2 (0x11 ∷ 0x22 ∷ 0x33 ∷ []) ≢ 0x11 ∷ 0x22 ∷ 0x33 ∷ []
one_byte_more is = true≢false (ap (λ (bytes : List ℕ). eqb (length bytes) 2) is)

-- first: nothing where there are fewer
nothing_where_fewer : take {A = ℕ} 4 (0x11 ∷ []) ≢ []
nothing_where_fewer is = true≢false (ap (λ (bytes : List ℕ). eqb (length bytes) 1) is)

-- behind: the byte at the place is left out
byte_left_out : drop {A = ℕ} 1 (0x11 ∷ 0x22 ∷ []) ≢ []
byte_left_out is = true≢false (ap (λ (bytes : List ℕ). eqb (length bytes) 1) is)

-- behind: all of it where the place lies past the end
all_past_the_end : drop {A = ℕ} 2 (0x11 ∷ []) ≢ 0x11 ∷ []
all_past_the_end is = true≢false (ap (λ (bytes : List ℕ). eqb (length bytes) 0) is)
