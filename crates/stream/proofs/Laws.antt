-- What an answer of `fill` tells of the block, by the answer: what it holds lies in it, and only a full block is full. Of an input that is handed on: where all of it is done with, its end was told. And of a sheet: what has failed stays failed, so that a failure is not lost.
use Prim.Native.Nat.{ℕ, ◌+◌, ◌≤◌, ◌<◌}
use mathlib.Core.Bool.{Bool, true, false, cond, not}
use mathlib.Core.List.{List, [], ◌∷◌, ◌++◌}
use Rattle.std.specs.Prelude.{Option, Some, None, Result, Ok, Err}
use mathlib.Core.Path.{◌≡◌, refl, sym, ap, subst, ◌∙◌}
use borrow.Author.Tests.{le-ltb, lt-ltb}
use native.Mathlib.Omega.{arith}
use lib.Dec.{ltb}
use lib.ListN.{drop, length, set}
use Rattle.stream.specs.Blocks.{ReadsOn}
use Rattle.stream.specs.Inputs.{Feeds, Handed}
use Rattle.stream.specs.Sheets.{MakesRoom, Sheet, Adds, AddsAll, Collected, WritesOut, all_more, collected, one_more, putting_on, sheet_of, with_room, written_out}
use Rattle.stream.specs.declared.errors.FillError.{FillError}
use Rattle.stream.specs.declared.errors.FillError.TheVariants.{Full}

module _ (filled : Result (Option ℕ) FillError) (held : ℕ) (block after : List ℕ) (did : ReadsOn filled held block after) where
  by_answer : (is : Result (Option ℕ) FillError) → filled ≡ is → ReadsOn is held block after
  by_answer is told = subst (λ (one : Result (Option ℕ) FillError). ReadsOn one held block after) told did

  -- more was read
  pub more_inside : (now : ℕ) → length after ≡ length block → filled ≡ Ok (Some now) → now ≤ length after
  more_inside now same told = omega (arith, (by_answer (Ok (Some now)) told).2)

  pub more_grows : (now : ℕ) → filled ≡ Ok (Some now) → held < now
  more_grows now told = (by_answer (Ok (Some now)) told).1

  -- the input has ended
  pub end_inside : length after ≡ length block → filled ≡ Ok None → held ≤ length after
  end_inside same told = omega (arith, (by_answer (Ok None) told).1)

  -- there was no room
  pub full_only : filled ≡ Err Full → length block ≤ held
  full_only told = (by_answer (Err Full) told).1

-- ---- an input that is handed on

-- Where all of it is done with, its end was told last, and nothing was refused.
module _ {S E : Type 0} (consumes : S → List ℕ → Result ℕ E → S → Type 0) (finishes : S → List ℕ → Result Unit E → S → Type 0) (refuses : S → FillError → E → S → Type 0) {after : S} where
  by_pieces : (pieces : List (List ℕ)) (failure : Option FillError) (held : List ℕ) (before : S) → Handed consumes finishes refuses pieces failure held before (Ok tt) after
      → (rest : List ℕ) × (last : S) × finishes last rest (Ok tt) after
  by_pieces [] None held before handed = (held, before, handed)
  by_pieces [] (Some failure) held before (error, refused, is) = cc
  by_pieces (piece ∷ pieces) failure held before (some, Ok used, between, did, onwards) = by_pieces pieces failure (drop used (held ++ piece)) between onwards
  by_pieces (piece ∷ pieces) failure held before (some, Err error, between, did, (is, same)) = cc

  pub fed_to_the_end : (before : S) → Feeds consumes finishes refuses before (Ok tt) after → (rest : List ℕ) × (last : S) × finishes last rest (Ok tt) after
  fed_to_the_end before feeds = by_pieces feeds.pieces feeds.failure [] before feeds.handed

-- ---- a sheet that has not failed

-- is empty once the system has answered, and has failed if the system did not take it
pub empties : (sheet after : Sheet) (taken : Bool) → sheet.failed ≡ false → after ≡ sheet_of 0 (not taken) → WritesOut sheet after
unfolding written_out
empties sheet after taken well emptied = record { taken = taken; same = rw well emptied }

-- ---- a sheet and its room

-- stays as it is where it has some
pub roomy : (size : ℕ) (sheet : Sheet) → sheet.place < size → MakesRoom size sheet sheet
unfolding with_room
roomy size sheet room = record { taken = true; same = simp (lt-ltb _ _ room) }

-- is written out where it has none
pub made : (size : ℕ) (sheet after : Sheet) → size ≤ sheet.place → WritesOut sheet after → MakesRoom size sheet after
unfolding with_room
made size sheet after full writes = record { taken = writes.taken; same = simp (le-ltb _ _ full) writes.same }

-- ---- a sheet that has failed

module _ (sheet : Sheet) (failed : sheet.failed ≡ true) where
  -- is written out no more
  pub not_written : (taken : Bool) → written_out taken sheet ≡ sheet
  unfolding written_out
  not_written taken = rw failed

  -- which is what its contract asks
  pub stays : WritesOut sheet sheet
  stays = record { taken = true; same = sym (not_written true) }

  -- nor for want of room
  no_room_made : (taken : Bool) (size : ℕ) → with_room taken size sheet ≡ sheet
  unfolding with_room
  no_room_made taken size = rw (not_written taken) (either (ltb sheet.place size))
    where
      either : (room : Bool) → cond room sheet sheet ≡ sheet
      either true = refl
      either false = refl

  -- stays failed where a byte is put on it
  put_failed : (buffer : List ℕ) (value : ℕ) → (putting_on sheet buffer value).sheet.failed ≡ true
  unfolding putting_on
  put_failed buffer value = either (ltb sheet.place (length buffer))
    where
      either : (room : Bool) → (cond room (collected (sheet_of (sheet.place + 1) sheet.failed) (set buffer sheet.place value)) (collected sheet buffer)).sheet.failed ≡ true
      either true = failed
      either false = failed

  more_failed : (taken : Bool) (buffer : List ℕ) (value : ℕ) → (one_more taken sheet buffer value).sheet.failed ≡ true
  unfolding one_more
  more_failed taken buffer value = rw (no_room_made taken (length buffer)) (put_failed buffer value)

-- and where some are
all_failed : (answers : List Bool) (sheet : Sheet) (buffer values : List ℕ) → sheet.failed ≡ true → (all_more answers sheet buffer values).sheet.failed ≡ true
unfolding all_more
all_failed answers sheet buffer [] failed = failed
all_failed [] sheet buffer (value ∷ values) failed = failed
all_failed (taken ∷ answers) sheet buffer (value ∷ values) failed =
    let first : Collected = one_more taken sheet buffer value in
    all_failed answers first.sheet first.buffer values (more_failed sheet failed taken buffer value)

-- so of every function on a sheet
pub written_failed : (sheet after : Sheet) → WritesOut sheet after → sheet.failed ≡ true → after.failed ≡ true
written_failed sheet after writes failed = ap (λ (one : Sheet). one.failed) (writes.same ∙ not_written sheet failed writes.taken) ∙ failed

pub byte_failed : (sheet after : Sheet) (buffer buffer' : List ℕ) (value : ℕ) → Adds sheet buffer value after buffer' → sheet.failed ≡ true → after.failed ≡ true
byte_failed sheet after buffer buffer' value adds failed =
    ap (λ (done : Collected). done.sheet.failed) adds.same ∙ more_failed sheet failed adds.taken buffer value

pub bytes_failed : (sheet after : Sheet) (buffer buffer' values : List ℕ) → AddsAll sheet buffer values after buffer' → sheet.failed ≡ true → after.failed ≡ true
bytes_failed sheet after buffer buffer' values adds failed =
    ap (λ (done : Collected). done.sheet.failed) adds.same ∙ all_failed adds.answers sheet buffer values failed
