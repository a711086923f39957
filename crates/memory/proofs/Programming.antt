-- The loop that programs a part of a memory: it leaves of each byte what stays, and gathers the bits that were given as ones and could not be had.
use Prim.Native.Nat.{ℕ, ◌+◌, ◌-◌, ◌≤◌, ◌<◌}
use mathlib.Core.Bool.{cond, ◌&&◌, and_assoc}
use borrow.Rule.Slice.PartMut.{put_mid}
use mathlib.Core.Logic.{◌≢◌}
use mathlib.Core.List.{List, [], ◌++◌}
use mathlib.Core.Path.{◌≡◌, sym}
use native.Mathlib.Nat.{add-sub_cancel_left}
use native.Mathlib.Omega.{arith}
use borrow.Author.Tests.{eq-eqb, ne_eqb}
use lib.Bits.{bit_and, bit_or, bit_xor, or_add_and, xor_add_and, and_le_l, and_le_r, xor_self}
use lib.Dec.{eqb}
use lib.ListN.{length, take, drop, get_or, set}
use Rattle.std.proofs.lemmas.Bool.Decides.{nat_tests}
use Rattle.std.proofs.lemmas.List.{drop_all, drop_more}
use Rattle.std.proofs.lemmas.Grind.{common_steps}
use Rattle.std.specs.Prelude.{Ok}
use Rattle.memory.specs.Stores.{kept, masked, outcome, part, programming, same}
use Rattle.memory.specs.declared.Programmed.TheVariants.{AsGiven, Differs}
use Rattle.memory.proofs.Laws.{length_kept, not_programmed, programmed}
use Rattle.memory.proofs.Storing.{laid_over}

-- one byte more: nothing is missing just where nothing was, and the byte is as it was given
none_missing : (missing byte given : ℕ) → eqb (bit_or missing (bit_xor byte given)) 0 ≡ eqb missing 0 && eqb byte given
none_missing missing byte given =
    let x = bit_xor byte given in
    grind (arith, nat_tests, or_add_and missing x, and_le_l missing x, and_le_r missing x, xor_add_and byte given, and_le_l byte given, and_le_r byte given, xor_self byte)

-- `now` is the part with `i` bytes programmed. What programming makes of the bytes left completes it, and whether these are then as given decides with the bits missing so far whether all are.
pub record Programming (old bytes now : List ℕ) (missing i : ℕ) : Type 0 where
  pub sized : length now ≡ length bytes
  pub so_far : take i now ++ masked (drop i now) (drop i bytes) ≡ masked old bytes
  pub decides : eqb missing 0 && same (masked (drop i now) (drop i bytes)) (drop i bytes) ≡ same (masked old bytes) bytes

module _ (old bytes now : List ℕ) (missing i : ℕ) (was : Programming old bytes now missing i) where
  -- a turn of the loop
  pub program_one : i < length bytes → Programming old bytes (set now i (bit_and (get_or now i 0) (get_or bytes i 0)))
      (bit_or missing (bit_xor (bit_and (get_or now i 0) (get_or bytes i 0)) (get_or bytes i 0))) (i + 1)
  unfolding masked same
  program_one left =
      let there : i < length now = omega arith in
      let olds = drop_more now i 0 there in
      let given = drop_more bytes i 0 left in
      record {
        sized = grind (arith, common_steps);
        so_far = grind (arith, common_steps, rw (olds, given) at was.so_far);
        decides = rw none_missing (grind (arith, common_steps, and_assoc, rw (olds, given) at was.decides));
      }

  -- at the end
  all_programmed : length bytes ≤ i → (now ≡ masked old bytes) × (eqb missing 0 ≡ same (masked old bytes) bytes)
  unfolding masked same
  all_programmed none =
      let olds : drop i now ≡ [] = drop_all i now (omega arith) in
      let given : drop i bytes ≡ [] = drop_all i bytes none in
      (grind (arith, common_steps, rw olds at was.so_far), grind (arith, common_steps, nat_tests, rw (olds, given) at was.decides))

module _ (memory : List ℕ) (place : ℕ) (bytes : List ℕ) (start end : ℕ) (now : List ℕ) (missing i : ℕ)
    (fits : place + length bytes ≤ length memory) (first : start ≡ place) (behind : end ≡ place + length bytes)
    (was : Programming (take (end - start) (drop start memory)) bytes now missing i) (none : length bytes ≤ i) where
  -- the missing bits pick the answer
  answered : outcome (Ok (cond (eqb missing 0) AsGiven Differs)) (put_mid start (end - start) memory now) ≡ programming memory place bytes
  unfolding kept part
  answered =
      let whole : take (end - start) (drop start memory) ≡ part memory place (length bytes) = simp (first, behind, add-sub_cancel_left) in
      let done : (now ≡ kept memory place bytes) × (eqb missing 0 ≡ same (kept memory place bytes) bytes) = rw (← whole) (all_programmed _ _ _ _ _ was none) in
      rw (laid_over memory place (kept memory place bytes) start end now first (omega (arith, length_kept memory place bytes fits)) done.0, done.1)
      (sym (programmed memory place bytes fits))

  pub as_given : missing ≡ 0 → outcome (Ok AsGiven) (put_mid start (end - start) memory now) ≡ programming memory place bytes
  as_given is = rw (eq-eqb _ _ is) at answered

  pub differs : missing ≢ 0 → outcome (Ok Differs) (put_mid start (end - start) memory now) ≡ programming memory place bytes
  differs is = rw (ne_eqb _ _ is) at answered

-- what `program` answers, refused or at the end of its loop
pub ruleset ends = (not_programmed, as_given, differs)
