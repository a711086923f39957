-- Bytes that are laid over the range of a store.
use Prim.Native.Nat.{ℕ, ◌+◌, ◌-◌, ◌≤◌}
use borrow.Rule.Slice.PartMut.{put_mid}
use mathlib.Core.List.{List, append_assoc}
use mathlib.Core.Path.{◌≡◌, sym}
use native.Mathlib.Nat.{add-sub_cancel_left}
use lib.ListN.{length, take, length-replicate}
use Rattle.std.proofs.Common.{drop-drop}
use Rattle.std.specs.Prelude.{Ok}
use Rattle.memory.specs.Stores.{change, replaced, replacing}
use Rattle.memory.proofs.Laws.{stored, not_stored}

module _ (memory : List ℕ) (place : ℕ) (bytes : List ℕ) (start end : ℕ) (now : List ℕ) where
  -- what a write to the range leaves, in the words of the definitions
  pub laid_over : start ≡ place → end ≡ place + length bytes → now ≡ bytes → put_mid start (end - start) memory now ≡ replaced memory place bytes
  unfolding replaced
  laid_over first behind is = simp (first, behind, is, add-sub_cancel_left, drop-drop, append_assoc)

  -- so bytes that fit are stored by it
  pub stored_there : place + length bytes ≤ length memory → start ≡ place → end ≡ place + length bytes → now ≡ bytes
      → change (Ok tt) (put_mid start (end - start) memory now) ≡ replacing memory place bytes
  stored_there fits first behind is = rw (laid_over first behind is) (sym (stored memory place bytes fits))

-- what `store` and `fill` answer, done or refused
pub ruleset storing = (stored_there, not_stored, length-replicate)
