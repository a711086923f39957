-- No two answers of the device are told by the same numbers: so a promise in numbers fixes the answer itself.
use Prim.Native.Nat.{ℕ}
use mathlib.Core.Bool.{cond}
use mathlib.Core.Path.{◌≡◌, refl, sym, ap, ◌∙◌}
use lib.Dec.{eqb}
use Rattle.std.specs.Prelude.{Err, Ok, Result}
use Rattle.tm32.specs.After.{Answer, Refused, Reply, refusal_number}
use Rattle.tm32.specs.Promises.{answer_of}
use Rattle.tm32.specs.declared.Refusal.{Refusal}
use Rattle.tm32.specs.declared.Refusal.TheVariants.{FlashLength, RamLength, NvrLength, NoRoom, NoSuchRate}

-- The refusal that a number tells. A number that tells none is read as the last.
abbrev pub refusal_told : ℕ → Refusal
refusal_told number = cond (eqb number 1) FlashLength (cond (eqb number 2) RamLength (cond (eqb number 3) NvrLength (cond (eqb number 4) NoRoom NoSuchRate)))

-- The answer that is told.
abbrev answer_told : Answer → Result ℕ Refusal
answer_told (Reply length) = Ok length
answer_told (Refused number) = Err (refusal_told number)

pub refusal_back : (refusal : Refusal) → refusal_told (refusal_number refusal) ≡ refusal
refusal_back FlashLength = refl
refusal_back RamLength = refl
refusal_back NvrLength = refl
refusal_back NoRoom = refl
refusal_back NoSuchRate = refl

answer_back : (answer : Result ℕ Refusal) → answer_told (answer_of answer) ≡ answer
answer_back (Ok length) = refl
answer_back (Err refusal) = ap Err (refusal_back refusal)

-- two refusals with one number are the same
pub same_refusal : (one other : Refusal) → refusal_number one ≡ refusal_number other → one ≡ other
same_refusal one other same = sym (refusal_back one) ∙ ap refusal_told same ∙ refusal_back other

-- and so are two answers
pub same_answer : (one other : Result ℕ Refusal) → answer_of one ≡ answer_of other → one ≡ other
same_answer one other same = sym (answer_back one) ∙ ap answer_told same ∙ answer_back other
