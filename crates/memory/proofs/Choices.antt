-- What a test picks, for any two things: laws of `cond`, which the library does not have.
use mathlib.Core.Bool.{Bool, true, false, cond}
use mathlib.Core.Path.{◌≡◌, refl}

-- what holds of both branches holds of the choice, and of the first only its test needs to be known
pub of_both : {A : Type 0} (P : A → Type 0) (test : Bool) {x y : A} → P x → P y → P (cond test x y)
of_both P true px py = px
of_both P false px py = py

-- or where each test is known
pub of_test : {A : Type 0} (P : A → Type 0) (test : Bool) {x y : A} → (test ≡ true → P x) → (test ≡ false → P y) → P (cond test x y)
of_test P true px py = px refl
of_test P false px py = py refl
