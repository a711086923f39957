-- The comparison of two words, as the code has it and as the definition has it.
use Prim.Native.Nat.{ℕ}
use mathlib.Core.Bool.{Bool, ◌&&◌}
use mathlib.Core.List.{List, [], ◌∷◌}
use mathlib.Core.Path.{◌≡◌, refl, ap}
use lib.Dec.{eqb}
use lib.Pointwise.{pointwise}
use Rattle.memory.specs.Stores.{same}

-- two words are equal where they are the same byte for byte
pub alike : (one other : List ℕ) → pointwise eqb one other ≡ same one other
unfolding same
alike [] [] = refl
alike [] (second ∷ seconds) = refl
alike (first ∷ firsts) [] = refl
alike (first ∷ firsts) (second ∷ seconds) = ap (λ (rest : Bool). eqb first second && rest) (alike firsts seconds)
