-- A list of bytes with a byte in front, two of them joined, and the first and the last of one are lists of bytes.
use Prim.Native.Nat.{ℕ, ◌<◌}
use mathlib.Core.List.{List, [], ◌∷◌, ◌++◌}
use native.Mathlib.Omega.{arith}
use lib.ListN.{take, drop}
use Rattle.std.proofs.lemmas.Grind.{common_steps}
use Rattle.frame.specs.Frame.{AllBytes, word}

pub none_bytes : AllBytes []
none_bytes i = grind arith

pub more_bytes : (byte : ℕ) (bytes : List ℕ) → byte < 256 → AllBytes bytes → AllBytes (byte ∷ bytes)
more_bytes byte bytes small all i = grind (arith, common_steps, all)

pub joined_bytes : (bytes others : List ℕ) → AllBytes bytes → AllBytes others → AllBytes (bytes ++ others)
joined_bytes bytes others all all' i = grind (arith, common_steps, all, all')

pub first_bytes : (count : ℕ) (bytes : List ℕ) → AllBytes bytes → AllBytes (take count bytes)
first_bytes count bytes all i = grind (arith, common_steps, all)

pub last_bytes : (count : ℕ) (bytes : List ℕ) → AllBytes bytes → AllBytes (drop count bytes)
last_bytes count bytes all i = grind (arith, common_steps, all)

pub word_bytes : (number : ℕ) → AllBytes (word number)
unfolding word
word_bytes number i = grind (arith, common_steps)
