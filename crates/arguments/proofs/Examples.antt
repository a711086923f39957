-- Command lines, worked out by the checker; where none asks for a start value, it is 0x0041. And mistakes that somebody might make, each told from the right answer by a question that has another
-- answer (docs/OUTCOMES.md says of which function).
use Prim.Native.Nat.{ℕ}
use mathlib.Core.Bool.{true≢false}
use mathlib.Core.List.{List, [], ◌∷◌}
use mathlib.Core.Logic.{◌≢◌}
use mathlib.Core.Path.{◌≡◌, ap, refl}
use Rattle.std.specs.Prelude.{Result, Ok, Err}
use lib.Dec.{eqb}
use Rattle.memory.specs.Stores.{same}
use Rattle.text.specs.Hex.{digit_of}
use Rattle.text.specs.Numbers.{word_from, word_in}
use Rattle.arguments.specs.CommandLine.{start_in, start_name, told}
use Rattle.arguments.specs.declared.errors.ArgumentError.{ArgumentError}
use Rattle.arguments.specs.declared.errors.ArgumentError.TheVariants.{NotHex, NoSuch}

-- "FFFF", "XYZ", and "--stair"
ones : List ℕ
ones = 0x46 ∷ 0x46 ∷ 0x46 ∷ 0x46 ∷ []

letters : List ℕ
letters = 0x58 ∷ 0x59 ∷ 0x5A ∷ []

stair : List ℕ
stair = 0x2D ∷ 0x2D ∷ 0x73 ∷ 0x74 ∷ 0x61 ∷ 0x69 ∷ 0x72 ∷ []

-- Nothing; --start FFFF; --start XYZ; --start alone; --start FFFF and one more; --stair FFFF.
lines_asked :
    start_in 0x0041 1 [] []
    ∷ start_in 0x0041 3 start_name ones
    ∷ start_in 0x0041 3 start_name letters
    ∷ start_in 0x0041 2 start_name []
    ∷ start_in 0x0041 4 start_name ones
    ∷ start_in 0x0041 3 stair ones ∷ []
    ≡ Ok 0x0041 ∷ Ok 0xFFFF ∷ Err NotHex ∷ Err NoSuch ∷ Err NoSuch ∷ Err NoSuch ∷ []
unfolding ones letters stair start_in told same word_in word_from digit_of
lines_asked = refl

-- ---- wrong answers

-- The start value that was asked for, and one too large for 16 bits where something is refused.
value_of : Result ℕ ArgumentError → ℕ
value_of (Ok value) = value
value_of (Err NotHex) = 65536
value_of (Err NoSuch) = 65536

-- start_in: what is no start value is passed over, and the device plays on with the other one
wrong_value_passed_over : start_in 0x0041 3 start_name letters ≢ Ok 0x0041
unfolding letters start_in told same word_in word_from digit_of value_of
wrong_value_passed_over is = true≢false (ap (λ (asked : Result ℕ ArgumentError). eqb (value_of asked) 65536) is)

-- start_in: a word that is not understood is passed over
unknown_word_passed_over : start_in 0x0041 3 stair ones ≢ Ok 0x0041
unfolding stair start_in same value_of
unknown_word_passed_over is = true≢false (ap (λ (asked : Result ℕ ArgumentError). eqb (value_of asked) 65536) is)
