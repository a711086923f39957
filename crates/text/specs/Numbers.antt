-- For the value that a CRC starts from (docs/01-AMENDMENTS.md, "The bench tape"): a number of 16 bits in hex, one to four digits, the highest first, and nothing beside them.
use Rattle.std.specs.Prelude.{ℕ, ◌+◌, ◌*◌, cond, List, [], ◌∷◌, length, Option, None, Some, option_and_then}
use Rattle.text.specs.Hex.{between, digit_of}

-- What digits say behind a number: each moves it up by a place.
unfoldable pub word_from : ℕ → List ℕ → Option ℕ
word_from number [] = Some number
word_from number (c ∷ rest) = option_and_then (λ (digit : ℕ). word_from (16 * number + digit) rest) (digit_of c)

-- The number that some characters write.
unfoldable pub word_in : List ℕ → Option ℕ
word_in digits = cond (between 1 4 (length digits)) (word_from 0 digits) None
