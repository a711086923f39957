-- Document 01, "The chip on the bench" and "The ten commands": numbers of 32 bits as they stand in a message, the low byte first, and numbers that count from 1.
use Rattle.std.specs.Prelude.{ℕ, ◌+◌, ◌*◌, ◌/◌, Bool, ◌&&◌, List, ◌++◌, leb}
use Rattle.frame.specs.Frame.{word, word_at}

-- A number in four bytes.
unfoldable pub long : ℕ → List ℕ
long number = word number ++ word (number / 0x10000)

-- The number in the four bytes from a place on.
unfoldable pub long_at : List ℕ → ℕ → ℕ
long_at bytes place = word_at bytes place + 0x10000 * word_at bytes (place + 2)

-- Whether a number is at least 1 and at most another.
unfoldable pub from_one_to : ℕ → ℕ → Bool
from_one_to most number = leb 1 number && leb number most
