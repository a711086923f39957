-- Document 01, "The ten commands": what a store leaves in memory. A memory is a list of bytes, and a place in it counts from 0.
use Rattle.std.specs.Prelude.{ℕ, ◌+◌, Bool, true, false, cond, ◌&&◌, List, [], ◌∷◌, ◌++◌, leb, eqb, length, take, drop, Result, Ok, Err, ⊤}
use Rattle.std.specs.Int.Bits.{bit_and}
use Rattle.memory.specs.declared.Outside.{Outside}
use Rattle.memory.specs.declared.Programmed.{Programmed}
use Rattle.memory.specs.declared.Programmed.TheVariants.{AsGiven, Differs}

-- So many bytes of a memory, from a place on.
unfoldable pub part : List ℕ → ℕ → ℕ → List ℕ
part memory place count = take count (drop place memory)

-- A memory with other bytes from a place on: what stands before and behind them stays.
unfoldable pub replaced : List ℕ → ℕ → List ℕ → List ℕ
replaced memory place bytes = take place memory ++ bytes ++ drop (place + length bytes) memory

-- What programming makes of old bytes: of each byte the bits stay that are also set in the byte given for it. It goes as far as the shorter list.
unfoldable pub masked : List ℕ → List ℕ → List ℕ
masked [] given = []
masked (old ∷ olds) [] = []
masked (old ∷ olds) (given ∷ rest) = bit_and old given ∷ masked olds rest

-- Whether two lists are the same, byte for byte.
unfoldable pub same : List ℕ → List ℕ → Bool
same [] [] = true
same [] (y ∷ ys) = false
same (x ∷ xs) [] = false
same (x ∷ xs) (y ∷ ys) = eqb x y && same xs ys

-- What comes of a store: whether it was done, and the memory afterwards.
pub record Change : Type 0 where
  pub done : Result ⊤ Outside
  pub memory : List ℕ

-- The two put together.
abbrev pub change : Result ⊤ Outside → List ℕ → Change
change done memory = record { done = done; memory = memory }

-- Whether so many bytes from a place on lie in a memory.
unfoldable pub holds : List ℕ → ℕ → ℕ → Bool
holds memory place count = leb (place + count) (length memory)

-- Refused, since the bytes reach past the end of a memory.
abbrev pub outside : Outside
outside = record {}

-- Storing bytes from a place on. What would reach past the end is refused and changes nothing.
unfoldable pub replacing : List ℕ → ℕ → List ℕ → Change
replacing memory place bytes = cond (holds memory place (length bytes)) (change (Ok tt) (replaced memory place bytes)) (change (Err outside) memory)

-- What comes of programming: the answer, and the memory afterwards.
pub record Outcome : Type 0 where
  pub answer : Result Programmed Outside
  pub memory : List ℕ

-- The two put together.
abbrev pub outcome : Result Programmed Outside → List ℕ → Outcome
outcome answer memory = record { answer = answer; memory = memory }

-- The bytes that programming leaves where other bytes were given.
unfoldable pub kept : List ℕ → ℕ → List ℕ → List ℕ
kept memory place bytes = masked (part memory place (length bytes)) bytes

-- Programming bytes from a place on, and whether they are then as they were given. What would reach past the end is refused and changes nothing.
unfoldable pub programming : List ℕ → ℕ → List ℕ → Outcome
programming memory place bytes =
    cond (holds memory place (length bytes))
    (outcome (Ok (cond (same (kept memory place bytes) bytes) AsGiven Differs)) (replaced memory place (kept memory place bytes)))
    (outcome (Err outside) memory)
