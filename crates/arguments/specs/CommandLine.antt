-- Document 01 with docs/01-AMENDMENTS.md, "The bench tape": the value that a CRC starts from, as a command line asks for it.
use Rattle.std.specs.Prelude.{ℕ, ◌≤◌, cond, ◌&&◌, List, [], ◌∷◌, ◌≡◌, Option, Some, None, Result, Ok, Err, eqb, ltb, length, take}
use Rattle.memory.specs.Stores.{same}
use Rattle.text.specs.Numbers.{word_in}
use Rattle.arguments.specs.declared.errors.ArgumentError.{ArgumentError}
use Rattle.arguments.specs.declared.errors.ArgumentError.TheVariants.{NotHex, NoSuch}
use Rattle.arguments.specs.declared.command_line.Told.{Told}

-- The word that a start value stands behind: --start.
abbrev pub start_name : List ℕ
start_name = 0x2D ∷ 0x2D ∷ 0x73 ∷ 0x74 ∷ 0x61 ∷ 0x72 ∷ 0x74 ∷ []

-- What the word behind it comes to.
unfoldable pub told : Option ℕ → Result ℕ ArgumentError
told (Some number) = Ok number
told None = Err NotHex

-- So many arguments, the program's own name among them, of which the second and the third are these. Where there are none of those, the start value is another one.
unfoldable pub start_in : ℕ → ℕ → List ℕ → List ℕ → Result ℕ ArgumentError
start_in otherwise count name value =
    cond (ltb count 2) (Ok otherwise)
    (cond (eqb count 3 && same name start_name) (told (word_in value))
    (Err NoSuch))

-- That what is asked for is what the words that were found ask for. They stand at the start of two buffers, and lie within them.
pub record Answers (otherwise : ℕ) (found : Told) (name value : List ℕ) : Type 0 where
  pub asks : found.asked ≡ start_in otherwise found.count (take found.name name) (take found.value value)
  pub named : found.name ≤ length name
  pub valued : found.value ≤ length value
