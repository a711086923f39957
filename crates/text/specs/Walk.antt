-- The words in which the promises of the reader's loop speak of hex.
use Rattle.std.specs.Prelude.{ℕ, ◌+◌, List, length, Option, None, Some, Result, Ok, Err}
use Rattle.std.proofs.lemmas.List.Edits.{sets}
use Rattle.text.specs.Hex.{Said, Read, read}
use Rattle.text.specs.declared.HexError.{HexError}
use Rattle.text.specs.declared.HexError.TheVariants.{NotHex}

-- The answer behind so many bytes.
unfoldable pub counted : Option ℕ → ℕ → Result ℕ HexError
counted None count = Ok count
counted (Some place) count = Err (NotHex place)

-- What comes of a walk that has counted so many bytes: it counts those that are left too, and stores each where there is room for it.
unfoldable pub walking : ℕ → Said → List ℕ → Read
walking count said buffer = read (counted said.wrong (count + length said.bytes)) (sets buffer count said.bytes)
