-- For whoever reads a tape piece by piece: the block that it is read into.
use Rattle.std.specs.Prelude.{ℕ, ◌-◌, List, length}
use Rattle.frame.specs.Frame.{laid}
use Rattle.memory.specs.Stores.{part}

-- What is left of the bytes that a block holds once some of them are used: those from there up to the last that it holds.
unfoldable pub rest_of : List ℕ → ℕ → ℕ → List ℕ
rest_of block used held = part block used (held - used)

-- What comes of keeping it: how many bytes those are, and the block afterwards.
pub record Kept : Type 0 where
  pub count : ℕ
  pub block : List ℕ

-- The two put together.
abbrev pub kept_rest : ℕ → List ℕ → Kept
kept_rest count block = record { count = count; block = block }

-- They are laid over the start of the block.
unfoldable pub keeping : List ℕ → ℕ → ℕ → Kept
keeping block used held = kept_rest (length (rest_of block used held)) (laid (rest_of block used held) block)
