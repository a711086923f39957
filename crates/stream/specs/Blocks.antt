-- A block that is read into piece by piece.
use Rattle.std.specs.Prelude.{ℕ, ◌≤◌, ◌<◌, List, ◌≡◌, Option, Some, None, Result, Ok, Err, length, take}
use Rattle.stream.specs.declared.errors.FillError.{FillError}
use Rattle.stream.specs.declared.errors.FillError.TheVariants.{Full, Failed}

-- The bytes that a block held stand where they stood.
abbrev pub Keeps : ℕ → List ℕ → List ℕ → Type 0
Keeps held block after = take held after ≡ take held block

-- What can be said of reading on behind so many bytes, whatever comes: a full block is not read into, and stays as it is; else what it held stays, and what it holds now is more and lies in it.
abbrev pub ReadsOn : Result (Option ℕ) FillError → ℕ → List ℕ → List ℕ → Type 0
ReadsOn (Ok (Some now)) held block after = Keeps held block after × (held < now) × (now ≤ length block)
ReadsOn (Ok None) held block after = Keeps held block after × (held < length block)
ReadsOn (Err Full) held block after = (after ≡ block) × (length block ≤ held)
ReadsOn (Err Failed) held block after = Keeps held block after × (held < length block)
