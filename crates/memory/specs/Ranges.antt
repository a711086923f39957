-- Document 01, "The ten commands": ranges of addresses, and the regions that hold them.
use Rattle.std.specs.Prelude.{ℕ, ◌+◌, Bool, ◌&&◌, leb}

-- Whether so many bytes from an address on lie in a region of some size from its start on. The sums are those of natural numbers, so no range wraps into a region.
unfoldable pub within : ℕ → ℕ → ℕ → ℕ → Bool
within start size address count = leb start address && leb (address + count) (start + size)
