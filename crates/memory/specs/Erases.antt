-- Document 01, "The ten commands" and "Who may touch which page": what an erase and a wipe leave of a memory. The size of a page, an erased byte and the count of pages are arguments.
use Rattle.std.specs.Prelude.{ℕ, zero, suc, ◌+◌, ◌*◌, Bool, cond, List, ◌++◌, take, drop, replicate}
use Rattle.memory.specs.Stores.{replaced}

-- An erase: so many pages from the first on become blank.
unfoldable pub erased_pages : ℕ → ℕ → List ℕ → ℕ → ℕ → List ℕ
erased_pages size blank memory first count = replaced memory (first * size) (replicate (count * size) blank)

-- A wipe of so many pages, of which the first has a number: each that passes a test becomes blank. The others stay, and so does what stands behind them. It is said of a memory that has all of
-- these pages.
unfoldable pub wiped_from : ℕ → ℕ → (ℕ → Bool) → ℕ → ℕ → List ℕ → List ℕ
wiped_from size blank test page zero memory = memory
wiped_from size blank test page (suc count) memory =
    cond (test page) (replicate size blank) (take size memory) ++ wiped_from size blank test (page + 1) count (drop size memory)

-- A wipe of a memory's first so many pages.
unfoldable pub wiped_pages : ℕ → ℕ → (ℕ → Bool) → ℕ → List ℕ → List ℕ
wiped_pages size blank test count memory = wiped_from size blank test 0 count memory
