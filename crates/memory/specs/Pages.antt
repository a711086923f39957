-- Document 01, "Who may touch which page": the pages that a range touches, and ranges of page numbers that protect. The size of a page and the count of pages are arguments.
use Rattle.std.specs.Prelude.{ℕ, zero, suc, ◌+◌, ◌-◌, ◌/◌, Bool, false, cond, ◌&&◌, ◌||◌, leb, ltb, eqb}
use Rattle.memory.specs.declared.PageRun.{PageRun}

-- So many pages from the first on.
abbrev pub pages : ℕ → ℕ → PageRun
pages first count = record { first = first; count = count }

-- The pages that so many bytes from a place on touch: from the page of the first byte to that of the last. Without a byte, or with pages of no length, none.
unfoldable pub touched : ℕ → ℕ → ℕ → PageRun
touched size place count =
    cond (eqb size 0 || eqb count 0) (pages 0 0)
    (pages (place / size) ((place + count - 1) / size - place / size + 1))

-- Whether some of so many pages, from the first on, pass a test.
unfoldable pub some_from : (ℕ → Bool) → ℕ → ℕ → Bool
some_from test first zero = false
some_from test first (suc count) = test first || some_from test (first + 1) count

-- Whether some page of a run passes a test.
unfoldable pub some_page : (ℕ → Bool) → PageRun → Bool
some_page test run = some_from test run.first run.count

-- Whether a range of page numbers covers a page of a chip that has so many pages. Both ends are in; where the start is above the end nothing is; a page that the chip does not have never is.
unfoldable pub covers : ℕ → ℕ → ℕ → ℕ → Bool
covers total low high page = ltb page total && (leb low page && leb page high)

-- Whether such a range covers some page of a run.
unfoldable pub meets : ℕ → ℕ → ℕ → PageRun → Bool
meets total low high run = some_page (covers total low high) run
