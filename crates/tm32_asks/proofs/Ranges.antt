-- Two ranges of pages: whether some page of a run is in either.
use Prim.Native.Nat.{ℕ, ◌+◌}
use mathlib.Core.Bool.{◌||◌}
use mathlib.Core.List.{List}
use mathlib.Core.Path.{◌≡◌}
use Rattle.memory.specs.Pages.{some_page}
use Rattle.memory.proofs.Laws.{some_either}
use Rattle.memory.specs.declared.PageRun.{PageRun}
use Rattle.tm32_asks.specs.Options.{in_either, in_range}

-- tried page by page or range by range it comes to the same
pub some_in_either : (options : List ℕ) (halfword : ℕ) (run : PageRun)
    → some_page (in_either options halfword) run ≡ some_page (in_range options halfword) run || some_page (in_range options (halfword + 2)) run
unfolding in_either
some_in_either options halfword run = some_either _ _ run
