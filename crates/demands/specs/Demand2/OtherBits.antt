-- Document 01, "Who may touch which page": lemmas for demand 2. Of the option bytes only nine say anything, the low bytes of halfword 1 and of halfwords 3 to 10.
use Rattle.std.specs.Prelude.{ℕ, ◌≡◌, eqb}
use Rattle.std.proofs.Math.Bool.{not}
use mathlib.Core.List.{List, ◌++◌}
use Rattle.std.proofs.Math.Path.{refl, ap, ap₂, fun_ext}
use Rattle.std.proofs.Common.{lit≤}
use Rattle.memory.specs.Pages.{pages}
use Rattle.memory.specs.declared.PageRun.{PageRun}
use Rattle.tm32_asks.specs.Checks.{flash_pages, protections, read_checks, write_checks}
use Rattle.tm32_asks.specs.Options.{in_either, rdp_on, under_pcrop, under_wrp}
use Rattle.tm32_asks.specs.declared.Request.{Request}
use Rattle.tm32_asks.specs.declared.Request.TheVariants.{Pps, Get, Read, Write, MemoryCrc, Erase, Go, WriteOptions, ReadOptions, HeartBeat, Misshapen}
use Rattle.demands.specs.Demand2.Memories.{SameLow}

module _ (one other : List ℕ) (low : SameLow one other) where
  -- read protection is on in both or in neither
  pub rdp_same : rdp_on one ≡ rdp_on other
  unfolding rdp_on
  rdp_same = ap (λ (byte : ℕ). not (eqb byte 0xAA)) low.first

  -- a page is under PCROP in both or in neither
  pub pcrop_same : (page : ℕ) → under_pcrop one page ≡ under_pcrop other page
  unfolding in_either
  pcrop_same page = rw (low.ranges 3 (lit≤ tt) (lit≤ tt), low.ranges 4 (lit≤ tt) (lit≤ tt), low.ranges 5 (lit≤ tt) (lit≤ tt), low.ranges 6 (lit≤ tt) (lit≤ tt))

  -- and so it is with WRP
  pub wrp_same : (page : ℕ) → under_wrp one page ≡ under_wrp other page
  unfolding in_either
  wrp_same page = rw (low.ranges 7 (lit≤ tt) (lit≤ tt), low.ranges 8 (lit≤ tt) (lit≤ tt), low.ranges 9 (lit≤ tt) (lit≤ tt), low.ranges 10 (lit≤ tt) (lit≤ tt))

  -- the checks against looking at pages, and against changing them
  pub reads_same : (run : PageRun) → read_checks one run ≡ read_checks other run
  unfolding read_checks
  reads_same run = rw (rdp_same, fun_ext pcrop_same)

  pub writes_same : (run : PageRun) → write_checks one run ≡ write_checks other run
  unfolding write_checks
  writes_same run = rw (fun_ext wrp_same)

module _ (one other : List ℕ) (reads : (run : PageRun) → read_checks one run ≡ read_checks other run) (writes : (run : PageRun) → write_checks one run ≡ write_checks other run) where
  -- where both kinds of checks are the same, protection says the same of every request
  pub protections_so : (request : Request) → protections one request ≡ protections other request
  unfolding protections
  protections_so (Pps code) = refl
  protections_so Get = refl
  protections_so (Read address count) = reads (flash_pages address count)
  protections_so (Write flag address count) = writes (flash_pages address count)
  protections_so (MemoryCrc address count wanted) = reads (flash_pages address count)
  protections_so (Erase first count) = ap₂ ◌++◌ (reads (pages first count)) (writes (pages first count))
  protections_so (Go address) = refl
  protections_so WriteOptions = refl
  protections_so ReadOptions = refl
  protections_so HeartBeat = refl
  protections_so Misshapen = refl
