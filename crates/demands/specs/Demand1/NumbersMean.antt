-- Document 01, "A message and its reply", "The ten commands" and "Who may touch which page": lemmas for demand 1. Each check of a request, where it fails, has a number that says why.
use Rattle.std.specs.Prelude.{ℕ, true, ◌≡◌, ltb}
use Rattle.std.proofs.Math.Bool.{and-eq-true_iff}
use mathlib.Core.List.{List, [], ◌∷◌, ◌++◌}
use Rattle.std.proofs.Common.{sym, subst}
use Rattle.std.proofs.lemmas.Bool.{not-true}
use Rattle.memory.specs.Pages.{pages}
use Rattle.memory.specs.declared.PageRun.{PageRun}
use Rattle.tm32_asks.specs.Checks.{Check, checks, checks_of, protections, read_checks, write_checks}
use Rattle.tm32_asks.specs.Options.{rdp_on}
use Rattle.tm32_asks.specs.declared.Link.{Link}
use Rattle.tm32_asks.specs.declared.Request.{Request}
use Rattle.tm32_asks.specs.declared.Request.TheVariants.{Pps, Get, Read, Write, MemoryCrc, Erase, Go, WriteOptions, ReadOptions, HeartBeat, Misshapen}
use Rattle.demands.specs.Demand1.Meanings.{Because, Looks, at_crc, at_erase, at_read, by_erase, by_write, crc_address, crc_length, erase_address, go_address, no_page_count, no_rate, no_uart, pcrop, rdp, read_address, read_length, shape, write_address, write_length, wrp}
use Rattle.demands.specs.Messages.FirstFailing.{FirstFailing}

-- ---- any list of checks

-- That each check of a list, where it fails, has a number of which something holds.
unfoldable Mean : (ℕ → Type 0) → List Check → Type 0
Mean P [] = Unit {0}
Mean P (one ∷ rest) = (one.fails ≡ true → P one.number) × Mean P rest

-- so it holds of the number of any that fails
one_means : (P : ℕ → Type 0) (before : List Check) (one : Check) (rest : List Check) → Mean P (before ++ one ∷ rest) → one.fails ≡ true → P one.number
unfolding Mean
one_means P [] one rest all fails = all.0 fails
one_means P (first ∷ before) one rest all fails = one_means P before one rest all.1 fails

-- and of that of the first
first_means : (P : ℕ → Type 0) (list : List Check) (number : ℕ) → Mean P list → FirstFailing list number → P number
first_means P list number all found =
    subst P (sym found.numbered) (one_means P found.before found.one found.rest (subst (Mean P) found.split all) found.fails)

-- ---- the checks of a request

module _ (link : Link) (options : List ℕ) where
  -- against looking at pages, with what stands behind
  looks_mean : (request : Request) (run : PageRun) (rest : List Check) → Looks request run → Mean (Because link options request) rest
      → Mean (Because link options request) (read_checks options run ++ rest)
  unfolding Mean read_checks
  looks_mean request run rest looks others = (
    λ fails.
        let both = (and-eq-true_iff (ltb 0 run.count) (rdp_on options)).0 fails in
        rdp request run looks both.0 both.1,
    (pcrop request run looks, others),
  )

  -- each has its own meaning
  checks_mean : (request : Request) → Mean (Because link options request) (checks_of link options request)
  unfolding Mean checks protections read_checks write_checks
  checks_mean (Pps code) = (λ fails. no_uart code (not-true _ fails), (λ fails. no_rate code (not-true _ fails), tt))
  checks_mean Get = tt
  checks_mean (Read address count) =
      (λ fails. read_length address count (not-true _ fails), (λ fails. read_address address count (not-true _ fails), looks_mean _ _ [] (at_read address count) tt))
  checks_mean (Write flag address count) =
      (λ fails. write_length flag address count (not-true _ fails), (λ fails. write_address flag address count (not-true _ fails), (wrp _ _ (by_write flag address count), tt)))
  checks_mean (MemoryCrc address count wanted) =
      (crc_length address count wanted, (λ fails. crc_address address count wanted (not-true _ fails), looks_mean _ _ [] (at_crc address count wanted) tt))
  checks_mean (Erase first count) =
      (λ fails. no_page_count first count (not-true _ fails), (erase_address first count, looks_mean _ _ (write_checks options (pages first count)) (at_erase first count) (wrp _ _ (by_erase first count), tt)))
  checks_mean (Go address) = (λ fails. go_address address (not-true _ fails), tt)
  checks_mean WriteOptions = tt
  checks_mean ReadOptions = tt
  checks_mean HeartBeat = tt
  checks_mean Misshapen = (λ fails. shape, tt)

  -- so has the first that fails
  pub number_means : (request : Request) (number : ℕ) → FirstFailing (checks_of link options request) number → Because link options request number
  number_means request number found = first_means _ (checks_of link options request) number (checks_mean request) found
