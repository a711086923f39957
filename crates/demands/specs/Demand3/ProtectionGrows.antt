-- Document 01, "Who may touch which page": of two lots of option bytes of which the first protects all that the second does, whatever the first lets through the second does. And the numbers that protection
-- gives are its own.
use Rattle.std.specs.Prelude.{ℕ, Bool, true, false, not, ◌&&◌, List, [], ◌∷◌, ◌++◌, ◌≡◌, refl, ltb}
use Rattle.std.proofs.Common.{true≢false, sym, ◌∙◌}
use Rattle.memory.specs.Pages.{pages}
use Rattle.memory.specs.declared.PageRun.{PageRun}
use Rattle.memory.proofs.Laws.{some_grows}
use Rattle.tm32_asks.specs.Checks.{Check, checks, flash_pages, none_fails, numbers_of, protections, read_checks, write_checks}
use Rattle.tm32_asks.specs.Options.{ProtectAll, rdp_on, under_pcrop, under_wrp}
use Rattle.tm32_asks.specs.Results.{work_done}
use Rattle.tm32.specs.Run.{run}
use Rattle.tm32_asks.specs.declared.Link.{Link}
use Rattle.tm32_asks.specs.declared.Link.TheVariants.{Uart}
use Rattle.tm32_asks.specs.declared.Request.{Request}
use Rattle.tm32_asks.specs.declared.Request.TheVariants.{Pps, Get, Read, Write, MemoryCrc, Erase, Go, WriteOptions, ReadOptions, HeartBeat, Misshapen}
use Rattle.tm32_asks.proofs.Accepted.{next}
use Rattle.tm32_asks.proofs.Verdicts.{Unnumbered, is_not, of_both_numbers, pass_all}
use Rattle.demands.specs.Demand1.Refusals.{is_one_of}
use Rattle.demands.specs.Demand3.TwoDevices.{protection_results}

-- ---- checks that fail in fewer places

-- That of two lists of checks each check of the first fails only where the one in its place of the second does.
data Fewer : List Check → List Check → Type 0 where
  none : Fewer [] []
  more : {one other : Check} {rest others : List Check} → (one.fails ≡ true → other.fails ≡ true) → Fewer rest others → Fewer (one ∷ rest) (other ∷ others)

-- a test that fails wherever another does not pass
falls : (test wider : Bool) → (test ≡ true → wider ≡ true) → wider ≡ false → test ≡ false
falls true wider covers fails = absurd (true≢false (sym (covers refl) ∙ fails))
falls false wider covers fails = refl

-- where no check of the second fails, none of the first does
fewer_pass : {list wider : List Check} → Fewer list wider → none_fails wider ≡ true → none_fails list ≡ true
unfolding none_fails
fewer_pass none pass = refl
fewer_pass (more {one} {other} {rest} {others} grows behind) pass =
    let ahead = next other others pass in
    rw (falls one.fails other.fails grows ahead.0) (fewer_pass behind ahead.1)

module _ (strict loose : List ℕ) (protects : ProtectAll strict loose) where
  -- read protection counts where there is a page
  rdp_grows : (some : Bool) → (some && rdp_on loose) ≡ true → (some && rdp_on strict) ≡ true
  rdp_grows true is = protects.rdp is
  rdp_grows false is = is

  -- against looking at pages, and whatever comes behind
  fewer_read : (run : PageRun) {rest others : List Check} → Fewer rest others → Fewer (read_checks loose run ++ rest) (read_checks strict run ++ others)
  unfolding read_checks
  fewer_read run behind = more (rdp_grows (ltb 0 run.count)) (more (some_grows (under_pcrop loose) (under_pcrop strict) run protects.pcrop) behind)

  -- against changing pages
  fewer_written : (run : PageRun) → Fewer (write_checks loose run) (write_checks strict run)
  unfolding write_checks
  fewer_written run = more (some_grows (under_wrp loose) (under_wrp strict) run protects.wrp) none

  -- of every request
  fewer_protections : (request : Request) → Fewer (protections loose request) (protections strict request)
  unfolding protections read_checks
  fewer_protections (Pps code) = none
  fewer_protections Get = none
  fewer_protections (Read address count) = fewer_read (flash_pages address count) none
  fewer_protections (Write flag address count) = fewer_written (flash_pages address count)
  fewer_protections (MemoryCrc address count wanted) = fewer_read (flash_pages address count) none
  fewer_protections (Erase first count) = fewer_read (pages first count) (fewer_written (pages first count))
  fewer_protections (Go address) = none
  fewer_protections WriteOptions = none
  fewer_protections ReadOptions = none
  fewer_protections HeartBeat = none
  fewer_protections Misshapen = none

  -- what the stricter lets through, the looser does
  pub still_passes : (request : Request) → none_fails (protections strict request) ≡ true → none_fails (protections loose request) ≡ true
  still_passes request pass = fewer_pass (fewer_protections request) pass

-- ---- numbers before protection, and numbers of protection

-- Whether a number is that of a refusal for protection, and whether it is not.
abbrev pub is_protection : ℕ → Bool
is_protection number = is_one_of protection_results number

abbrev pub is_other : ℕ → Bool
is_other number = not (is_protection number)

-- no check before protection has such a number, and all of protection have; none of these says that work is done
pub checks_other : (link : Link) (request : Request) → pass_all is_other (numbers_of (checks link request)) ≡ true
unfolding pass_all is_one_of
checks_other link = of_both_numbers (λ before behind. pass_all is_other before ≡ true) refl refl refl refl refl refl refl link []

pub protections_own : (options : List ℕ) (request : Request) → pass_all is_protection (numbers_of (protections options request)) ≡ true
unfolding pass_all is_one_of
protections_own = of_both_numbers (λ before behind. pass_all is_protection behind ≡ true) refl refl refl refl refl refl refl Uart

pub protections_others : (options : List ℕ) (request : Request) → Unnumbered work_done (protections options request)
unfolding pass_all is_not
protections_others = of_both_numbers (λ before behind. pass_all (is_not work_done) behind ≡ true) refl refl refl refl refl refl refl Uart
