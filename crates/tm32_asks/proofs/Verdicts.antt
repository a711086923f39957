-- Lists of checks, one behind the other: the first list decides where one of its checks fails, and else the second.
use Prim.Native.Nat.{ℕ}
use mathlib.Core.Bool.{Bool, true, not, ◌&&◌}
use mathlib.Core.List.{List, [], ◌∷◌, ◌++◌, map-append}
use mathlib.Core.Path.{◌≡◌, refl, sym, subst, ◌∙◌}
use native.Mathlib.Omega.{arith}
use lib.Dec.{eqb}
use Rattle.std.proofs.lemmas.Bool.Decides.{nat_tests}
use Rattle.std.specs.Prelude.{Ok, Err}
use Rattle.frame.specs.Frame.{reading, spoiled}
use Rattle.memory.specs.declared.PageRun.{PageRun}
use Rattle.tm32_asks.specs.Checks.{Check, checks, checks_of, none_fails, numbers_of, protections, read_checks, verdict, write_checks}
use Rattle.tm32_asks.specs.Request.{reading_result, request_in}
use Rattle.tm32_asks.specs.Results.{number_of, pcrop_protected, read_protected, work_done, write_protected, wrong_address, wrong_length, wrong_link, wrong_page_count, wrong_rate, wrong_shape}
use Rattle.tm32_asks.specs.declared.results.Complaint.{Complaint}
use Rattle.tm32_asks.specs.declared.Link.{Link}
use Rattle.tm32_asks.specs.declared.Request.{Request}
use Rattle.tm32_asks.specs.declared.Request.TheVariants.{Pps, Get, Read, Write, MemoryCrc, Erase, Go, WriteOptions, ReadOptions, HeartBeat, Misshapen}
use Rattle.tm32_asks.proofs.OneOutcome.{same_answer}

-- Whether some numbers all pass a test.
unfoldable pub pass_all : (ℕ → Bool) → List ℕ → Bool
pass_all test [] = true
pass_all test (first ∷ rest) = test first && pass_all test rest

-- Whether a number is not a given one.
unfoldable pub is_not : ℕ → ℕ → Bool
is_not other number = not (eqb number other)

-- That no check of a list has a number.
abbrev pub Unnumbered : ℕ → List Check → Type 0
Unnumbered number list = pass_all (is_not number) (numbers_of list) ≡ true

module _ (passed : ℕ) (second : List Check) where
  -- a check of the first list that fails decides
  pub first_list_decides : (first : List Check) → (verdict passed first ≡ passed → ⊥) → verdict passed (first ++ second) ≡ verdict passed first
  unfolding verdict
  first_list_decides [] failed = absurd (failed refl)
  first_list_decides (one ∷ rest) failed = grind (arith, nat_tests, first_list_decides rest)

  -- where none fails, the second list decides
  pub second_list_decides : (first : List Check) → Unnumbered passed first → verdict passed first ≡ passed → verdict passed (first ++ second) ≡ verdict passed second
  unfolding verdict pass_all is_not numbers_of
  second_list_decides [] others passes = refl
  second_list_decides (one ∷ rest) others passes = grind (arith, nat_tests, second_list_decides rest)

-- what is complained of is never told by the number that says that the work is done
complaint_told : (complaint : Complaint) → number_of (Err complaint) ≡ work_done → ⊥
complaint_told complaint told =
    let same = same_answer (Err complaint) (Ok tt) told in
    cc

-- so what the first list complains of is the answer of both, and where it complains of nothing the second list's answer is
module _ (first second : List Check) where
  pub first_complains : (complaint : Complaint) → number_of (Err complaint) ≡ verdict work_done first → number_of (Err complaint) ≡ verdict work_done (first ++ second)
  first_complains complaint told =
      told ∙ sym (first_list_decides work_done second first (λ same. complaint_told complaint (told ∙ same)))

  pub second_answers : Unnumbered work_done first → work_done ≡ verdict work_done first → verdict work_done second ≡ verdict work_done (first ++ second)
  second_answers others told = sym (second_list_decides work_done second first others (sym told))

-- What holds of the numbers that each command's checks have, before protection and of protection, holds of those of every request. PPS, Read and Memory CRC, Write, Erase, Go, what has no
-- shape, and the commands that have no check.
module _ (P : List ℕ → List ℕ → Type 0)
    (rates : P (wrong_link ∷ wrong_rate ∷ []) [])
    (reads : P (wrong_length ∷ wrong_address ∷ []) (read_protected ∷ pcrop_protected ∷ []))
    (writes : P (wrong_length ∷ wrong_address ∷ []) (write_protected ∷ []))
    (erases : P (wrong_page_count ∷ wrong_address ∷ []) (read_protected ∷ pcrop_protected ∷ write_protected ∷ []))
    (jumps : P (wrong_address ∷ []) [])
    (shapeless : P (wrong_shape ∷ []) [])
    (free : P [] []) where
  pub of_both_numbers : (link : Link) (options : List ℕ) (request : Request) → P (numbers_of (checks link request)) (numbers_of (protections options request))
  unfolding numbers_of checks protections read_checks write_checks
  of_both_numbers link options (Pps code) = rates
  of_both_numbers link options Get = free
  of_both_numbers link options (Read address count) = reads
  of_both_numbers link options (Write flag address count) = writes
  of_both_numbers link options (MemoryCrc address count wanted) = reads
  of_both_numbers link options (Erase first count) = erases
  of_both_numbers link options (Go address) = jumps
  of_both_numbers link options WriteOptions = free
  of_both_numbers link options ReadOptions = free
  of_both_numbers link options HeartBeat = free
  of_both_numbers link options Misshapen = shapeless

-- the same for all the checks of a request
module _ (P : List ℕ → Type 0)
    (rates : P (wrong_link ∷ wrong_rate ∷ []))
    (reads : P (wrong_length ∷ wrong_address ∷ read_protected ∷ pcrop_protected ∷ []))
    (writes : P (wrong_length ∷ wrong_address ∷ write_protected ∷ []))
    (erases : P (wrong_page_count ∷ wrong_address ∷ read_protected ∷ pcrop_protected ∷ write_protected ∷ []))
    (jumps : P (wrong_address ∷ []))
    (shapeless : P (wrong_shape ∷ []))
    (free : P []) where
  pub of_numbers : (link : Link) (options : List ℕ) (request : Request) → P (numbers_of (checks_of link options request))
  unfolding numbers_of
  of_numbers link options request =
      subst P (sym (map-append (λ (one : Check). one.number) (checks link request) (protections options request)))
      (of_both_numbers (λ before behind. P (before ++ behind)) rates reads writes erases jumps shapeless free link options request)

-- no check of a request has for its number that work was done
pub request_others : (link : Link) (options : List ℕ) (request : Request) → Unnumbered work_done (checks_of link options request)
unfolding pass_all is_not
request_others = of_numbers (λ numbers. pass_all (is_not work_done) numbers ≡ true) refl refl refl refl refl refl refl

-- nor has one of those before protection, or of those against looking at pages
pub checks_others : (link : Link) (request : Request) → Unnumbered work_done (checks link request)
unfolding pass_all is_not
checks_others link = of_both_numbers (λ before behind. pass_all (is_not work_done) before ≡ true) refl refl refl refl refl refl refl link []

pub read_others : (options : List ℕ) (run : PageRun) → Unnumbered work_done (read_checks options run)
unfolding pass_all is_not numbers_of read_checks
read_others options run = refl

-- a message whose frame is spoiled is refused with the number of that
pub spoiled_refused : (link : Link) (options : List ℕ) (start : ℕ) (message : List ℕ) (place : ℕ) → reading start message ≡ spoiled place
    → verdict work_done (checks_of link options (request_in start message)) ≡ reading_result (reading start message)
unfolding request_in reading_result checks protections verdict
spoiled_refused link options start message place is = rw is

-- a verdict that work may be done: no check fails
pub none_fails_where_passed : (passed : ℕ) (list : List Check) → Unnumbered passed list → verdict passed list ≡ passed → none_fails list ≡ true
unfolding verdict pass_all is_not numbers_of none_fails
none_fails_where_passed passed [] others passes = refl
none_fails_where_passed passed (one ∷ rest) others passes = grind (arith, nat_tests, none_fails_where_passed passed rest)
