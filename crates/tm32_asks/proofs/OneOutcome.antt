-- No two answers satisfy the contract of `verdict`, nor that of `Complaint::try_from`: it fixes the number of the answer, and no two answers have the same number.
use Prim.Native.Nat.{ℕ}
use mathlib.Core.Bool.{cond}
use mathlib.Core.List.{List}
use mathlib.Core.Path.{◌≡◌, refl, ap, sym, ◌∙◌}
use lib.Dec.{eqb}
use Rattle.std.specs.Prelude.{Result, Ok, Err, ⊤}
use Rattle.tm32_asks.specs.Checks.{checks_of, verdict}
use Rattle.tm32_asks.specs.Results.{Tells, no_handshake, number_of, pcrop_protected, read_protected, readback_differs, work_done, write_protected, wrong_address, wrong_crc, wrong_length, wrong_link, wrong_page_count, wrong_rate, wrong_shape}
use Rattle.tm32_asks.specs.declared.results.Complaint.{Complaint}
use Rattle.tm32_asks.specs.declared.results.NoComplaint.{NoComplaint}
use Rattle.tm32_asks.specs.declared.results.Complaint.TheVariants.{NoHandshake, WrongShape, WrongLink, WrongRate, WrongLength, WrongPageCount, WrongAddress, ReadProtected, PcropProtected, WriteProtected, WrongCrc, ReadbackDiffers}
use Rattle.tm32_asks.specs.declared.Link.{Link}
use Rattle.tm32_asks.specs.declared.Request.{Request}

-- The answer that a number tells. A number that tells none is read as that of work done.
abbrev told_by : ℕ → Result ⊤ Complaint
told_by number =
    cond (eqb number no_handshake) (Err NoHandshake)
    (cond (eqb number wrong_shape) (Err WrongShape)
    (cond (eqb number wrong_link) (Err WrongLink)
    (cond (eqb number wrong_rate) (Err WrongRate)
    (cond (eqb number wrong_length) (Err WrongLength)
    (cond (eqb number wrong_page_count) (Err WrongPageCount)
    (cond (eqb number wrong_address) (Err WrongAddress)
    (cond (eqb number read_protected) (Err ReadProtected)
    (cond (eqb number pcrop_protected) (Err PcropProtected)
    (cond (eqb number write_protected) (Err WriteProtected)
    (cond (eqb number wrong_crc) (Err WrongCrc)
    (cond (eqb number readback_differs) (Err ReadbackDiffers)
    (Ok tt))))))))))))

-- each answer is the one that its number tells
told_back : (answer : Result ⊤ Complaint) → told_by (number_of answer) ≡ answer
told_back (Ok done) = refl
told_back (Err NoHandshake) = refl
told_back (Err WrongShape) = refl
told_back (Err WrongLink) = refl
told_back (Err WrongRate) = refl
told_back (Err WrongLength) = refl
told_back (Err WrongPageCount) = refl
told_back (Err WrongAddress) = refl
told_back (Err ReadProtected) = refl
told_back (Err PcropProtected) = refl
told_back (Err WriteProtected) = refl
told_back (Err WrongCrc) = refl
told_back (Err ReadbackDiffers) = refl

-- two answers with the same number are the same
pub same_answer : (one other : Result ⊤ Complaint) → number_of one ≡ number_of other → one ≡ other
same_answer one other same = sym (told_back one) ∙ ap told_by same ∙ told_back other

-- verdict
pub verdict_once : (link : Link) (options : List ℕ) (request : Request) (one other : Result ⊤ Complaint)
    → number_of one ≡ verdict work_done (checks_of link options request) → number_of other ≡ verdict work_done (checks_of link options request)
    → one ≡ other
verdict_once link options request one other first second = same_answer one other (first ∙ sym second)

-- what is found for a number
pub found_once : (number : ℕ) (one other : Result Complaint NoComplaint) → Tells number one → Tells number other → one ≡ other
found_once number (Ok one) (Ok other) first second =
    let same = same_answer (Err one) (Err other) (first ∙ sym second) in
    cc
found_once number (Ok one) (Err other) first second = absurd (second.1 one first)
found_once number (Err one) (Ok other) first second = absurd (first.1 other second)
found_once number (Err one) (Err other) first second = ap (λ (none : ℕ). Err (record { 0 = none })) (first.0 ∙ sym second.0)
