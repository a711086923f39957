-- Digits, one behind the other, and the number that they write.
use Rattle.std.proofs.Common.{◌≡◌, ℕ, ◌+◌, ◌*◌, ◌^◌, ◌<◌, ◌≤◌, List, length, drop, get_or, arith, lit≤, Some}
use native.Mathlib.Nat.{pow-le-pow_right}
use Rattle.std.proofs.lemmas.Bool.Decides.{nat_tests}
use Rattle.std.proofs.lemmas.List.{at_drop_more, at_drop_all}
use Rattle.std.specs.Option.{option_and_then}
use Rattle.text.specs.Hex.{digit_of}
use Rattle.text.specs.Numbers.{word_from}

pub below_16 : (c digit : ℕ) → digit_of c ≡ Some digit → digit < 16
unfolding digit_of
below_16 c digit is = grind (arith, nat_tests)

pub at_digit : (number : ℕ) (digits : List ℕ) (place : ℕ) → place < length digits
    → word_from number (drop place digits) ≡ option_and_then (λ (digit : ℕ). word_from (16 * number + digit) (drop (place + 1) digits)) (digit_of (get_or digits place 0))
unfolding word_from
at_digit number digits place inside = at_drop_more (word_from number) digits place 0 inside

pub at_end : (number : ℕ) (digits : List ℕ) (place : ℕ) → length digits ≤ place → word_from number (drop place digits) ≡ Some number
unfolding word_from
at_end number digits place outside = at_drop_all (word_from number) digits place outside

-- Three digits write a number below 16 ^ 3.
pub below_4096 : (number place : ℕ) → number < 16 ^ place → place < 4 → number < 4096
below_4096 number place below inside =
    let few : place ≤ 3 = omega arith in
    let most : 16 ^ place ≤ 16 ^ 3 = pow-le-pow_right (lit≤ tt) few in
    omega (arith, most, below)

pub ruleset written_digits = (at_digit, at_end, below_16, below_4096)
