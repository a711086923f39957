-- Document 01, "A message and its reply" and "When nothing is done": which results say that nothing was done. Definitions only.
use Rattle.std.specs.Prelude.{ℕ, Bool, false, ◌||◌, List, [], ◌∷◌, eqb}

-- Whether a number is one of some.
unfoldable pub is_one_of : List ℕ → ℕ → Bool
is_one_of [] number = false
is_one_of (first ∷ rest) number = eqb number first || is_one_of rest number

-- The results that say that nothing was done: no handshake, shape, rate, address, length, page count, link, write protection, read protection, PCROP, and a CRC that differs.
unfoldable pub refusals : List ℕ
refusals = 0x80 ∷ 0x91 ∷ 0xF0 ∷ 0xF1 ∷ 0xF2 ∷ 0xF3 ∷ 0xF5 ∷ 0x61 ∷ 0x62 ∷ 0x63 ∷ 0xF4 ∷ []

-- Whether a result is one of these.
unfoldable pub is_refusal : ℕ → Bool
is_refusal number = is_one_of refusals number
