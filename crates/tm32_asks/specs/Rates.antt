-- Document 01, "The ten commands": the sixteen rates of PPS.
use Rattle.std.specs.Prelude.{ℕ, ◌-◌, Bool, cond, List, [], ◌∷◌, get_or}
use Rattle.tm32_asks.specs.Numbers.{from_one_to}

-- The rates in bits per second, in order of code. The first code is 0x01.
unfoldable pub rates : List ℕ
rates =
    2400 ∷ 4800 ∷ 9600 ∷ 14400 ∷ 19200 ∷ 38400 ∷ 43000 ∷ 57600
    ∷ 76800 ∷ 115200 ∷ 128000 ∷ 230400 ∷ 256000 ∷ 460800 ∷ 921600 ∷ 1382400 ∷ []

-- Whether a code names a rate: 0x01 to 0x10.
abbrev pub is_rate : ℕ → Bool
is_rate code = from_one_to 0x10 code

-- The rate of a code in bits per second. A code that names none gives 0.
unfoldable pub bits_per_second : ℕ → ℕ
bits_per_second code = cond (is_rate code) (get_or rates (code - 1) 0) 0
