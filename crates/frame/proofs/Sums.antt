-- A running value fits 16 bits: after one byte it does so whatever stood there before. And a CRC is a fold over its bytes, as the code works it out.
use Prim.Native.Nat.{ℕ, zero, suc, ◌^◌, ◌<◌}
use mathlib.Core.List.{List, [], ◌∷◌}
use native.Mathlib.Omega.{arith}
use mathlib.Core.Path.{◌≡◌, refl}
use Rattle.std.specs.List.{fold}
use lib.Bits.{xor_lt}
use Rattle.std.proofs.lemmas.Bool.Decides.{nat_tests}
use Rattle.frame.specs.Crc.{polynomial, shifted, bit_done, bits_done, byte_done, crc}

pub shifted_fits : (value : ℕ) → shifted value < 2 ^ 16
unfolding shifted
shifted_fits value = omega arith

bit_fits : (value : ℕ) → bit_done value < 2 ^ 16
unfolding bit_done polynomial
bit_fits value = grind (arith, nat_tests, xor_lt 16, shifted_fits value)

bits_fit : (count value : ℕ) → value < 2 ^ 16 → bits_done count value < 2 ^ 16
unfolding bits_done
bits_fit zero value fits = fits
bits_fit (suc count) value fits = bits_fit count (bit_done value) (bit_fits value)

pub byte_fits : (value byte : ℕ) → byte_done value byte < 2 ^ 16
unfolding byte_done bits_done
byte_fits value byte = bits_fit 7 _ (bit_fits _)

pub crc_fits : (value : ℕ) (bytes : List ℕ) → value < 2 ^ 16 → crc value bytes < 2 ^ 16
unfolding crc
crc_fits value [] fits = fits
crc_fits value (byte ∷ bytes) fits = crc_fits (byte_done value byte) bytes (byte_fits value byte)

pub folded : (value : ℕ) (bytes : List ℕ) → crc value bytes ≡ fold byte_done value bytes
unfolding crc
folded value [] = refl
folded value (byte ∷ bytes) = folded (byte_done value byte) bytes
