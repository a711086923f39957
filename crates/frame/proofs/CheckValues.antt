-- The CRC over the nine characters 123456789, worked out by the checker: from start 0 the value that 01 gives under "A message and its reply", and from start 0xFFFF the one published for that start.
use mathlib.Core.Path.{◌≡◌, refl}
use mathlib.Core.List.{List, [], ◌∷◌}
use Prim.Native.Nat.{ℕ}
use Rattle.frame.specs.Crc.{polynomial, shifted, bit_done, bits_done, byte_done, crc}

nine_characters : List ℕ
nine_characters = 0x31 ∷ 0x32 ∷ 0x33 ∷ 0x34 ∷ 0x35 ∷ 0x36 ∷ 0x37 ∷ 0x38 ∷ 0x39 ∷ []

from_nought : crc 0 nine_characters ≡ 0x31C3
unfolding nine_characters polynomial shifted bit_done bits_done byte_done crc
from_nought = refl

from_ones : crc 0xFFFF nine_characters ≡ 0x29B1
unfolding nine_characters polynomial shifted bit_done bits_done byte_done crc
from_ones = refl
