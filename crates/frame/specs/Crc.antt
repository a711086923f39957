-- Document 01, "A message and its reply": the CRC. It has 16 bits, takes the high bit of each byte first, and its bits are not inverted at the end.
-- A running value goes in and the next one comes out; what a CRC starts from is for whoever asks.
use Rattle.std.specs.Prelude.{ℕ, zero, suc, ◌*◌, ◌%◌, ◌^◌, cond, List, [], ◌∷◌, ltb}
use Rattle.std.specs.Int.Bits.{bit_xor}

-- The polynomial without its highest power, which is the bit that falls out.
unfoldable pub polynomial : ℕ
polynomial = 0x1021

-- A running value moved up by one bit: its highest bit falls out.
unfoldable pub shifted : ℕ → ℕ
shifted value = value * 2 % 2 ^ 16

-- The work of one bit: the value moved up and, where the bit that fell out was a one, the polynomial put in by exclusive or.
unfoldable pub bit_done : ℕ → ℕ
bit_done value = cond (ltb value 0x8000) (shifted value) (bit_xor (shifted value) polynomial)

-- The work of so many bits.
unfoldable pub bits_done : ℕ → ℕ → ℕ
bits_done zero value = value
bits_done (suc count) value = bits_done count (bit_done value)

-- The work of one byte: put into the upper half by exclusive or, then its eight bits.
unfoldable pub byte_done : ℕ → ℕ → ℕ
byte_done value byte = bits_done 8 (bit_xor value (byte * 2 ^ 8))

-- The running value after some bytes.
unfoldable pub crc : ℕ → List ℕ → ℕ
crc value [] = value
crc value (byte ∷ bytes) = crc (byte_done value byte) bytes
