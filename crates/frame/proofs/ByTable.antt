-- The work of one byte by the table: the upper byte of the running value, with the byte put in, picks the entry, and the lower byte moves up.
--     bits_apart     what lies so low that none of it falls out moves up, whatever the bits above it become: of any value, and any count of bits
--     by_table       the work of one byte, of any value
--     is_table       the table's rule, at all 256 bytes, computed once. No number of the table stands here
--     looked_up      the work of one byte, as the code looks it up
-- Assumes nothing.
use Prim.Native.Nat.{ℕ, zero, suc, ◌*◌, ◌/◌, ◌%◌, ◌^◌, ◌<◌}
use mathlib.Core.List.{List}
use mathlib.Core.Path.{◌≡◌, refl, sym, ap, ◌∙◌}
use native.Mathlib.Nat.{mul-le-mul_left, pow-suc}
use native.Mathlib.Omega.{arith}
use lib.Bits.{bit_xor, xor_assoc, xor_block, xor_comm, xor_lt, xor_mod, xor_shifted, xor_shr, xor_zero_r}
use lib.Dec.{ltb}
use lib.ListN.{get_or}
use lib.Pow.{pow_pos}
use Rattle.std.proofs.Common.{map}
use Rattle.std.specs.List.{range_with_len}
use Rattle.std.proofs.lemmas.Bool.Decides.{nat_tests}
use Rattle.std.proofs.lemmas.List.FromFn.{get_or-map-range_with_len}
use Rattle.frame.specs.Crc.{polynomial, shifted, bit_done, bits_done, byte_done}
use Rattle.frame.specs.declared.crc16.TheConstants.{TABLE}

-- ---- what lies low moves up

swapped : (a b c : ℕ) → bit_xor (bit_xor a b) c ≡ bit_xor (bit_xor a c) b
swapped a b c = simp xor_assoc (ap (bit_xor a) (xor_comm b c))

shifted_apart : (a b : ℕ) → b < 2 ^ 15 → shifted (bit_xor a b) ≡ bit_xor (shifted a) (b * 2)
unfolding shifted
shifted_apart a b low = grind (arith, xor_block 1 a b 0 0, xor_mod (a * 2) (b * 2) 16)

-- the bit that falls out is the first number's
same_test : (a b : ℕ) → b < 2 ^ 15 → ltb (bit_xor a b) 0x8000 ≡ ltb a 0x8000
same_test a b low = grind (arith, nat_tests, xor_shr a b 15, xor_zero_r)

bit_apart : (a b : ℕ) → b < 2 ^ 15 → bit_done (bit_xor a b) ≡ bit_xor (bit_done a) (b * 2)
unfolding bit_done
bit_apart a b low = grind (arith, nat_tests, swapped, shifted_apart a b low, same_test a b low)

bits_apart : (count a b : ℕ) → b * 2 ^ count < 2 ^ 16 → bits_done count (bit_xor a b) ≡ bit_xor (bits_done count a) (b * 2 ^ count)
unfolding bits_done
bits_apart zero a b low = grind arith
bits_apart (suc count) a b low =
    let moved : b * 2 * 2 ^ count ≡ b * 2 ^ suc count = rw pow-suc (omega arith) in
    let small : b < 2 ^ 15 = omega (arith, mul-le-mul_left (b * 2) (pow_pos count)) in
    rw (bit_apart a b small) (rw moved at (bits_apart count (bit_done a) (b * 2) (omega arith)))

-- ---- the work of one byte

-- a byte that is put into the upper half meets the upper byte alone
halves : (value byte : ℕ) → bit_xor value (byte * 2 ^ 8) ≡ bit_xor (bit_xor (value / 2 ^ 8) byte * 2 ^ 8) (value % 2 ^ 8)
halves value byte =
    grind (
      arith,
      xor_block 8 (value / 2 ^ 8) byte (value % 2 ^ 8) 0,
      xor_zero_r (value % 2 ^ 8),
      xor_shifted (bit_xor (value / 2 ^ 8) byte) 8 (value % 2 ^ 8),
    )

-- the table's entry of a byte: what the work of eight bits makes of it in the upper half
abbrev pub entry_of : ℕ → ℕ
entry_of byte = bits_done 8 (byte * 2 ^ 8)

pub by_table : (value byte : ℕ) → byte_done value byte ≡ bit_xor (value * 2 ^ 8 % 2 ^ 16) (entry_of (bit_xor (value / 2 ^ 8) byte))
unfolding byte_done
by_table value byte =
    let index = bit_xor (value / 2 ^ 8) byte in
    let moved : value % 2 ^ 8 * 2 ^ 8 ≡ value * 2 ^ 8 % 2 ^ 16 = omega arith in
    ap (bits_done 8) (halves value byte)
    ∙ bits_apart 8 (index * 2 ^ 8) (value % 2 ^ 8) (omega arith)
    ∙ ap (bit_xor (entry_of index)) moved
    ∙ xor_comm (entry_of index) (value * 2 ^ 8 % 2 ^ 16)

-- ---- the table in the code

is_table : TABLE ≡ map entry_of (range_with_len 0 256)
unfolding polynomial shifted bit_done bits_done
is_table = refl

-- said of any list that keeps the rule, so that no tactic opens the table
by_rule : (table : List ℕ) → table ≡ map entry_of (range_with_len 0 256) → (value byte : ℕ) → value < 2 ^ 16 → byte < 2 ^ 8
    → bit_xor (value * 2 ^ 8 % 2 ^ 16) (get_or table (bit_xor (value / 2 ^ 8) byte) 0) ≡ byte_done value byte
by_rule table rule value byte fits small =
    let index : ℕ = bit_xor (value / 2 ^ 8) byte in
    let upper : value / 2 ^ 8 < 2 ^ 8 = omega arith in
    let inside : index < 2 ^ 8 = xor_lt 8 (value / 2 ^ 8) byte upper small in
    rw (rule, get_or-map-range_with_len entry_of 0 256 index index 0 inside (omega arith)) (sym (by_table value byte))

pub looked_up : (value byte : ℕ) → value < 2 ^ 16 → byte < 2 ^ 8
    → bit_xor (value * 2 ^ 8 % 2 ^ 16) (get_or TABLE (bit_xor (value / 2 ^ 8) byte) 0) ≡ byte_done value byte
looked_up = by_rule TABLE is_table
