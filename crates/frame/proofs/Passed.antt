-- What is known of a message that was read as a sound frame.
use Prim.Native.Nat.{ℕ, ◌+◌, ◌-◌, ◌≤◌}
use mathlib.Core.List.{List}
use mathlib.Core.Path.{◌≡◌}
use native.Mathlib.Omega.{arith}
use lib.ListN.{length, take, drop, get_or}
use Rattle.std.proofs.lemmas.Bool.Decides.{nat_tests}
use Rattle.std.proofs.lemmas.Grind.{common_steps}
use Rattle.frame.specs.Crc.{crc}
use Rattle.frame.specs.Frame.{AllBytes, head_byte, overhead, longest, word, word_at, covered, data_of, reading, sound}

-- A sound frame has passed all four tests.
pub record Passed (start : ℕ) (bytes : List ℕ) (second n : ℕ) : Type 0 where
  pub long : overhead ≤ length bytes
  pub headed : get_or bytes 0 0 ≡ head_byte
  pub sized : length bytes ≡ word_at bytes 2 + overhead
  pub checked : word_at bytes (length bytes - 2) ≡ crc start (take (length bytes - 2) bytes)
  pub named : get_or bytes 1 0 ≡ second
  pub counted : length bytes - overhead ≡ n

pub passes : (start : ℕ) (bytes : List ℕ) (second n : ℕ) → reading start bytes ≡ sound second n → Passed start bytes second n
unfolding reading
passes start bytes second n reads = grind (arith, nat_tests)

module _ (start : ℕ) (bytes : List ℕ) (second n : ℕ) (was : Passed start bytes second n) where
  pub data_length : length (data_of bytes) ≡ length bytes - overhead
  unfolding data_of
  data_length = grind (arith, common_steps)

  pub short : AllBytes bytes → n ≤ longest
  unfolding word_at
  short all = omega (arith, all 2, all 3)

  pub covered_is : AllBytes bytes → take (length bytes - 2) bytes ≡ covered second (data_of bytes)
  unfolding covered word word_at data_of
  covered_is all = grind (arith, common_steps, all 2, all 3)

  pub check_is : AllBytes bytes → drop (length bytes - 2) bytes ≡ word (crc start (take (length bytes - 2) bytes))
  unfolding word_at word
  check_is all = grind (arith, common_steps, all (length bytes - 2), all (length bytes - 1))
