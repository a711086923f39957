-- What stands where in the frame of a second byte and data.
use Prim.Native.Nat.{ℕ, ◌+◌, ◌^◌, ◌≤◌, ◌<◌}
use mathlib.Core.List.{List, ◌∷◌, ◌++◌, append_assoc}
use mathlib.Core.Path.{◌≡◌, refl, sym}
use native.Mathlib.Omega.{arith}
use lib.ListN.{length, take, drop, get_or, length-append}
use lib.Seq.{drop-drop, take_at}
use Rattle.std.proofs.lemmas.Grind.{common_steps}
use Rattle.frame.specs.Crc.{byte_done, crc}
use Rattle.frame.specs.Frame.{head_byte, overhead, longest, word, word_at, covered, frame, data_of, laid}
use Rattle.frame.proofs.Sums.{byte_fits, crc_fits}

-- The CRC stands behind four bytes and the data.
pub covered_length : (second : ℕ) (payload : List ℕ) → length payload + 4 ≡ length (covered second payload)
unfolding covered word
covered_length second payload = omega arith

module _ (start second : ℕ) (payload : List ℕ) where
  pub length_frame : length (frame start second payload) ≡ length payload + overhead
  unfolding frame covered word
  length_frame = grind (arith, common_steps)

  check_fits : crc start (covered second payload) < 2 ^ 16
  unfolding crc covered
  check_fits =
      crc_fits (byte_done start head_byte) (second ∷ word (length payload) ++ payload) (byte_fits start head_byte)

  pub head_at : get_or (frame start second payload) 0 0 ≡ head_byte
  unfolding frame covered
  head_at = refl

  pub second_at : get_or (frame start second payload) 1 0 ≡ second
  unfolding frame covered
  second_at = refl

  pub length_at : length payload ≤ longest → word_at (frame start second payload) 2 ≡ length payload
  unfolding word_at frame covered word
  length_at short = omega arith

  pub data_at : data_of (frame start second payload) ≡ payload
  unfolding data_of frame covered word
  data_at = grind (arith, common_steps)

  pub covered_at : take (length payload + 4) (frame start second payload) ≡ covered second payload
  unfolding frame
  covered_at = take_at _ _ _ (sym (covered_length second payload))

  pub check_at : word_at (frame start second payload) (length payload + 4) ≡ crc start (covered second payload)
  unfolding frame covered word_at word
  check_at = grind (arith, common_steps, check_fits)

-- The CRC, laid over what the data leaves of a buffer.
pub closed : (start second : ℕ) (payload buffer rest : List ℕ) → rest ≡ drop (length payload + 4) buffer
    → covered second payload ++ (word (crc start (covered second payload)) ++ drop 2 rest) ≡ laid (frame start second payload) buffer
unfolding laid frame word
closed start second payload buffer rest behind = rw (behind, covered_length second payload) (simp (length-append, drop-drop, append_assoc))
