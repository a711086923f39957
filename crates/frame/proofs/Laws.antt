-- The laws of frames: what a crate above goes by, so that it need not open the CRC, a frame, or how one is read and written. Each holds of any start value and of any data.
--     carried_on, crc_fits                   the CRC of a joined list; the CRC fits 16 bits
--     laid_front, laid_rest, laid_length     a buffer with something laid over it
--     written, too_long, no_room             which answer the writer gives, and what it leaves of the buffer
--     answered                               the other way round: what is known where it answers with a length
--     written_is_read, answered_is_read      a frame reads as sound, with the second byte and the data that it was made of
--     read_second                            the second byte that is told of a sound frame is the one that stands there
--     read_was_written, read_once            a sound frame is the frame of its second byte and its data, and the only one
--     whole_again                            a number of 16 bits is what its two bytes make
--     length_message, length_data, short_data, length_frame     lengths
--     frame_bytes, data_bytes                frames and their data are made of bytes
--     none_bytes, more_bytes, joined_bytes, last_bytes, word_bytes     and so are no bytes, one more, two lists joined, the end of one, and a number of 16 bits
-- Assumes nothing.
use Prim.Native.Nat.{ℕ, ◌+◌, ◌-◌, ◌*◌, ◌/◌, ◌%◌, ◌^◌, ◌≤◌, ◌<◌}
use mathlib.Core.List.{List, [], ◌∷◌, ◌++◌}
use mathlib.Core.Path.{◌≡◌, refl, sym, ap, ◌∙◌}
use native.Mathlib.Omega.{arith}
use Rattle.std.specs.Prelude.{Ok, Err}
use lib.Dec.{lit<}
use lib.ListN.{length, take, drop, get_or, take-append-drop}
use Rattle.std.proofs.lemmas.Bool.Decides.{nat_tests}
use Rattle.std.proofs.lemmas.Grind.{common_steps}
use Rattle.frame.specs.Crc.{byte_done, crc}
use Rattle.frame.specs.Frame.{AllBytes, head_byte, overhead, longest, word, covered, frame, data_of, reading, sound, laid, outcome, writing}
use Rattle.frame.specs.declared.WriteError.TheVariants.{TooLong, NoRoom}
use Rattle.frame.proofs.Bytes.{first_bytes}
pub use Rattle.frame.proofs.Bytes.{joined_bytes, last_bytes, more_bytes, none_bytes, word_bytes}
use Rattle.frame.proofs.Passed
use Rattle.frame.proofs.Places
pub use Rattle.frame.proofs.Places.{length_frame}
pub use Rattle.frame.proofs.Sums.{crc_fits}

-- ---- the CRC

pub carried_on : (value : ℕ) (first second : List ℕ) → crc value (first ++ second) ≡ crc (crc value first) second
unfolding crc
carried_on value [] second = refl
carried_on value (byte ∷ first) second = carried_on (byte_done value byte) first second

-- ---- something laid over a buffer

module _ (bytes buffer : List ℕ) where
  pub laid_front : take (length bytes) (laid bytes buffer) ≡ bytes
  unfolding laid
  laid_front = grind (arith, common_steps)

  pub laid_rest : drop (length bytes) (laid bytes buffer) ≡ drop (length bytes) buffer
  unfolding laid
  laid_rest = grind (arith, common_steps)

  pub laid_length : length bytes ≤ length buffer → length (laid bytes buffer) ≡ length buffer
  unfolding laid
  laid_length room = grind (arith, common_steps)

-- ---- a number as two bytes

pub whole_again : (number : ℕ) → number < 2 ^ 16 → number % 256 + 256 * (number / 256 % 256) ≡ number
whole_again number fits = omega arith

-- ---- writing

-- What is known where the writer answers with a length.
pub record Wrote (start second : ℕ) (payload buffer : List ℕ) (n : ℕ) (after : List ℕ) : Type 0 where
  pub short : length payload ≤ longest
  pub room : length payload + overhead ≤ length buffer
  pub whole : n ≡ length payload + overhead
  pub over : after ≡ laid (frame start second payload) buffer

module _ (start second : ℕ) (payload buffer : List ℕ) where
  pub written : length payload ≤ longest → length payload + overhead ≤ length buffer
      → writing start second payload buffer ≡ outcome (Ok (length payload + overhead)) (laid (frame start second payload) buffer)
  unfolding writing
  written short room = grind (arith, nat_tests)

  pub too_long : longest < length payload → writing start second payload buffer ≡ outcome (Err TooLong) buffer
  unfolding writing
  too_long long = grind (arith, nat_tests)

  pub no_room : length payload ≤ longest → length buffer < length payload + overhead
      → writing start second payload buffer ≡ outcome (Err NoRoom) buffer
  unfolding writing
  no_room short none = grind (arith, nat_tests)

  pub answered : (n : ℕ) (after : List ℕ) → outcome (Ok n) after ≡ writing start second payload buffer → Wrote start second payload buffer n after
  unfolding writing
  answered n after same = grind (arith, nat_tests)

-- ---- what is written is read back

pub written_is_read : (start second : ℕ) (payload : List ℕ) → length payload ≤ longest
    → (reading start (frame start second payload) ≡ sound second (length payload)) × (data_of (frame start second payload) ≡ payload)
unfolding reading
written_is_read start second payload short = (
  grind (
    arith,
    nat_tests,
    length_frame start second payload,
    Places.head_at start second payload,
    Places.second_at start second payload,
    Places.length_at start second payload short,
    Places.check_at start second payload,
    Places.covered_at start second payload,
  ),
  Places.data_at start second payload,
)

-- and so it reads in the buffer that it was written into
pub answered_is_read : (start second : ℕ) (payload buffer : List ℕ) (n : ℕ) (after : List ℕ) → Wrote start second payload buffer n after
    → (reading start (take n after) ≡ sound second (length payload)) × (data_of (take n after) ≡ payload)
answered_is_read start second payload buffer n after did =
    let there : take n after ≡ frame start second payload =
    rw (did.over, did.whole, ← length_frame start second payload) (laid_front _ _)
    in
    rw there (written_is_read start second payload did.short)

-- ---- what is read was written

module _ (start : ℕ) (bytes : List ℕ) (second n : ℕ) (reads : reading start bytes ≡ sound second n) where
  pub read_second : second ≡ get_or bytes 1 0
  read_second = sym (Passed.passes start bytes second n reads).named

  pub length_message : length bytes ≡ n + overhead
  length_message =
      let was = Passed.passes start bytes second n reads in
      omega arith

  pub length_data : length (data_of bytes) ≡ n
  length_data =
      let was = Passed.passes start bytes second n reads in
      Passed.data_length start bytes second n was ∙ was.counted

  pub short_data : AllBytes bytes → n ≤ longest
  short_data all = Passed.short start bytes second n (Passed.passes start bytes second n reads) all

  pub read_was_written : AllBytes bytes → bytes ≡ frame start second (data_of bytes)
  unfolding frame
  read_was_written all =
      let was = Passed.passes start bytes second n reads in
      let check = length bytes - 2 in
      sym (take-append-drop check bytes)
      ∙ ap (λ (rest : List ℕ). take check bytes ++ rest) (Passed.check_is start bytes second n was all)
      ∙ ap (λ (front : List ℕ). front ++ word (crc start front)) (Passed.covered_is start bytes second n was all)

pub read_once : (start : ℕ) (one other : List ℕ) (second n n' : ℕ) → reading start one ≡ sound second n → reading start other ≡ sound second n'
    → data_of one ≡ data_of other → AllBytes one → AllBytes other → one ≡ other
read_once start one other second n n' reads reads' same all all' =
    read_was_written start one second n reads all
    ∙ ap (frame start second) same
    ∙ sym (read_was_written start other second n' reads' all')

-- ---- frames and their data are made of bytes

pub frame_bytes : (start second : ℕ) (payload : List ℕ) → second < 256 → AllBytes payload → AllBytes (frame start second payload)
unfolding frame covered
frame_bytes start second payload small all =
    let sized : AllBytes (word (length payload) ++ payload) =
    joined_bytes (word (length payload)) payload (word_bytes (length payload)) all
    in
    let checked : AllBytes (covered second payload) =
    more_bytes head_byte (second ∷ word (length payload) ++ payload) (lit< tt) (more_bytes second (word (length payload) ++ payload) small sized)
    in
    joined_bytes (covered second payload) (word (crc start (covered second payload))) checked (word_bytes (crc start (covered second payload)))

pub data_bytes : (bytes : List ℕ) → AllBytes bytes → AllBytes (data_of bytes)
unfolding data_of
data_bytes bytes all = first_bytes (length bytes - overhead) (drop 4 bytes) (last_bytes 4 bytes all)
