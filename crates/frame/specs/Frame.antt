-- Document 01, "A message and its reply": frames. Messages and buffers are lists of bytes. The CRC's start value is an argument throughout.
-- `-` is that of natural numbers: it stops at 0.
use Rattle.std.specs.Prelude.{ℕ, ◌+◌, ◌-◌, ◌*◌, ◌/◌, ◌%◌, ◌<◌, cond, not, List, [], ◌∷◌, ◌++◌, ltb, eqb, length, take, drop, get_or, Result, Ok, Err}
use Rattle.frame.specs.Crc.{crc}
use Rattle.frame.specs.declared.Sound.{Sound}
use Rattle.frame.specs.declared.Spoiled.{Spoiled}
use Rattle.frame.specs.declared.WriteError.{WriteError}
use Rattle.frame.specs.declared.WriteError.TheVariants.{TooLong, NoRoom}

-- The first byte of every frame.
abbrev pub head_byte : ℕ
head_byte = 0x2D

-- The bytes of a frame beside its data: head and second byte, two of data length, two of CRC.
abbrev pub overhead : ℕ
overhead = 6

-- As much data as two bytes of length can say.
abbrev pub longest : ℕ
longest = 65535

-- A number of 16 bits as it stands on the wire: two bytes, the low one first.
unfoldable pub word : ℕ → List ℕ
word number = number % 256 ∷ number / 256 % 256 ∷ []

-- The number that stands in the two bytes from a place on.
unfoldable pub word_at : List ℕ → ℕ → ℕ
word_at bytes place = get_or bytes place 0 + 256 * get_or bytes (place + 1) 0

-- All of a frame before its CRC, which is worked out over just that. The second byte is the command, or in a reply the result.
unfoldable pub covered : ℕ → List ℕ → List ℕ
covered second payload = head_byte ∷ second ∷ word (length payload) ++ payload

-- The frame of a second byte and data.
unfoldable pub frame : ℕ → ℕ → List ℕ → List ℕ
frame start second payload = covered second payload ++ word (crc start (covered second payload))

-- The data of a frame starts at its fifth byte and ends before the CRC. Fewer than six bytes hold none.
unfoldable pub data_of : List ℕ → List ℕ
data_of bytes = take (length bytes - overhead) (drop 4 bytes)

-- A sound frame: its second byte, and how long its data is.
abbrev pub sound : ℕ → ℕ → Result Sound Spoiled
sound second count = Ok (record { second = second; length = count })

-- A spoiled one: the place where it went wrong.
abbrev pub spoiled : ℕ → Result Sound Spoiled
spoiled place = Err (record { place = place })

-- How a message reads as a frame: sound, with its second byte and how long its data is, or spoiled, with the place of the first test that fails:
-- too short for a frame, or a head that is another, at 0; a length that does not go with the data length, at 2; a CRC that does not agree, where it stands.
unfoldable pub reading : ℕ → List ℕ → Result Sound Spoiled
reading start bytes =
    let place : ℕ = length bytes - 2 in
    cond (ltb (length bytes) overhead) (spoiled 0)
    (cond (not (eqb (get_or bytes 0 0) head_byte)) (spoiled 0)
    (cond (not (eqb (length bytes) (word_at bytes 2 + overhead))) (spoiled 2)
    (cond (not (eqb (word_at bytes place) (crc start (take place bytes)))) (spoiled place)
    (sound (get_or bytes 1 0) (length bytes - overhead)))))

-- Some bytes laid over the start of a buffer: what the buffer holds past them is as it came.
unfoldable pub laid : List ℕ → List ℕ → List ℕ
laid bytes buffer = bytes ++ drop (length bytes) buffer

-- What comes of writing: the answer, and the lent buffer afterwards.
pub record Outcome : Type 0 where
  pub answer : Result ℕ WriteError
  pub buffer : List ℕ

-- The two put together.
abbrev pub outcome : Result ℕ WriteError → List ℕ → Outcome
outcome answer buffer = record { answer = answer; buffer = buffer }

-- Writing the frame of a second byte and data over a buffer: the frame's length, or a refusal that leaves the buffer as it was.
unfoldable pub writing : ℕ → ℕ → List ℕ → List ℕ → Outcome
writing start second payload buffer =
    cond (ltb longest (length payload)) (outcome (Err TooLong) buffer)
    (cond (ltb (length buffer) (length payload + overhead)) (outcome (Err NoRoom) buffer)
    (outcome (Ok (length payload + overhead)) (laid (frame start second payload) buffer)))

-- For the laws: every number of a list is a byte, as it is in every slice that the code is lent.
abbrev pub AllBytes : List ℕ → Type 0
AllBytes bytes = (i : ℕ) → get_or bytes i 0 < 256
