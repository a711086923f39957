-- Document 01, "A message and its reply" and "The ten commands": the seven ways in which the shape of a message fails, each said of the message's own bytes, and that of the CRC also of
-- the value that it starts from. Definitions only.
use Rattle.std.specs.Prelude.{ℕ, ◌+◌, ◌-◌, Bool, true, false, cond, not, List, [], ◌∷◌, ◌≡◌, eqb, ltb, get_or, length, take}
use Rattle.frame.specs.Crc.{crc}
use Rattle.frame.specs.Frame.{word_at}
use Rattle.demands.specs.Demand1.Refusals.{is_one_of}

-- The ten commands: PPS, Get, Read, Write, Memory CRC, Erase, Go, Write options, Read options, Heart beat.
unfoldable pub commands : List ℕ
commands = 0x00 ∷ 0x01 ∷ 0x11 ∷ 0x12 ∷ 0x13 ∷ 0x14 ∷ 0x21 ∷ 0x31 ∷ 0x32 ∷ 0x41 ∷ []

-- Whether a command takes data of a length: Write at least 5 bytes, each of the others just so many. Of what is no command nothing is asked.
unfoldable pub takes : ℕ → ℕ → Bool
takes command count =
    cond (eqb command 0x00) (eqb count 1)
    (cond (eqb command 0x01) (eqb count 0)
    (cond (eqb command 0x11) (eqb count 6)
    (cond (eqb command 0x12) (not (ltb count 5))
    (cond (eqb command 0x13) (eqb count 10)
    (cond (eqb command 0x14) (eqb count 4)
    (cond (eqb command 0x21) (eqb count 4)
    (cond (eqb command 0x31) (eqb count 22)
    (cond (eqb command 0x32) (eqb count 0)
    (cond (eqb command 0x41) (eqb count 0)
    true)))))))))

-- The seven ways, in 01's order, where a CRC starts from a value: fewer than 6 bytes; a first byte that is not 0x2D; a length that is not 6 more than the data length, which the third and fourth byte
-- say, low byte first; a CRC, which the last two say, that is not the one of all before them; a second byte that is none of the commands; a data length that the command does not take; and a Write
-- whose flag, the fifth byte, is above 1.
pub data Misshapes (start : ℕ) (message : List ℕ) : Type 0 where
  too_short : ltb (length message) 6 ≡ true → Misshapes start message
  other_head : eqb (get_or message 0 0) 0x2D ≡ false → Misshapes start message
  other_length : eqb (length message) (word_at message 2 + 6) ≡ false → Misshapes start message
  other_crc : eqb (word_at message (length message - 2)) (crc start (take (length message - 2) message)) ≡ false → Misshapes start message
  unknown_command : is_one_of commands (get_or message 1 0) ≡ false → Misshapes start message
  other_data_length : takes (get_or message 1 0) (word_at message 2) ≡ false → Misshapes start message
  flag_above_one : eqb (get_or message 1 0) 0x12 ≡ true → ltb 1 (get_or message 4 0) ≡ true → Misshapes start message
