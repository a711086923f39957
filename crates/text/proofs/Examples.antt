-- Lines of text, worked out by the checker; buffers of eight bytes start as noughts. Every byte, written in hex and read back. And mistakes that somebody might make, each of which is
-- another answer than the definition's (docs/OUTCOMES.md says of which function).
use Rattle.std.proofs.Common.{◌≡◌, ◌≢◌, refl, arith, ℕ, zero, suc, Bool, true, ◌&&◌, eqb, List, [], ◌∷◌, map, get_or, length, replicate, None, Some, Ok, Err}
use Rattle.frame.specs.Crc.{polynomial, shifted, bit_done, bits_done, byte_done, crc}
use Rattle.frame.specs.Frame.{word, covered, frame, laid, writing}
use Rattle.text.specs.Hex.{is_blank, digit_of, digit_for, hex_from, hex_of, reading, bytes_in}
use Rattle.text.specs.Lines.{Outcome, lined, plain, framed, commanding, framing, outcome, is_command, line_end, message_in, until_newline}
use Rattle.text.specs.Numbers.{word_from, word_in}
use Rattle.text.specs.declared.LineError.TheVariants.{NotHex, NoCommand}

-- `unfolding computing` opens all that a line's message is made of.
unfoldable computing : Unit {0}
unfolding is_blank digit_of hex_from reading bytes_in laid plain framed commanding framing is_command message_in polynomial shifted bit_done bits_done byte_done crc word covered frame writing
computing = tt

abbrev clear : List ℕ
clear = replicate 8 0

-- A line, where a CRC starts from a value; and from 0, as in the frames that document 01 prints.
abbrev came_from : ℕ → List ℕ → Outcome
came_from start line = message_in start line clear clear

abbrev came : List ℕ → Outcome
came = came_from 0

-- "7f # hello"
one_byte : came (0x37 ∷ 0x66 ∷ 0x20 ∷ 0x23 ∷ 0x20 ∷ 0x68 ∷ 0x65 ∷ []) ≡ outcome clear (lined (Ok (Some 1)) (0x7F ∷ replicate 7 0))
unfolding computing
one_byte = refl

-- "> 41"
heart_beat : came (0x3E ∷ 0x20 ∷ 0x34 ∷ 0x31 ∷ [])
    ≡ outcome (0x41 ∷ replicate 7 0) (lined (Ok (Some 6)) (0x2D ∷ 0x41 ∷ 0x00 ∷ 0x00 ∷ 0x55 ∷ 0x24 ∷ 0 ∷ 0 ∷ []))
unfolding computing
heart_beat = refl

-- "> 41", from 0xFFFF (Python's binascii.crc_hqx)
heart_beat_from_ones : came_from 0xFFFF (0x3E ∷ 0x20 ∷ 0x34 ∷ 0x31 ∷ [])
    ≡ outcome (0x41 ∷ replicate 7 0) (lined (Ok (Some 6)) (0x2D ∷ 0x41 ∷ 0x00 ∷ 0x00 ∷ 0x95 ∷ 0xA0 ∷ 0 ∷ 0 ∷ []))
unfolding computing
heart_beat_from_ones = refl

-- "\t# 12"
comment : came (0x09 ∷ 0x23 ∷ 0x20 ∷ 0x31 ∷ 0x32 ∷ []) ≡ outcome clear (lined (Ok None) clear)
unfolding computing
comment = refl

-- "4 1": a blank inside a byte
cut_by_a_blank : came (0x34 ∷ 0x20 ∷ 0x31 ∷ []) ≡ outcome clear (lined (Err (NotHex 1)) clear)
unfolding computing
cut_by_a_blank = refl

-- "41 4": a byte that the end of the line cuts in two
cut_by_the_end : came (0x34 ∷ 0x31 ∷ 0x20 ∷ 0x34 ∷ []) ≡ outcome clear (lined (Err (NotHex 4)) clear)
unfolding computing
cut_by_the_end = refl

-- "> #": no command
no_command : came (0x3E ∷ 0x20 ∷ 0x23 ∷ []) ≡ outcome clear (lined (Err NoCommand) clear)
unfolding computing
no_command = refl

-- "0", "1f", "00A0" and "FFFF"; nothing at all, "10000", "0x1F", "FG" and " 1"
words_read :
    map word_in
    ((0x30 ∷ [])
    ∷ (0x31 ∷ 0x66 ∷ [])
    ∷ (0x30 ∷ 0x30 ∷ 0x41 ∷ 0x30 ∷ [])
    ∷ (0x46 ∷ 0x46 ∷ 0x46 ∷ 0x46 ∷ [])
    ∷ []
    ∷ (0x31 ∷ 0x30 ∷ 0x30 ∷ 0x30 ∷ 0x30 ∷ [])
    ∷ (0x30 ∷ 0x78 ∷ 0x31 ∷ 0x46 ∷ [])
    ∷ (0x46 ∷ 0x47 ∷ [])
    ∷ (0x20 ∷ 0x31 ∷ []) ∷ [])
    ≡ Some 0 ∷ Some 0x1F ∷ Some 0xA0 ∷ Some 0xFFFF ∷ None ∷ None ∷ None ∷ None ∷ None ∷ []
unfolding word_in word_from digit_of
words_read = refl

-- Whether a byte that is written in hex reads back as it was.
reads_back : ℕ → Bool
reads_back byte = eqb (length (hex_from (hex_of byte) 0).bytes) 1 && eqb (get_or (hex_from (hex_of byte) 0).bytes 0 256) byte

-- Whether all bytes below a number do.
all_read_back : ℕ → Bool
all_read_back zero = true
all_read_back (suc byte) = reads_back byte && all_read_back byte

every_byte : all_read_back 256 ≡ true
unfolding all_read_back reads_back is_blank digit_of digit_for hex_from hex_of
every_byte = refl

-- ---- wrong answers

-- "41", a newline, and "42"
abbrev two_lines : List ℕ
two_lines = 0x34 ∷ 0x31 ∷ 0x0A ∷ 0x34 ∷ 0x32 ∷ []

-- line_end: the newline counts as part of the line
newline_in_the_line : line_end two_lines 0 ≢ 3
unfolding until_newline
newline_in_the_line is = grind arith

-- line_end: a place counted from the start of the line, and not of the text
counted_from_the_line : line_end two_lines 3 ≢ 2
unfolding until_newline
counted_from_the_line is = grind arith

-- message_in: "4 1" read as the byte 0x41, as if the blank were not there
blank_inside_a_byte : (came (0x34 ∷ 0x20 ∷ 0x31 ∷ [])).line.message ≢ 0x41 ∷ replicate 7 0
unfolding computing
blank_inside_a_byte is = grind arith

-- message_in: "> 41" sent without its frame
command_not_framed : (came (0x3E ∷ 0x20 ∷ 0x34 ∷ 0x31 ∷ [])).line.message ≢ 0x41 ∷ replicate 7 0
unfolding computing
command_not_framed is = grind arith

-- digit_of: the character behind 9 taken for 10
colon_is_ten : digit_of 0x3A ≢ Some 10
unfolding digit_of
colon_is_ten is = grind arith

-- word_in: of "12345" the last four digits are read, and the first is lost
first_digit_lost : word_in (0x31 ∷ 0x32 ∷ 0x33 ∷ 0x34 ∷ 0x35 ∷ []) ≢ Some 0x2345
unfolding word_in
first_digit_lost is = grind arith

-- word_in: the low digit first
low_digit_of_a_word_first : word_in (0x31 ∷ 0x32 ∷ []) ≢ Some 0x21
unfolding word_in word_from digit_of
low_digit_of_a_word_first is = grind arith

-- word_in: nothing at all read as 0
nothing_is_nought : word_in [] ≢ Some 0
unfolding word_in
nothing_is_nought is = grind arith

-- hex_of: the low digit first
low_digit_first : hex_of 0x2D ≢ 0x44 ∷ 0x32 ∷ []
unfolding hex_of digit_for
low_digit_first is = grind arith
