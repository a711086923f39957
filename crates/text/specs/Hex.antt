-- Bytes in hex. A line is a list of characters, each by its code, without the character that ends the line; places in it count from 0.
use Rattle.std.specs.Prelude.{ℕ, ◌+◌, ◌-◌, ◌*◌, ◌/◌, ◌%◌, Bool, cond, ◌&&◌, ◌||◌, List, [], ◌∷◌, eqb, leb, ltb, length, drop, Option, None, Some, Result, Ok, Err}
use Rattle.std.specs.Option.{option_map_or}
use Rattle.frame.specs.Frame.{laid}
use Rattle.text.specs.declared.HexError.{HexError}
use Rattle.text.specs.declared.HexError.TheVariants.{NotHex, NoRoom}

-- The character that starts a comment: #.
abbrev pub hash : ℕ
hash = 0x23

-- Space, tab and carriage return.
unfoldable pub is_blank : ℕ → Bool
is_blank c = eqb c 0x20 || (eqb c 0x09 || eqb c 0x0D)

-- Whether a character is one of those from a first to a last.
abbrev pub between : ℕ → ℕ → ℕ → Bool
between first last c = leb first c && leb c last

-- The number that a digit stands for: 0 to 9, and A to F or a to f. Any other character stands for none.
unfoldable pub digit_of : ℕ → Option ℕ
digit_of c =
    cond (between 0x30 0x39 c) (Some (c - 0x30))
    (cond (between 0x41 0x46 c) (Some (c - 0x41 + 10))
    (cond (between 0x61 0x66 c) (Some (c - 0x61 + 10))
    None))

-- The digit that stands for a number below 16, with capitals for those from 10 on.
unfoldable pub digit_for : ℕ → ℕ
digit_for number = cond (ltb number 10) (0x30 + number) (0x41 + (number - 10))

-- A byte as two digits.
unfoldable pub hex_of : ℕ → List ℕ
hex_of byte = digit_for (byte / 16) ∷ digit_for (byte % 16) ∷ []

-- What some characters say: the bytes before the end, and where the first wrong character stands, if one does.
pub record Said : Type 0 where
  pub bytes : List ℕ
  pub wrong : Option ℕ

-- No byte, and the end.
abbrev pub well : Said
well = record { bytes = []; wrong = None }

-- No byte, and a wrong character at a place.
abbrev pub wrong_at : ℕ → Said
wrong_at place = record { bytes = []; wrong = Some place }

-- One byte more in front.
abbrev pub more : ℕ → Said → Said
more byte said = record { bytes = byte ∷ said.bytes; wrong = said.wrong }

-- What the characters from a place on say. Between two bytes a comment ends the line, blanks are passed over, and a digit starts a byte. Inside a byte only the second digit is right.
unfoldable mutual
  pub hex_from : List ℕ → ℕ → Said
  hex_from [] place = well
  hex_from (c ∷ rest) place =
      cond (eqb c hash) well
      (cond (is_blank c) (hex_from rest (place + 1))
      (option_map_or (λ (high : ℕ). second_from rest high (place + 1)) (digit_of c) (wrong_at place)))

  -- What they say behind the first digit of a byte.
  pub second_from : List ℕ → ℕ → ℕ → Said
  second_from [] high place = wrong_at place
  second_from (c ∷ rest) high place = option_map_or (λ (low : ℕ). more (16 * high + low) (hex_from rest (place + 1))) (digit_of c) (wrong_at place)

-- What comes of reading: how many bytes there are, or why it is refused, and the lent buffer afterwards.
pub record Read : Type 0 where
  pub answer : Result ℕ HexError
  pub buffer : List ℕ

-- The two put together.
abbrev pub read : Result ℕ HexError → List ℕ → Read
read answer buffer = record { answer = answer; buffer = buffer }

-- Bytes are laid over the start of a buffer that has room for them. Where a character is wrong or there is no room, the buffer stays as it was.
unfoldable pub reading : Option ℕ → List ℕ → List ℕ → Read
reading None bytes buffer =
    cond (ltb (length buffer) (length bytes)) (read (Err NoRoom) buffer) (read (Ok (length bytes)) (laid bytes buffer))
reading (Some place) bytes buffer = read (Err (NotHex place)) buffer

-- Reading a line from a place on.
unfoldable pub bytes_in : List ℕ → ℕ → List ℕ → Read
bytes_in line from buffer =
    let said : Said = hex_from (drop from line) from in
    reading said.wrong said.bytes buffer
