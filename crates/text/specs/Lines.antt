-- Where a line ends, and a line of text as a message: bytes in hex as they stand; or, behind a >, a command and its data, which are framed.
use Rattle.std.specs.Prelude.{ℕ, suc, ◌+◌, Bool, cond, List, [], ◌∷◌, eqb, drop, get_or, Option, None, Some, Result, Ok, Err}
use Rattle.frame.specs.Frame.{writing}
use Rattle.frame.specs.Frame as frames
use Rattle.frame.specs.declared.WriteError.{WriteError}
use Rattle.frame.specs.declared.WriteError.TheVariants as write
use Rattle.text.specs.Hex.{Read, bytes_in, hex_from}
use Rattle.text.specs.declared.HexError.{HexError}
use Rattle.text.specs.declared.HexError.TheVariants as hex
use Rattle.text.specs.declared.LineError.{LineError}
use Rattle.text.specs.declared.LineError.TheVariants.{NotHex, NoCommand, TooLong, NoRoom}

-- The character that ends a line.
abbrev pub newline : ℕ
newline = 0x0A

-- How many characters stand before the first newline, or before the end where there is none.
unfoldable pub until_newline : List ℕ → ℕ
until_newline [] = 0
until_newline (c ∷ rest) = cond (eqb c newline) 0 (suc (until_newline rest))

-- Where the line that starts at a place ends.
abbrev pub line_end : List ℕ → ℕ → ℕ
line_end text from = from + until_newline (drop from text)

-- What comes of a line: how long its message is, if it has one, or why it is refused; and the message's buffer afterwards.
pub record Lined : Type 0 where
  pub answer : Result (Option ℕ) LineError
  pub message : List ℕ

-- The two put together.
abbrev pub lined : Result (Option ℕ) LineError → List ℕ → Lined
lined answer message = record { answer = answer; message = message }

-- What a refusal by the reader of hex is for a line.
abbrev pub hex_refused : HexError → LineError
hex_refused (hex.NotHex place) = NotHex place
hex_refused hex.NoRoom = NoRoom

-- What a refusal by the writer of frames is for a line.
abbrev pub frame_refused : WriteError → LineError
frame_refused write.TooLong = TooLong
frame_refused write.NoRoom = NoRoom

-- What an answer of the reader of hex is for a line. No bytes are no message.
unfoldable pub plain : Result ℕ HexError → Result (Option ℕ) LineError
plain (Ok count) = Ok (cond (eqb count 0) None (Some count))
plain (Err error) = Err (hex_refused error)

-- A line of hex, as it stands.
abbrev pub plainly : Read → Lined
plainly read = lined (plain read.answer) read.buffer

-- What an answer of the writer of frames is for a line.
unfoldable pub framed : Result ℕ WriteError → Result (Option ℕ) LineError
framed (Ok size) = Ok (Some size)
framed (Err error) = Err (frame_refused error)

-- The frame of a command and its data, whose CRC starts from a value.
unfoldable pub commanding : ℕ → List ℕ → List ℕ → Lined
commanding start [] message = lined (Err NoCommand) message
commanding start (command ∷ payload) message =
    let outcome : frames.Outcome = writing start command payload message in
    lined (framed outcome.answer) outcome.buffer

-- Behind a >: what an answer of the reader of hex comes to, where it has found some bytes.
unfoldable pub framing : ℕ → Result ℕ HexError → List ℕ → List ℕ → Lined
framing start (Ok count) bytes message = commanding start bytes message
framing start (Err error) bytes message = lined (Err (hex_refused error)) message

-- What comes of a line, with the scratch buffer afterwards.
pub record Outcome : Type 0 where
  pub scratch : List ℕ
  pub line : Lined

-- The two put together.
abbrev pub outcome : List ℕ → Lined → Outcome
outcome scratch line = record { scratch = scratch; line = line }

-- Whether a line starts with a >.
unfoldable pub is_command : List ℕ → Bool
is_command line = eqb (get_or line 0 0) 0x3E

-- Reading a line of text. Behind a > the bytes are read into the scratch buffer, and the frame stands in the message's; its CRC starts from a value.
unfoldable pub message_in : ℕ → List ℕ → List ℕ → List ℕ → Outcome
message_in start line scratch message =
    let behind : Read = bytes_in line 1 scratch in
    cond (is_command line)
    (outcome behind.buffer (framing start behind.answer (hex_from (drop 1 line) 1).bytes message))
    (outcome scratch (plainly (bytes_in line 0 message)))
