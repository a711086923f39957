-- What a caller goes by beside the contracts: bytes and messages lie within the buffers that they were laid over.
use Rattle.std.proofs.Common.{ℕ, ◌≤◌, List, length, Option, None, Some, Result, Ok, Err, arith}
use Rattle.std.proofs.lemmas.Bool.Decides.{nat_tests}
use Rattle.frame.specs.Frame.{writing}
use Rattle.text.specs.Hex.{reading, bytes_in}
use Rattle.text.specs.Lines.{plain, framed, commanding, framing, message_in}
use Rattle.text.specs.declared.HexError.{HexError}
use Rattle.text.specs.declared.LineError.{LineError}

-- What an answer says of the buffer: no more bytes than it has.
abbrev pub BytesFit : Result ℕ HexError → List ℕ → Type 0
BytesFit (Ok count) buffer = count ≤ length buffer
BytesFit (Err error) buffer = Unit

abbrev pub MessageFits : Result (Option ℕ) LineError → List ℕ → Type 0
MessageFits (Ok None) buffer = Unit
MessageFits (Ok (Some size)) buffer = size ≤ length buffer
MessageFits (Err error) buffer = Unit

pub bytes_fit : (line : List ℕ) (from : ℕ) (buffer : List ℕ) → BytesFit (bytes_in line from buffer).answer buffer
unfolding bytes_in reading
bytes_fit line from buffer = grind (arith, nat_tests)

pub message_fits : (start : ℕ) (line scratch message : List ℕ) → MessageFits (message_in start line scratch message).line.answer message
unfolding bytes_in reading plain framed commanding framing message_in writing
message_fits start line scratch message = grind (arith, nat_tests)
