-- Document 01, "When nothing is done": the words in which the code's promises speak of what it is lent and what it hands back. The device is laid down without them.
use Rattle.std.specs.Prelude.{ℕ, ◌≤◌, List, ◌≡◌, length, Result, Ok, Err}
use Rattle.std.specs.Borrow.{MutBor}
use Rattle.frame.specs.Frame.{laid}
use Rattle.tm32.specs.After.{After, Answer, Refused, Reply, after_of, lay, refusal_number, replied, reply_room}
use Rattle.tm32.specs.Device.{Memory, device_of, memory_of}
use Rattle.tm32_asks.specs.Map.{flash_length, nvr_length, ram_length}
use Rattle.tm32.specs.Respond.{Answered}
use Rattle.tm32.specs.declared.LentMemory.{LentMemory}
use Rattle.tm32.specs.declared.mapped.MappedMemory.{MappedMemory}
use Rattle.tm32.specs.declared.Refusal.{Refusal}
use Rattle.tm32.specs.declared.Session.{Session}
use Rattle.tm32.specs.declared.Turn.{Turn}

-- The bytes that are lent, as the device's memory.
abbrev pub held : LentMemory → Memory
held lent = memory_of lent.flash.now lent.ram.now lent.nvr.now

-- Memory that is known to be as long as the map says is lent all the same.
abbrev pub lent_of : MappedMemory → LentMemory
lent_of mapped = record { flash = mapped.flash; ram = mapped.ram; nvr = mapped.nvr }

-- That a slice is the one that was lent, and as long.
abbrev pub SameSlice : MutBor (List ℕ) → MutBor (List ℕ) → Type 0
SameSlice before after = (after.ghost_name ≡ before.ghost_name) × (length after.now ≡ length before.now)

-- That all three are: so a caller finds in its own slices what was left in them.
abbrev pub SameSlices : LentMemory → LentMemory → Type 0
SameSlices before after = SameSlice before.flash after.flash × SameSlice before.ram after.ram × SameSlice before.nvr after.nvr

-- That what is lent has the lengths of the map, and room for any reply.
pub record Lent (memory : Memory) (room : ℕ) : Type 0 where
  pub flash : length memory.flash ≡ flash_length
  pub ram : length memory.ram ≡ ram_length
  pub nvr : length memory.nvr ≡ nvr_length
  pub space : reply_room ≤ room

-- What the tests of a call say, by the number: 0 where none fails.
abbrev pub call_number : Result (Unit {0}) Refusal → ℕ
call_number (Ok passed) = 0
call_number (Err refusal) = refusal_number refusal

-- The answer that is handed back, by the numbers.
abbrev pub answer_of : Result ℕ Refusal → Answer
answer_of (Ok length) = Reply length
answer_of (Err refusal) = Refused (refusal_number refusal)

-- What is handed back: a session, and the answer beside it.
abbrev pub turn_of : Session → Result ℕ Refusal → Turn
turn_of session answer = record { session = session; answer = answer }

-- All that a message leaves behind, from what is handed back and from the lent memory and buffer as they are then.
abbrev pub leaves : Turn → Memory → List ℕ → After
leaves turn memory buffer = after_of (device_of turn.session memory) (answer_of turn.answer) buffer

-- What comes of a message that is heard, with its reply laid over a buffer.
abbrev pub lay_answer : List ℕ → Answered → After
lay_answer buffer response = lay buffer response.device (replied response.reply)

-- That a session is handed back beside a reply that was laid over a buffer, and what the buffer is then.
pub record Laid (turn : Turn) (after : List ℕ) (session : Session) (reply buffer : List ℕ) : Type 0 where
  pub handed : turn ≡ turn_of session (Ok (length reply))
  pub over : after ≡ laid reply buffer
