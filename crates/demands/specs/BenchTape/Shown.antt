-- Document 01, "The bench tape": what a bench sees of a tape, and what it is to see. Definitions only.
use Rattle.std.specs.Prelude.{ℕ, Bool, List, [], ◌∷◌, ◌++◌}
use Rattle.tm32.specs.After.{Told, no_reply, replied, reply_room}
use Rattle.tm32.specs.Device.{Device}
use Rattle.tm32.specs.Run.{Event, Ran, run, sent}
use Rattle.tm32.specs.declared.Settings.{Settings}
use Rattle.tape.specs.Play.{Playing, error_kind, reply_kind}
use Rattle.tape.specs.Records.{record_of}
use Rattle.tape.specs.Script.{Script, script_of}
use Rattle.tape.specs.Stops.{Stop, MoreTape, Room, End, Error, Refused}

-- Messages as events of a run: each is sent with room for any reply.
unfoldable pub sent_all : List (List ℕ) → List Event
sent_all [] = []
sent_all (message ∷ messages) = sent message reply_room ∷ sent_all messages

-- What a caller is told of a message, as a record: a reply makes one, and no reply makes none.
abbrev pub reply_record : Told → List ℕ
reply_record (replied bytes) = record_of reply_kind bytes
reply_record (no_reply number) = []

-- The records of all that is told, one behind the other.
unfoldable pub reply_records : List Told → List ℕ
reply_records [] = []
reply_records (told ∷ rest) = reply_record told ++ reply_records rest

-- The record behind the last reply: it tells what is wrong with the tape, if anything is.
unfoldable pub closing_record : Stop → List ℕ
closing_record MoreTape = []
closing_record Room = []
closing_record End = []
closing_record (Error number) = record_of error_kind (number ∷ [])
closing_record (Refused number) = []

-- What a bench sees of a tape: the device behind it, the records that were written, and why the player stopped.
pub record Seen : Type 0 where
  pub device : Device
  pub records : List ℕ
  pub stop : Stop

-- The three put together.
abbrev pub seen : Device → List ℕ → Stop → Seen
seen device records stop = record { device = device; records = records; stop = stop }

-- The same of a play.
abbrev pub seen_of : Playing → Seen
seen_of done = seen done.device done.records done.stop

-- What messages and the stop behind them are to show: a run of the messages, with a record for each reply, and then the record that tells what is wrong.
unfoldable pub shown_by : Settings → Device → Script → Seen
shown_by settings device messages =
    let ran : Ran = run settings device (sent_all messages.messages) in
    seen ran.device (reply_records ran.told ++ closing_record messages.stop) messages.stop

-- What a tape is to show.
abbrev pub shown : Settings → Device → Bool → List ℕ → Seen
shown settings device ends tape = shown_by settings device (script_of ends tape)
