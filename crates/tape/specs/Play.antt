-- Document 01, "The bench tape": what comes of playing a tape on a device.
use Rattle.std.specs.Prelude.{ℕ, ◌+◌, ◌-◌, Bool, cond, List, [], ◌∷◌, ◌++◌, ltb, length}
use Rattle.frame.specs.Frame.{laid}
use Rattle.tm32.specs.After.{Telling, Told, no_reply, replied, reply_room, tell}
use Rattle.tm32.specs.Device.{Device, Memory, device_of}
use Rattle.tm32.specs.declared.Settings.{Settings}
use Rattle.tape.specs.Records.{head_length, record_of}
use Rattle.tape.specs.Script.{Script, script_of}
use Rattle.tape.specs.Stops.{Stop, MoreTape, Room, End, Error, Refused, stop_of}
use Rattle.tape.specs.declared.Played.{Played}

-- The kinds of what is written: a reply, and what is wrong with the tape.
abbrev pub reply_kind : ℕ
reply_kind = 2

abbrev pub error_kind : ℕ
error_kind = 0x00FF

-- The room that the player asks for before it plays a message or tells of an error: enough for the record of any reply.
abbrev pub record_room : ℕ
record_room = head_length + reply_room

-- What playing leaves behind: the device, how many bytes of the tape were used, the records that were written, and why the player stopped.
pub record Playing : Type 0 where
  pub device : Device
  pub used : ℕ
  pub records : List ℕ
  pub stop : Stop

-- The four put together.
abbrev pub playing : Device → ℕ → List ℕ → Stop → Playing
playing device used records stop = record { device = device; used = used; records = records; stop = stop }

-- A stop at which nothing more is used or written.
abbrev pub stopped : Device → Stop → Playing
stopped device stop = playing device 0 [] stop

-- What is played behind a record that was used and a record that was written.
abbrev pub behind : ℕ → List ℕ → Playing → Playing
behind used records rest = playing rest.device (used + rest.used) (records ++ rest.records) rest.stop

-- What is wrong with a tape is told in a record of its own, whose body is the number. At any other stop nothing is written.
unfoldable pub closing : Device → ℕ → Stop → Playing
closing device room MoreTape = stopped device MoreTape
closing device room Room = stopped device Room
closing device room End = stopped device End
closing device room (Error number) = cond (ltb room record_room) (stopped device Room) (playing device 0 (record_of error_kind (number ∷ [])) (Error number))
closing device room (Refused number) = stopped device (Refused number)

-- How long the reply is, of which a caller is told.
abbrev pub reply_length : Told → ℕ
reply_length (replied bytes) = length bytes
reply_length (no_reply number) = 0

-- A message was sent: its reply goes into a record, and the rest of the tape is played. A refusal with 1 to 5 is no reply: the message counts as not used.
unfoldable pub onward : Device → ℕ → Told → Playing → Playing
onward device used (replied bytes) rest = behind used (record_of reply_kind bytes) rest
onward device used (no_reply number) rest = stopped device (Refused number)

-- Messages played in order, with so much room for records, and then the stop. The device is lent room for any reply and no more.
unfoldable pub play : Settings → Stop → Device → ℕ → List (List ℕ) → Playing
play settings stop device room [] = closing device room stop
play settings stop device room (message ∷ messages) =
    let first : Telling = tell settings device message reply_room in
    let rest : Playing = play settings stop first.device (room - (head_length + reply_length first.told)) messages in
    cond (ltb room record_room) (stopped device Room)
    (onward device (head_length + length message) first.told rest)

-- A tape played, told whether the input ends where it does.
unfoldable pub play_tape : Settings → Device → Bool → ℕ → List ℕ → Playing
play_tape settings device ends room tape =
    let messages : Script = script_of ends tape in
    play settings messages.stop device room messages.messages

-- All that the player leaves behind, with the lent buffer: the device, how much was used and written, why it stopped, and the buffer.
pub record Left : Type 0 where
  pub device : Device
  pub used : ℕ
  pub written : ℕ
  pub stop : Stop
  pub buffer : List ℕ

-- The five put together.
abbrev pub left_of : Device → ℕ → ℕ → Stop → List ℕ → Left
left_of device used written stop buffer = record { device = device; used = used; written = written; stop = stop; buffer = buffer }

-- The records are laid over the start of the buffer, whose other bytes are as they came.
unfoldable pub played : Settings → Device → Bool → List ℕ → List ℕ → Left
played settings device ends tape buffer =
    let done : Playing = play_tape settings device ends (length buffer) tape in
    left_of done.device done.used (length done.records) done.stop (laid done.records buffer)

-- The same, from what the player hands back and from the lent slices as they are then.
abbrev pub left_by : Played → Memory → List ℕ → Left
left_by handed memory buffer = left_of (device_of handed.session memory) handed.used handed.written (stop_of handed.stop) buffer
