-- The words in which the crate's own functions promise what they do. What a tape does is laid down without them.
use Rattle.std.specs.Prelude.{ℕ, ◌+◌, ◌-◌, ◌≤◌, ◌<◌, Bool, List, ◌++◌, ◌≡◌, ⊤, Result, Ok, Err, length, take, drop}
use Rattle.std.specs.Result.{result_map_both}
use Rattle.frame.specs.Frame.{laid}
use Rattle.tm32.specs.Device.{Memory, device_of}
use Rattle.tm32.specs.declared.Settings.{Settings}
use Rattle.tape.specs.Play.{Left, Playing, closing, left_by, left_of, play_tape}
use Rattle.tape.specs.Script.{Next}
use Rattle.tape.specs.Stops.{Error, error_number, stop_of}
use Rattle.tape.specs.declared.Played.{Played}
use Rattle.tape.specs.declared.Stop.{Stop}
use Rattle.tape.specs.declared.TapeError.{TapeError}
use Rattle.tape.specs.declared.player.Place.{Place}

-- What comes of a head that was judged: what stands behind one that is let through, or what is wrong with the tape.
abbrev pub let_through : Result ⊤ TapeError → Next → Next
let_through (Ok _) next = next
let_through (Err error) next = Err (Error (error_number error))

-- A message's length, or why there is none, in numbers.
abbrev pub next_told : Result ℕ Stop → Next
next_told next = result_map_both (λ size. size) stop_of next

-- That a place lies on the tape and in the buffer.
pub record Stands (place : Place) (tape buffer : List ℕ) : Type 0 where
  pub used : place.used ≤ length tape
  pub written : place.written ≤ length buffer

-- Some records, written into a buffer from a place on.
abbrev pub written_at : ℕ → List ℕ → List ℕ → List ℕ
written_at written records buffer = take written buffer ++ laid records (drop written buffer)

-- What is left behind in the end, where so much of the tape was used and so much of the buffer written, and what is played from there on is known.
abbrev pub ends_with : ℕ → ℕ → List ℕ → Playing → Left
ends_with used written buffer rest =
    left_of rest.device (used + rest.used) (written + length rest.records) rest.stop (written_at written rest.records buffer)

-- The same for a place: the rest of the tape is played in the rest of the buffer.
unfoldable pub from : Settings → Bool → List ℕ → Place → Memory → List ℕ → Left
from settings ends tape place memory buffer =
    ends_with place.used place.written buffer
    (play_tape settings (device_of place.session memory) ends (length buffer - place.written) (drop place.used tape))

-- And where the player stops at a place.
abbrev pub closed : Place → Stop → Memory → List ℕ → Left
closed place stop memory buffer =
    ends_with place.used place.written buffer (closing (device_of place.session memory) (length buffer - place.written) (stop_of stop))

-- What is left behind in the end, one step from a place on.
abbrev pub resumed : Settings → Bool → List ℕ → Place → Result Place Stop → Memory → List ℕ → Left
resumed settings ends tape place (Ok next) memory buffer = from settings ends tape next memory buffer
resumed settings ends tape place (Err stop) memory buffer = closed place stop memory buffer

-- That a step which goes on goes further, and stays on the tape and in the buffer.
abbrev pub Further : Place → List ℕ → List ℕ → Result Place Stop → Type 0
Further place tape buffer (Ok next) = (place.used < next.used) × Stands next tape buffer
Further place tape buffer (Err stop) = ⊤

-- That a step does what the tape asks for at a place.
pub record Stepped (settings : Settings) (ends : Bool) (tape : List ℕ) (place : Place) (memory : Memory) (buffer : List ℕ) (step : Result Place Stop) (memory' : Memory) (buffer' : List ℕ) : Type 0 where
  pub same : resumed settings ends tape place step memory' buffer' ≡ from settings ends tape place memory buffer
  pub further : Further place tape buffer' step

-- That the player stops at a place, whatever the memory is.
abbrev pub Closes : Place → Stop → List ℕ → Played → List ℕ → Type 0
Closes place stop buffer last buffer' = (memory : Memory) → left_by last memory buffer' ≡ closed place stop memory buffer

-- A stop at a place.
abbrev pub off_at : Place → Stop → Played
off_at place stop = record { session = place.session; used = place.used; written = place.written; stop = stop }
