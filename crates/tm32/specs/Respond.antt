-- Document 01, "A message and its reply": what a device does with a message, and what it replies, where its memory has the lengths of the map. `After` sees to that, and to the reply buffer.
use Rattle.std.specs.Prelude.{ℕ, Bool, true, false, cond, ◌||◌, List, [], ◌∷◌, eqb, length}
use Rattle.frame.specs.Frame.{data_of, frame}
use Rattle.memory.specs.Stores.{same}
use Rattle.tm32_asks.specs.Checks.{checks_of, verdict}
use Rattle.tm32.specs.Device.{Device, in_state, with_session}
use Rattle.tm32_asks.specs.Options.{option_bytes}
use Rattle.tm32_asks.specs.Request.{request_in}
use Rattle.tm32_asks.specs.Results.{no_handshake, work_done}
use Rattle.tm32.specs.Work.{Worked, work}
use Rattle.tm32_asks.specs.declared.Request.{Request}
use Rattle.tm32.specs.declared.Settings.{Settings}
use Rattle.tm32.specs.declared.State.{State}
use Rattle.tm32.specs.declared.State.TheVariants.{Waiting, Talking, Gone}

-- What comes of a message: the device afterwards, and the reply.
pub record Answered : Type 0 where
  pub device : Device
  pub reply : List ℕ

-- The two put together.
abbrev pub answered : Device → List ℕ → Answered
answered device reply = record { device = device; reply = reply }

-- The byte that a host shakes hands with, and the byte that answers it.
abbrev pub hello : List ℕ
hello = 0x7F ∷ []

abbrev pub hello_back : List ℕ
hello_back = 0x79 ∷ []

-- A refusal is a frame with its number and no data, whose CRC starts from a value, and changes nothing.
unfoldable pub refuse : ℕ → Device → ℕ → Answered
refuse start device number = answered device (frame start number [])

-- What the checks and protection say of a request.
unfoldable pub verdict_on : Device → Request → ℕ
verdict_on device request = verdict work_done (checks_of device.session.link (option_bytes device.memory.nvr) request)

-- The reply to work: a frame, too.
unfoldable pub reply_to : ℕ → Worked → Answered
reply_to start done = answered done.device (frame start done.result done.payload)

-- A request with its data: refused by the first check that fails, or else worked on.
unfoldable pub serve : Settings → Device → List ℕ → Request → Answered
serve settings device payload request =
    let number : ℕ = verdict_on device request in
    cond (eqb number work_done) (reply_to settings.start (work settings device payload request)) (refuse settings.start device number)

-- The handshake makes the session Talk, on the link and at the rate that it had.
unfoldable pub greet : Device → Answered
greet device = answered (with_session device (in_state device.session Talking)) hello_back

-- Whether a session has Gone, and whether it still Waits.
abbrev pub is_gone : State → Bool
is_gone Waiting = false
is_gone Talking = false
is_gone (Gone address) = true

abbrev pub is_waiting : State → Bool
is_waiting Waiting = true
is_waiting Talking = false
is_waiting (Gone address) = false

-- The answer to a message. An empty one, and any to a device that has Gone, draws an empty reply. Of the others the handshake is answered; what else comes is refused while
-- Waiting, and read while Talking. Every frame, read or written, has the start value of the settings.
unfoldable pub respond : Settings → Device → List ℕ → Answered
respond settings device message =
    cond (eqb (length message) 0 || is_gone device.session.state) (answered device [])
    (cond (same message hello) (greet device)
    (cond (is_waiting device.session.state) (refuse settings.start device no_handshake)
    (serve settings device (data_of message) (request_in settings.start message))))
