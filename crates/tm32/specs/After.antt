-- Document 01, "When nothing is done": what is tested of a call before anything else, and where the reply is laid.
use Rattle.std.specs.Prelude.{ℕ, ◌+◌, cond, not, List, [], ◌∷◌, eqb, ltb, length}
use Rattle.frame.specs.Frame.{laid, overhead}
use Rattle.tm32_asks.specs.Checks.{Check, check, most_bytes, verdict}
use Rattle.tm32.specs.Device.{Device}
use Rattle.tm32_asks.specs.Map.{flash_length, nvr_length, ram_length}
use Rattle.tm32_asks.specs.Rates.{is_rate}
use Rattle.tm32.specs.Respond.{respond, Answered}
use Rattle.tm32.specs.declared.Refusal.{Refusal}
use Rattle.tm32.specs.declared.Refusal.TheVariants.{FlashLength, RamLength, NvrLength, NoRoom, NoSuchRate}
use Rattle.tm32.specs.declared.Settings.{Settings}

-- How long a lent reply buffer must be at least: room for a frame with as much data as a Read gives.
abbrev pub reply_room : ℕ
reply_room = most_bytes + overhead

-- Numbers 1 to 5, in order: the lengths of flash, RAM and NVR, the room for the reply, and the session's rate code.
unfoldable pub call_checks : Device → ℕ → List Check
call_checks device room =
    check (not (eqb (length device.memory.flash) flash_length)) 1
    ∷ check (not (eqb (length device.memory.ram) ram_length)) 2
    ∷ check (not (eqb (length device.memory.nvr) nvr_length)) 3
    ∷ check (ltb room reply_room) 4
    ∷ check (not (is_rate device.session.rate)) 5
    ∷ []

-- The number by which the code's word for each of them is told.
abbrev pub refusal_number : Refusal → ℕ
refusal_number FlashLength = 1
refusal_number RamLength = 2
refusal_number NvrLength = 3
refusal_number NoRoom = 4
refusal_number NoSuchRate = 5

-- What the caller is told: the reply to hand on, or that there is none, with a number from 1 to 5.
pub data Told : Type 0 where
  replied : List ℕ → Told
  no_reply : ℕ → Told

-- The device afterwards, and what the caller is told.
pub record Telling : Type 0 where
  pub device : Device
  pub told : Told

-- The two put together.
abbrev pub telling : Device → Told → Telling
telling device told = record { device = device; told = told }

-- The answer to a message, with so much room for the reply. Whatever the message is, a call that fails a check is told its number, and nothing changes.
unfoldable pub tell : Settings → Device → List ℕ → ℕ → Telling
tell settings device message room =
    let number : ℕ = verdict 0 (call_checks device room) in
    let response : Answered = respond settings device message in
    cond (eqb number 0) (telling response.device (replied response.reply)) (telling device (no_reply number))

-- The answer that is handed back: how long a reply stands in the lent buffer, or that nothing was done, with a number from 1 to 5.
pub data Answer : Type 0 where
  Reply : ℕ → Answer
  Refused : ℕ → Answer

-- All that a message leaves behind: the device, the answer, and the lent reply buffer.
pub record After : Type 0 where
  pub device : Device
  pub answer : Answer
  pub buffer : List ℕ

-- The three put together.
abbrev pub after_of : Device → Answer → List ℕ → After
after_of device answer buffer = record { device = device; answer = answer; buffer = buffer }

-- A reply is laid over the start of the buffer, whose other bytes are as they came. A number from 1 to 5 leaves all of it.
unfoldable pub lay : List ℕ → Device → Told → After
lay buffer device (replied bytes) = after_of device (Reply (length bytes)) (laid bytes buffer)
lay buffer device (no_reply number) = after_of device (Refused number) buffer

-- What a message does to a device and to the lent reply buffer.
unfoldable pub after : Settings → Device → List ℕ → List ℕ → After
after settings device message buffer =
    let outcome : Telling = tell settings device message (length buffer) in
    lay buffer outcome.device outcome.told
