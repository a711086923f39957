-- Document 01, "When nothing is done", "The chip on the bench" and "Who may touch which page": what else follows for demand 2, less telling than what stands on its page. No message changes the lengths of the
-- memory, a reply fits the room that is lent for it, bytes stay bytes, and the bits of the option bytes that say nothing change nothing.
use Rattle.std.specs.Prelude.{ℕ, ◌≤◌, List, ◌≡◌, length}
use Rattle.std.proofs.Common.{arith}
use Rattle.frame.specs.Frame.{data_of}
use Rattle.frame.proofs.Laws.{data_bytes}
use Rattle.memory.proofs.Laws.{AllBytes}
use Rattle.tm32.specs.After.{replied, tell}
use Rattle.tm32_asks.specs.Checks.{protections}
use Rattle.tm32.specs.Device.{Device}
use Rattle.tm32_asks.specs.Request.{request_in}
use Rattle.tm32.specs.Respond.{respond}
use Rattle.tm32_asks.specs.declared.Request.{Request}
use Rattle.tm32.specs.declared.Settings.{Settings}
use Rattle.demands.specs.Demand2.Memories.{MemoryBytes, SameLengths, SameLow, SettingsBytes}
use Rattle.demands.specs.Demand2.OtherBits.{protections_so, reads_same, writes_same}
use Rattle.demands.specs.Demand2.Replies.{Sized}
use Rattle.demands.specs.Demand2.ReplyResults.{reply_short}
use Rattle.demands.specs.Demand2.WorkBytes.{bytes_way, work_bytes}
use Rattle.demands.specs.Demand2.WorkLengths.{unchanged, work_lengths}
use Rattle.demands.specs.Messages.Ways.{heard_so, memory_after, reply_told}

-- no message makes the flash, the RAM or the NVR longer or shorter, whatever their lengths are
pub lengths_stay : (settings : Settings) (device : Device) (message : List ℕ) (room : ℕ) → SameLengths device.memory (tell settings device message room).device.memory
lengths_stay settings device message room =
    memory_after settings device message room (SameLengths device.memory) (unchanged device.memory) (work_lengths settings device room (data_of message) (request_in settings.start message))

module _ (settings : Settings) (sized : Sized settings) (device : Device) (message : List ℕ) where
  -- a reply that is told is never longer than the room that must be lent for it
  pub reply_fits : (room : ℕ) (bytes : List ℕ) → (tell settings device message room).told ≡ replied bytes → length bytes ≤ 1030
  reply_fits room bytes is =
      reply_told settings device message room (λ (list : List ℕ). length list ≤ 1030) bytes (λ known. reply_short settings sized device message) is

  -- so it fits the room that was lent
  pub reply_in_room : (room : ℕ) (bytes : List ℕ) → (tell settings device message room).told ≡ replied bytes → length bytes ≤ room
  reply_in_room room bytes is =
      reply_told settings device message room (λ (list : List ℕ). length list ≤ room) bytes (λ known. omega (arith, known.space, reply_short settings sized device message)) is

-- the memory after a message is made of bytes
pub memory_bytes : (settings : Settings) (device : Device) (message : List ℕ) (room : ℕ) → MemoryBytes device.memory → AllBytes message
    → MemoryBytes (tell settings device message room).device.memory
memory_bytes settings device message room all given =
    memory_after settings device message room MemoryBytes all (work_bytes settings device room (data_of message) all (data_bytes message given) (request_in settings.start message))

module _ (settings : Settings) (all : SettingsBytes settings) where
  -- a reply that is told is made of bytes
  pub reply_bytes : (device : Device) (message : List ℕ) (room : ℕ) (bytes : List ℕ) → MemoryBytes device.memory → (tell settings device message room).told ≡ replied bytes → AllBytes bytes
  reply_bytes device message room bytes memory is =
      reply_told settings device message room AllBytes bytes (λ sized. bytes_way settings all device message memory (respond settings device message) (heard_so settings device message)) is

module _ (one other : List ℕ) (low : SameLow one other) where
  -- whatever the other option bytes are, protection says the same of every request
  pub protections_same : (request : Request) → protections one request ≡ protections other request
  protections_same = protections_so one other (reads_same one other low) (writes_same one other low)
