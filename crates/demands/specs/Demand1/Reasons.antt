-- Document 01, "A message and its reply" and "When nothing is done": what a message can be refused for. Definitions only.
use Rattle.std.specs.Prelude.{ℕ, true, false, List, ◌≡◌, eqb}
use Rattle.frame.specs.Crc.{crc}
use Rattle.tm32_asks.specs.Checks.{none_fails}
use Rattle.tm32.specs.Device.{Device, bytes_at}
use Rattle.tm32.specs.OptionMessages.{is_talking}
use Rattle.tm32_asks.specs.Request.{request_in}
use Rattle.tm32.specs.Respond.{is_waiting}
use Rattle.tm32_asks.specs.declared.Request.TheVariants.{MemoryCrc}
use Rattle.demands.specs.Messages.FirstFailing.{FirstFailing, request_checks}
use Rattle.demands.specs.Messages.Ways.{NeitherEmptyNorHello}

-- The reasons that a message can be refused for, where a CRC starts from a value, each with its number: no handshake came before; a check of the request fails, and none before it; the CRC of the
-- memory is not the one that was sent.
pub data Reason (start : ℕ) (device : Device) (message : List ℕ) : ℕ → Type 0 where
  no_hello : NeitherEmptyNorHello message → is_waiting device.session.state ≡ true → Reason start device message 0x80
  failed : NeitherEmptyNorHello message → is_talking device.session.state ≡ true
      → (number : ℕ) → FirstFailing (request_checks device (request_in start message)) number → Reason start device message number
  differs : NeitherEmptyNorHello message → is_talking device.session.state ≡ true → none_fails (request_checks device (request_in start message)) ≡ true
      → (address count wanted : ℕ) → request_in start message ≡ MemoryCrc address count wanted → eqb (crc start (bytes_at device.memory address count)) wanted ≡ false
      → Reason start device message 0xF4
