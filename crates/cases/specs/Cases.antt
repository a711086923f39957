-- A worked case: what is sent to which device, and all that must come of it. And the devices and option bytes that the cases start on and end with, put together here apart from the
-- definitions under trial; only the fresh device is theirs, and the first cases hold it to a list that is put together here.
use Rattle.std.specs.Prelude.{ℕ, ◌-◌, List, [], ◌∷◌, ◌++◌, length, replicate}
use Rattle.tm32.specs.After.{After, Reply, after, after_of}
use Rattle.tm32.specs.Device.{Device, device_of, memory_of, session_of, with_session}
use Rattle.tm32.specs.Fresh.{fresh_device, fresh_settings}
use Rattle.tm32_asks.specs.declared.Link.TheVariants.{Uart}
use Rattle.tm32.specs.declared.Settings.{Settings}
use Rattle.tm32.specs.declared.State.{State}
use Rattle.tm32.specs.declared.State.TheVariants.{Talking, Waiting}
use Rattle.cases.specs.Wire.{ask_write, first, handshake, no_pages, off, options, second}

-- The settings, the device, the messages that prepare it, the message that is tried, the whole reply to it, and the whole device afterwards.
pub record Case : Type 0 where
  pub settings : Settings
  pub device : Device
  pub before : List (List ℕ)
  pub message : List ℕ
  pub reply : List ℕ
  pub after : Device

-- The six put together; and with the settings of the fresh device.
abbrev pub case_with : Settings → Device → List (List ℕ) → List ℕ → List ℕ → Device → Case
case_with settings device before message reply after =
    record { settings = settings; device = device; before = before; message = message; reply = reply; after = after }

abbrev pub case : Device → List (List ℕ) → List ℕ → List ℕ → Device → Case
case = case_with fresh_settings

-- The buffer that is lent for each reply: so long, and full of one byte.
abbrev pub lent_length : ℕ
lent_length = 1040

abbrev pub lent_byte : ℕ
lent_byte = 0x11

abbrev pub lent_buffer : List ℕ
lent_buffer = replicate lent_length lent_byte

-- A device after some messages.
unfoldable pub prepared : Settings → Device → List (List ℕ) → Device
prepared settings device [] = device
prepared settings device (message ∷ rest) = prepared settings (after settings device message lent_buffer).device rest

-- What the definitions make of each case: `after`, with which the contract of the device's code is an equation.
unfoldable pub computed : List Case → List After
computed [] = []
computed (one ∷ rest) = after one.settings (prepared one.settings one.device one.before) one.message lent_buffer ∷ computed rest

-- What is right: the whole device, the length of the reply, and the whole buffer, in which nothing changed behind the reply.
unfoldable pub expected : List Case → List After
expected [] = []
expected (one ∷ rest) =
    after_of one.after (Reply (length one.reply)) (one.reply ++ replicate (lent_length - length one.reply) lent_byte) ∷ expected rest

-- A device on UART at rate code 0x0A, with RAM all nought, in a state, with a flash, and with option bytes in an NVR that is nought otherwise.
abbrev pub on_bench : State → List ℕ → List ℕ → Device
on_bench state flash options = device_of (session_of state Uart 0x0A) (memory_of flash (replicate 9216 0) (replicate 2048 0 ++ options ++ replicate 4074 0))

-- How many bytes the flash has by 01, written out. The definitions work it out from the count of pages.
abbrev pub flash_bytes : ℕ
flash_bytes = 49152

-- A blank flash, as on the fresh device.
abbrev pub blank_flash : List ℕ
blank_flash = replicate flash_bytes 0xFF

-- A device like that which Talks, with a blank flash, and with some RAM and some NVR.
abbrev pub blank_beside : List ℕ → List ℕ → Device
blank_beside ram nvr = device_of (session_of Talking Uart 0x0A) (memory_of blank_flash ram nvr)

-- A flash with a byte at the start of page 1, and blank otherwise.
abbrev pub one_byte : ℕ → List ℕ
one_byte byte = replicate 1024 0xFF ++ byte ∷ replicate (flash_bytes - 1025) 0xFF

-- All pages but the last full of 0x5A, with two other bytes: one at the start of page 1, and 0x44 at the end of page 4.
abbrev pub full_pages : ℕ → List ℕ
full_pages byte = replicate 1024 0x5A ++ byte ∷ replicate 4094 0x5A ++ 0x44 ∷ replicate (flash_bytes - 6144) 0x5A

-- A full flash: the same, with the last page full of 0x5A up to its last byte, which is 0x3C.
abbrev pub full_flash : ℕ → List ℕ
full_flash byte = full_pages byte ++ replicate 1023 0x5A ++ 0x3C ∷ []

-- A blank device that Talks, and a full one, each with some options.
abbrev pub blank_device : List ℕ → Device
blank_device = on_bench Talking blank_flash

abbrev pub full_device : List ℕ → Device
full_device = on_bench Talking (full_flash 0x0F)

-- The fresh device, and one with a full flash, after a handshake and some more messages.
abbrev pub fresh : List (List ℕ) → List ℕ → List ℕ → Device → Case
fresh before = case fresh_device (handshake ∷ before)

abbrev pub filled : List (List ℕ) → List ℕ → List ℕ → Device → Case
filled before = case (on_bench Waiting (full_flash 0x0F) off) (handshake ∷ before)

-- A blank device that Talks at some rate code.
abbrev pub at_code : ℕ → Device
at_code code = with_session (blank_device off) (session_of Talking Uart code)

-- Option bytes that the cases write.
abbrev pub pcrop5 : List ℕ
pcrop5 = options 0xAA (first 5) no_pages

abbrev pub rdp : List ℕ
rdp = options 0x00 no_pages no_pages

abbrev pub pcrop5wrp7 : List ℕ
pcrop5wrp7 = options 0xAA (second 5) (second 7)

abbrev pub rdp_wrp7 : List ℕ
rdp_wrp7 = options 0x00 no_pages (second 7)

abbrev pub wrp7 : List ℕ
wrp7 = options 0xAA no_pages (second 7)

-- A write of one byte at the start of page 1, without readback.
abbrev pub put : ℕ → List ℕ
put byte = ask_write 0 0x08000400 (byte ∷ [])
