-- Document 01, "Who may touch which page": two devices that differ in their option bytes alone, and what is compared where both get the same messages.
use Rattle.std.specs.Prelude.{ℕ, ◌-◌, Bool, false, List, [], ◌∷◌, ◌≡◌, get_or, length}
use Rattle.memory.specs.Ranges.{within}
use Rattle.shape.specs.Shape.{Step, none_of, others, step_of, without}
use Rattle.tm32.specs.After.{Told, no_reply, replied}
use Rattle.tm32.specs.Device.{Device}
use Rattle.tm32_asks.specs.Map.{nvr_start, options_length, options_start}
use Rattle.tm32.specs.OptionMessages.{option_message}
use Rattle.tm32_asks.specs.Results.{pcrop_protected, read_protected, write_protected}
use Rattle.tm32.specs.Run.{Event, Ran, restarted, run, sent}
use Rattle.tm32.specs.declared.Settings.{Settings}
use Rattle.demands.specs.Demand1.Refusals.{is_one_of}

-- Whether a place of the NVR holds an option byte.
abbrev pub holds_option : ℕ → Bool
holds_option place = within (options_start - nvr_start) options_length place 1

-- That two devices are alike in session, flash, RAM and every byte of NVR but the option bytes.
pub record AlikeButOptions (one other : Device) : Type 0 where
  pub session : one.session ≡ other.session
  pub flash : one.memory.flash ≡ other.memory.flash
  pub ram : one.memory.ram ≡ other.memory.ram
  pub nvr_length : length one.memory.nvr ≡ length other.memory.nvr
  pub nvr : (place : ℕ) → holds_option place ≡ false → get_or one.memory.nvr place 0 ≡ get_or other.memory.nvr place 0

-- The results of a refusal for protection.
abbrev pub protection_results : List ℕ
protection_results = write_protected ∷ read_protected ∷ pcrop_protected ∷ []

-- Whether a caller is told such a refusal: its result stands in the command's place of the reply, behind the first byte.
unfoldable pub is_protection_refusal : Told → Bool
is_protection_refusal (replied bytes) = is_one_of protection_results (get_or bytes 1 0)
is_protection_refusal (no_reply number) = false

-- What comes of one event.
unfoldable pub happens : Settings → Device → Event → Step Device Told
happens settings device event =
    let ran : Ran = run settings device (event ∷ []) in
    step_of ran.device ran.told

-- Whether an event is a message that reads or writes the option bytes, where a CRC starts from a value.
unfoldable pub option_event : ℕ → Device → Event → Bool
option_event start device (sent message room) = option_message start device message room
option_event start device (restarted link) = false

-- Whether no event of a list does, each as it meets the device, with the start value of the settings.
abbrev pub spares_options : Settings → Device → List Event → Bool
spares_options settings device events = none_of (happens settings) (option_event settings.start) device events

-- The events of a list that the protection of a device permits: all but the messages that it refuses for protection. A looser device is sent these.
abbrev pub permitted_by : Settings → Device → List Event → List Event
permitted_by settings strict events = without (happens settings) is_protection_refusal strict events

-- That two runs agree: all that the caller is told in the first, but for refusals for protection, the caller of the second is told, in that order; and the devices are alike in the end.
pub record Agree (strict loose : Ran) : Type 0 where
  pub told : others is_protection_refusal strict.told ≡ loose.told
  pub alike : AlikeButOptions strict.device loose.device
