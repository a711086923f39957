-- Document 01, "A message and its reply" and "The chip on the bench": messages and restarts, one after the other.
use Rattle.std.specs.Prelude.{ℕ, List, [], ◌∷◌}
use Rattle.tm32.specs.After.{Told, Telling, tell}
use Rattle.tm32.specs.Device.{Device, restart, with_session}
use Rattle.tm32_asks.specs.declared.Link.{Link}
use Rattle.tm32.specs.declared.Settings.{Settings}

-- What can happen to a device: a message with so much room lent for its reply, or a restart on a link.
pub data Event : Type 0 where
  sent : List ℕ → ℕ → Event
  restarted : Link → Event

-- What a run leaves behind: the device, and what the caller was told, once for each message.
pub record Ran : Type 0 where
  pub device : Device
  pub told : List Told

-- The two put together.
abbrev pub ran_of : Device → List Told → Ran
ran_of device told = record { device = device; told = told }

-- Events played in order.
unfoldable pub run : Settings → Device → List Event → Ran
run settings device [] = ran_of device []
run settings device (sent bytes room ∷ events) =
    let first : Telling = tell settings device bytes room in
    let rest : Ran = run settings first.device events in
    ran_of rest.device (first.told ∷ rest.told)
run settings device (restarted link ∷ events) = run settings (with_session device (restart device.session link)) events
