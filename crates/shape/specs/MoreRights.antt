-- Document 01, "Who may touch which page": that more rights never alter an answer already given, for any device of our shape. What a chip must bring for it stands in `Growing`; the argument
-- stands in `proofs/MoreRights.antt`, and `Agree` is what it shows.
use Rattle.std.specs.Prelude.{Bool, true, false, ◌≡◌}
use Rattle.shape.specs.Shape.{Shape, Step, others, passes, refuses, tells}

-- That an event leaves the same to tell of two devices, and leaves them so that the first is still the stricter.
pub record SameWork {Device Told : Type 0} (Stricter : Device → Device → Type 0) (strict loose : Step Device Told) : Type 0 where
  pub told : strict.told ≡ loose.told
  pub stricter : Stricter strict.device loose.device

-- What a chip must bring. `apart` is the class of events that read or write what protects, and `Stricter` says that the first of two devices protects all that the second does, while they are
-- alike in all else.
pub record Growing (shape : Shape) (apart : shape.Device → shape.Event → Bool) (Stricter : shape.Device → shape.Device → Type 0) : Type 0 where
  -- The checks do not look at what protects.
  pub checks_alike : (strict loose : shape.Device) (event : shape.Event) → Stricter strict loose → shape.checks strict event ≡ shape.checks loose event
  -- Protection only grows: what the stricter lets through, the looser does.
  pub protection_grows : (strict loose : shape.Device) (event : shape.Event) → Stricter strict loose → shape.protection strict event ≡ passes → shape.protection loose event ≡ passes
  -- The work does not look at what protects, but for the events that stand apart.
  pub work_alike : (strict loose : shape.Device) (event : shape.Event) → Stricter strict loose → apart strict event ≡ false → shape.checks strict event ≡ passes
      → shape.protection strict event ≡ passes → SameWork Stricter (shape.work strict event) (shape.work loose event)
  -- A refusal for protection is known by what is told, and nothing else that is told is taken for one.
  pub check_kind : (device : shape.Device) (event : shape.Event) (told : shape.Told) → shape.checks device event ≡ refuses told → shape.is_protection told ≡ false
  pub protection_kind : (device : shape.Device) (event : shape.Event) (told : shape.Told) → shape.protection device event ≡ refuses told → shape.is_protection told ≡ true
  pub work_kind : (device : shape.Device) (event : shape.Event) → tells shape.is_protection (shape.work device event).told ≡ false

-- That two runs agree: all that is told in the first, but for refusals for protection, is told in the second, in order; and the first device is still the stricter.
pub record Agree (shape : Shape) (Stricter : shape.Device → shape.Device → Type 0) (strict loose : Step shape.Device shape.Told) : Type 0 where
  pub told : others shape.is_protection strict.told ≡ loose.told
  pub stricter : Stricter strict.device loose.device
