-- Document 01, "A message and its reply" and "Who may touch which page": a device of any chip, seen from far off. Something happens to it, a message or a restart. Checks come first, then
-- protection, then the work; a device that refuses is as it was.
use Rattle.std.specs.Prelude.{Bool, true, false, cond, not, ◌&&◌, ◌||◌, List, [], ◌∷◌, ◌++◌}

-- What is said of an event before its work: nothing against it, or what the caller is told instead.
pub data Verdict (Told : Type 0) : Type 0 where
  passes : Verdict Told
  refuses : Told → Verdict Told

-- What comes of an event: the device afterwards, and what the caller is told. Of a restart that is nothing.
pub record Step (Device Told : Type 0) : Type 0 where
  pub device : Device
  pub told : List Told

-- The two put together.
abbrev pub step_of : {Device Told : Type 0} → Device → List Told → Step Device Told
step_of device told = record { device = device; told = told }

-- ---- what is told

-- Whether something of a kind is told.
unfoldable pub tells : {Told : Type 0} → (Told → Bool) → List Told → Bool
tells kind [] = false
tells kind (one ∷ rest) = kind one || tells kind rest

-- What is told, but for what is of a kind.
unfoldable pub others : {Told : Type 0} → (Told → Bool) → List Told → List Told
others kind [] = []
others kind (one ∷ rest) = cond (kind one) (others kind rest) (one ∷ others kind rest)

-- ---- any device that events happen to

module _ {Device Event Told : Type 0} (step : Device → Event → Step Device Told) where
  -- Events, one after the other: the device behind the last, and all that was told.
  unfoldable pub run_by : Device → List Event → Step Device Told
  run_by device [] = step_of device []
  run_by device (event ∷ events) =
      let first : Step Device Told = step device event in
      let rest : Step Device Told = run_by first.device events in
      step_of rest.device (first.told ++ rest.told)

  -- Those of some events of which the device tells nothing of a kind.
  unfoldable pub without : (Told → Bool) → Device → List Event → List Event
  without kind device [] = []
  without kind device (event ∷ events) =
      let first : Step Device Told = step device event in
      let rest : List Event = without kind first.device events in
      cond (tells kind first.told) rest (event ∷ rest)

  -- Whether no event is of a class, each judged on the device as it then is.
  unfoldable pub none_of : (Device → Event → Bool) → Device → List Event → Bool
  none_of class device [] = true
  none_of class device (event ∷ events) = not (class device event) && none_of class (step device event).device events

-- ---- a device of our shape

-- The checks before protection, protection, and the work, each of a device and an event; and which of the things that are told are refusals for protection.
pub record Shape : Type 1 where
  pub Device : Type 0
  pub Event : Type 0
  pub Told : Type 0
  pub checks : Device → Event → Verdict Told
  pub protection : Device → Event → Verdict Told
  pub work : Device → Event → Step Device Told
  pub is_protection : Told → Bool

-- What passes goes on to what comes behind; of a refusal the caller is told, and the device is as it was.
unfoldable pub judged : {Device Told : Type 0} → Device → Verdict Told → Step Device Told → Step Device Told
judged device passes behind = behind
judged device (refuses told) behind = step_of device (told ∷ [])

-- What comes of an event.
unfoldable pub step_in : (shape : Shape) → shape.Device → shape.Event → Step shape.Device shape.Told
step_in shape device event =
    judged device (shape.checks device event)
    (judged device (shape.protection device event)
    (shape.work device event))
