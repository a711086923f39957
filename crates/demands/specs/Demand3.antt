-- Document 01, "Who may touch which page", for demand 3: more rights never alter an answer already given.
-- Words to read, below: `TwoDevices`; and in `RightsExamples` some comparisons worked out. Lemmas to skip: `OfShape`, `OptionsUnseen`, `ProtectionGrows` and `Grows`; the argument itself stands in `shape`.
pub mod TwoDevices
pub mod OfShape
pub mod OptionsUnseen
pub mod ProtectionGrows
pub mod Grows
pub mod RightsExamples
use Rattle.std.specs.Prelude.{true, List, ◌≡◌}
use Rattle.std.proofs.Common.{sym, ap, ◌∙◌}
use Rattle.shape.proofs.MoreRights.{more_rights as of_any}
use Rattle.shape.specs.Shape.{Step, others}
use Rattle.tm32.specs.After.{Told}
use Rattle.tm32.specs.Device.{Device}
use Rattle.tm32_asks.specs.Options.{ProtectAll, option_bytes}
use Rattle.tm32.specs.Run.{Event, run}
use Rattle.tm32.specs.declared.Settings.{Settings}
use Rattle.demands.specs.Demand3.Grows.{grows}
use Rattle.demands.specs.Demand3.OfShape.{Stricter, run_so, step_same, tm32}
use Rattle.demands.specs.Demand3.TwoDevices.{Agree, AlikeButOptions, is_protection_refusal, permitted_by, option_event, spares_options}

-- Two devices are alike in session, flash, RAM and every byte of NVR but the option bytes, and the first protects all that the second does. Both have the same settings, the CRC's start value among
-- them. Both get the same messages and restarts, none of which reads or writes the option bytes; but those that the first refuses for protection are left out for the second. Then all else that the
-- first's caller is told, refusals 1 to 5 too, the second's is told, byte for byte and in order; and the devices are alike at the end, as they were at the start.
pub more_rights : (settings : Settings) (strict loose : Device) (events : List Event)
    → AlikeButOptions strict loose
    → ProtectAll (option_bytes strict.memory.nvr) (option_bytes loose.memory.nvr)
    → spares_options settings strict events ≡ true
    → Agree (run settings strict events) (run settings loose (permitted_by settings strict events))
more_rights settings strict loose events alike protects spared =
    let agrees = rw (sym (step_same settings)) at (of_any (tm32 settings) (option_event settings.start) Stricter (grows settings) strict loose events (record { alike = alike; protects = protects })
    (rw (step_same settings) at spared)) in
    let first = run_so settings strict events in
    let second = run_so settings loose (permitted_by settings strict events) in
    record {
      told = ap (λ (one : Step Device Told). others is_protection_refusal one.told) first ∙ agrees.told ∙ sym (ap (λ (one : Step Device Told). one.told) second);
      alike = rw (sym (ap (λ (one : Step Device Told). one.device) first), sym (ap (λ (one : Step Device Told). one.device) second)) at agrees.stricter.alike;
    }
