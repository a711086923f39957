-- Document 01, "The bench tape": a tape that is cut once, less telling than the pieces on the page `BenchTape`. That is so of all plays that do not end
-- for want of room for records, and `room_enough` on that page tells what room is enough.
use Rattle.std.specs.Prelude.{ℕ, Bool, true, false, List, ◌++◌, ◌≡◌, drop}
use Rattle.std.proofs.Common.{true≢false, sym, ap, ◌∙◌}
use Rattle.tm32.specs.Device.{Device}
use Rattle.tm32.specs.declared.Settings.{Settings}
use Rattle.tape.specs.Play.{Playing, behind, play_tape}
use Rattle.tape.specs.Stops.{Room}
use Rattle.tape.proofs.Ways.{goes_so, one_way}
use Rattle.demands.specs.BenchTape.InPieces.{wants}
use Rattle.demands.specs.BenchTape.Pieces.{goes_on, is_done}

module _ (settings : Settings) (device : Device) (ends : Bool) (tape more : List ℕ) (room room'' : ℕ) where
  -- A tape is cut anywhere. Where the player waits behind the first part, the whole tape gives what the first part gives and then what the rest gives.
  pub cut_anywhere : (room' : ℕ) →
      let first : Playing = play_tape settings device false room tape in
      let rest : Playing = play_tape settings first.device ends room' (drop first.used tape ++ more) in
      let whole : Playing = play_tape settings device ends room'' (tape ++ more) in
      wants first.stop ≡ true → ¬ (rest.stop ≡ Room) → ¬ (whole.stop ≡ Room) → whole ≡ behind first.used first.records rest
  cut_anywhere room' waits roomy roomy' =
      one_way settings ends (goes_so settings ends device room'' (tape ++ more))
      (goes_on settings ends more _ (goes_so settings false device room tape) waits (goes_so settings ends _ room' _)) roomy' roomy

  -- Where it is done, the whole tape gives what the first part gives.
  pub ended_early :
      let first : Playing = play_tape settings device false room tape in
      let whole : Playing = play_tape settings device ends room'' (tape ++ more) in
      wants first.stop ≡ false → ¬ (whole.stop ≡ Room) → whole ≡ first
  ended_early done roomy =
      one_way settings ends (goes_so settings ends device room'' (tape ++ more)) (is_done settings ends more (goes_so settings false device room tape) done) roomy
      (λ short. true≢false (sym (ap wants short) ∙ done))
