-- Document 01, "Who may touch which page" and "The bench tape": a lemma for the tape. Where two plays show what their tapes are to show, and the runs of their messages agree, so do the plays.
use Rattle.std.specs.Prelude.{ℕ, Bool, List, ◌≡◌}
use Rattle.std.proofs.Math.Path.{sym, ap}
use Rattle.std.proofs.Common.{◌∙◌}
use Rattle.tm32.specs.Device.{Device}
use Rattle.tm32.specs.Run.{run}
use Rattle.tm32.specs.declared.Settings.{Settings}
use Rattle.tape.specs.Play.{Playing}
use Rattle.tape.specs.Script.{script_of}
use Rattle.demands.specs.BenchTape.Shown.{Seen, seen_of, shown, shown_by}
use Rattle.demands.specs.BenchTape.TwoTapes.{TapesAgree, sent_by}
use Rattle.demands.specs.Demand3.TwoDevices.{Agree}

module _ (settings : Settings) (strict loose : Device) (ends : Bool) (tape other : List ℕ) {one two : Playing} where
  -- two plays agree where the runs of their messages do
  pub plays_agree : seen_of one ≡ shown settings strict ends tape → seen_of two ≡ shown settings loose ends other → (script_of ends other).stop ≡ (script_of ends tape).stop
      → Agree (run settings strict (sent_by ends tape)) (run settings loose (sent_by ends other))
      → TapesAgree (run settings strict (sent_by ends tape)).told (script_of ends tape).stop one two
  unfolding shown_by
  plays_agree first second stops agrees =
      record {
        written = ap (λ (what : Seen). what.records) first;
        others_written = rw (agrees.told, sym stops) (ap (λ (what : Seen). what.records) second);
        stopped = ap (λ (what : Seen). what.stop) first;
        other_stopped = ap (λ (what : Seen). what.stop) second ∙ stops;
        alike = rw (ap (λ (what : Seen). what.device) first, ap (λ (what : Seen). what.device) second) agrees.alike;
      }
