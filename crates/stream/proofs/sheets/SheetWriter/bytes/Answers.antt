-- `stream::SheetWriter::bytes` meets its contract: what its loop keeps says so at the end.
use mathlib.Core.Path.{◌≡◌, refl, sym, subst, ◌∙◌}
use Rattle.std.specs.Prelude.{Result, IsErr}
use Rattle.stream.specs.Sheets.{Lasts}
use Rattle.stream.proofs.Adding.{none_added, one_added}
use Rattle.stream.proofs.sheets.SheetWriter.bytes.Goals as goal

-- a failure lasts from one byte to the next
lasting : {E : Type 0} {before between after : Result Unit E} → Lasts before between → Lasts between after → Lasts before after
lasting first second failed =
    let same = first failed in
    second (subst IsErr (sym same) failed) ∙ same

pub loop-value-init : goal.loop-value-init
loop-value-init g c = record { adds = none_added _ _; goes_on = (refl, λ failed. refl) }

pub loop-value-preserved : goal.loop-value-preserved
loop-value-preserved g c = record {
  adds = one_added _ _ c.loop-value.invariant.adds c.loop-value-test.true c.byte.ensures.adds;
  goes_on = (c.byte.ensures.goes_on.0 ∙ c.loop-value.invariant.goes_on.0, lasting c.loop-value.invariant.goes_on.1 c.byte.ensures.goes_on.1);
}
