-- `stream::Sheet::bytes` meets its contract: what its loop keeps says so at the end.
use Rattle.stream.proofs.Adding.{none_added, one_added}
use Rattle.stream.proofs.sheets.Sheet.bytes.Goals as goal

pub loop-value-init : goal.loop-value-init
loop-value-init g c = none_added _ _

pub loop-value-preserved : goal.loop-value-preserved
loop-value-preserved g c = one_added _ _ c.loop-value.invariant c.loop-value-test.true c.byte-sheet.ensures
