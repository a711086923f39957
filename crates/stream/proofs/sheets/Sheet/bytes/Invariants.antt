-- The loop of `stream::Sheet::bytes`: byte for byte, in order, with one answer of the system for each.
use lib.ListN.{take}
use Rattle.stream.specs.Sheets.{AddsAll}
use Rattle.stream.proofs.sheets.Sheet.bytes.Given as goal

abbrev pub invariant-loop-value : goal.invariant-loop-value
invariant-loop-value g l = AddsAll l.initial.sheet l.initial.buffer (take l.value-index l.values) l.sheet l.buffer
