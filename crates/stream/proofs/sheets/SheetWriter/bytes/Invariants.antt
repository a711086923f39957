-- The loop of `stream::SheetWriter::bytes`: byte for byte, in order, with one answer of the system for each.
use lib.ListN.{take}
use Rattle.stream.specs.Sheets.{AddsAll, GoesOn, filled}
use Rattle.stream.proofs.sheets.SheetWriter.bytes.Given as goal

abbrev pub invariant-loop-value : goal.invariant-loop-value
invariant-loop-value g l = record {
  adds : AddsAll (filled l.initial.self) l.initial.self.paper.now (take l.value-index l.values) (filled l.self) l.self.paper.now;
  goes_on : GoesOn l.initial.self l.self;
}
