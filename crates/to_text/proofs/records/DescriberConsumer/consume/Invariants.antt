-- `consume` of a `to_text::records::Describer` ends: each turn leaves a record fewer.
use Rattle.std.proofs.Common.{◌-◌, length}
use Rattle.to_text.proofs.records.DescriberConsumer.consume.Given as goal

abbrev pub decreases-loop-used : goal.decreases-loop-used
decreases-loop-used g l = length l.tape - l.used
