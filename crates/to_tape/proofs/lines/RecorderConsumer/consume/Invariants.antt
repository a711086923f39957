-- `consume` of a `to_tape::lines::Recorder` ends: each turn leaves a line fewer.
use Rattle.std.proofs.Common.{◌-◌, length}
use Rattle.to_tape.proofs.lines.RecorderConsumer.consume.Given as goal

abbrev pub decreases-loop-used : goal.decreases-loop-used
decreases-loop-used g l = length l.text - l.used
