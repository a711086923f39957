-- `edges::input::read_all` ends: each read that goes on brings a byte, and the block has so many and no more.
use Rattle.std.proofs.Common.{◌-◌, length}
use Rattle.edges.proofs.input.read_all.Given as goal

abbrev pub decreases-loop-held : goal.decreases-loop-held
decreases-loop-held g l = length l.block - l.length
