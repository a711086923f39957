-- The loop of `bench::shell::run`: what is held of the tape lies in the block.
use Rattle.std.proofs.Common.{◌≡◌, ◌≤◌, length}
use Rattle.bench.proofs.shell.run.Given as goal

abbrev pub invariant-loop : goal.invariant-loop
invariant-loop g l = record { unplayed : l.from ≤ l.held; inside : l.held ≤ length l.block; long : length l.block ≡ length l.initial.block }
