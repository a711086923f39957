-- `memory::stores::program` meets its contract: a turn of its loop programs one byte more.
use native.Mathlib.Omega.{arith}
use Rattle.memory.proofs.Programming.{program_one}
use Rattle.memory.proofs.stores.program.Goals as goal

pub loop-i-preserved : goal.loop-i-preserved
loop-i-preserved c = program_one _ _ _ _ _ c.loop-i.invariant (omega arith)
