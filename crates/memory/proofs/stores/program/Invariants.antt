-- The loop of `memory::stores::program`: the part is programmed as far as the turns went.
use Rattle.memory.proofs.Programming.{Programming}
use Rattle.memory.proofs.stores.program.Given as goal

abbrev pub invariant-loop-i : goal.invariant-loop-i
invariant-loop-i l = Programming l.initial.byte-items l.bytes l.byte-items l.missing l.i
