-- `bench::shell::run` is safe: what the player hands back lies inside what it was lent.
use Rattle.std.proofs.Common.{arith, length-take-le, sym}
use borrow.Rule.Slice.PartMut.{mid_len}
use Rattle.std.proofs.lemmas.Grind.{common_steps}
use Rattle.tape.proofs.Handed.{handed_short, written_within}
use Rattle.bench.proofs.shell.run.Goals as goal

pub slice_bounds-write_all-end-in-loop : goal.slice_bounds-write_all-end-in-loop
slice_bounds-write_all-end-in-loop g c = sym (length-take-le _ _ (grind (arith, common_steps, written_within)))

pub read_on-requires-clause-room : goal.read_on-requires-clause-room
read_on-requires-clause-room g c =
    let held = mid_len c.loop.from c.loop.held c.loop.block c.loop.invariant.inside in
    omega (arith, handed_short _ _ _ _ _ _ _ _ c.play-played.ensures.outcome c.in-MoreTape.is, held, c.requires, c.loop.invariant.long)
