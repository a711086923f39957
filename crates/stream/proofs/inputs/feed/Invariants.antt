-- The loop of `stream::feed`: whatever comes of what is held from here on is what comes of the whole input.
use Rattle.std.proofs.Common.{◌≤◌, length, take}
use Rattle.stream.proofs.Handing.{Onwards}
use Rattle.stream.proofs.inputs.feed.Given as goal

abbrev pub invariant-loop : goal.invariant-loop
invariant-loop g l = record {
  inside : l.held ≤ length l.block;
  onwards : Onwards g.C.Consumer.consumes g.C.Consumer.finishes g.C.Consumer.refuses l.fn.consumer (take l.held l.block) l.consumer;
}
