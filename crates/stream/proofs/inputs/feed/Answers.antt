-- `stream::feed` meets its contract.
use Rattle.std.proofs.Common.{◌≤◌, length, take, arith, rules}
use Rattle.stream.proofs.Handing.{begun, ended, lost, broken, taken, left, same_error}
use Rattle.stream.proofs.inputs.feed.Goals as goal

pub loop-init : goal.loop-init
loop-init g c = record { inside = search rules; onwards = begun }

pub returns-in_err-consume-in-Ok-Some : goal.returns-in_err-consume-in-Ok-Some
returns-in_err-consume-in-Ok-Some g c =
    let read = rw c.in-Ok-Some.field-0-is at c.in-Ok-Some.ensures in
    let inside : c.in-Ok-Some.now ≤ length c.fill.new.block = omega (arith, read.2) in
    let told = rw c.first.ensures at c.in_err-consume-in-Ok-Some.ensures in
    rw (same_error _ c.from_residual.ensures.1) (broken c.loop.block c.fill.new.block read.0 read.1 inside c.loop.invariant.onwards told)

pub returns-in-Ok-None : goal.returns-in-Ok-None
returns-in-Ok-None g c =
    let kept = (rw c.in-Ok-None.field-0-is at c.in-Ok-None.ensures).0 in
    ended {bytes = take c.loop.held c.fill.new.block} (rw (← kept) at c.loop.invariant.onwards) (rw c.first-in-Ok-None.ensures at c.finish.ensures)

pub returns-in-Err : goal.returns-in-Err
returns-in-Err g c = lost c.loop.invariant.onwards c.refuse.ensures

pub loop-preserved : goal.loop-preserved
loop-preserved g c =
    let read = rw c.in-Ok-Some.field-0-is at c.in-Ok-Some.ensures in
    let inside : c.in-Ok-Some.now ≤ length c.fill.new.block = omega (arith, read.2) in
    let told = rw c.first.ensures at c.in_ok-consume-in-Ok-Some.ensures in
    let on = taken c.loop.block c.fill.new.block read.0 read.1 inside c.loop.invariant.onwards told in
    let rest = left c.in_ok-consume-in-Ok-Some.field-0 c.in-Ok-Some.now c.fill.new.block inside in
    record { inside = omega arith; onwards = rw (c.copy_within.ensures.after, c.min-used.ensures, rest) on }

pub returns : goal.returns
returns g c = lost c.loop.invariant.onwards c.refuse-2.ensures
