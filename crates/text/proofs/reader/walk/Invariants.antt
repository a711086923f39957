-- The loop of `text::reader::walk`: walking on over the rest of the line brings what walking from the start does.
use Rattle.std.proofs.Common.{◌≡◌, ◌-◌, ◌+◌, ◌≤◌, drop, length}
use Rattle.text.specs.Hex.{hex_from}
use Rattle.text.specs.Walk.{walking}
use Rattle.text.proofs.reader.walk.Given as goal

abbrev pub invariant-loop-rest : goal.invariant-loop-rest
invariant-loop-rest l =
    (l.count + length l.rest ≤ length l.line)
    × (walking l.count (hex_from l.rest (length l.line - length l.rest)) l.buffer ≡ walking 0 (hex_from (drop l.from l.line) l.from) l.initial.buffer)

abbrev pub decreases-loop-rest : goal.decreases-loop-rest
decreases-loop-rest l = length l.rest
