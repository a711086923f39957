-- The loop of `tape::player::play`: what is left behind in the end is what the whole tape leaves, and the player stands on the tape and in the buffer.
-- The measure is what is left of the tape.
use Prim.Native.Nat.{◌-◌}
use mathlib.Core.Path.{◌≡◌}
use lib.ListN.{length}
use Rattle.tm32.specs.Device.{device_of}
use Rattle.tm32.specs.Promises.{SameSlices, held}
use Rattle.tape.specs.Play.{played}
use Rattle.tape.specs.Promises.{Stands, from}
use Rattle.tape.proofs.player.play.Given as goal

abbrev pub invariant-loop-next : goal.invariant-loop-next
invariant-loop-next l =
    record {
      same : from l.player.settings l.player.ends l.player.tape.now l.place (held l.memory) l.buffer
          ≡ played l.player.settings (device_of l.fn.session (held l.initial.memory)) l.player.ends l.player.tape.now l.initial.buffer;
      stands : Stands l.place l.player.tape.now l.buffer;
      slices : SameSlices l.initial.memory l.memory;
    }

abbrev pub decreases-loop-next : goal.decreases-loop-next
decreases-loop-next l = length l.player.tape.now - l.place.used
