-- `tape::player::play` meets its contract: what its loop keeps says so at the end.
use Prim.Native.Nat.{ℕ}
use mathlib.Core.Bool.{Bool}
use mathlib.Core.List.{List}
use mathlib.Core.Path.{◌≡◌, ◌∙◌}
use native.Mathlib.Nat.{sub-zero, zero-add}
use borrow.Author.Rules.{rules}
use Rattle.tm32.specs.Device.{Memory, device_of}
use Rattle.tm32.specs.declared.Session.{Session}
use Rattle.tm32.specs.declared.Settings.{Settings}
use Rattle.tape.specs.Play.{played}
use Rattle.tape.specs.Promises.{from}
use Rattle.tape.proofs.player.play.Goals as goal

-- what the whole tape leaves behind is what it leaves from its start
from_start : (settings : Settings) (ends : Bool) (tape : List ℕ) (session : Session) (memory : Memory) (buffer : List ℕ)
    → from settings ends tape (record { session = session; used = 0; written = 0 }) memory buffer ≡ played settings (device_of session memory) ends tape buffer
unfolding from played
from_start settings ends tape session memory buffer = simp (sub-zero, zero-add)

pub loop-next-init : goal.loop-next-init
loop-next-init c = record { same = from_start _ _ _ _ _ _; stands = search rules; slices = search rules }

pub loop-next-preserved : goal.loop-next-preserved
loop-next-preserved c =
    let did = c.in-Ok.ensures.outcome in
    record { same = did.same ∙ c.loop-next.invariant.same; stands = did.further.1; slices = search rules }

pub returns-in-Err-clause-outcome : goal.returns-in-Err-clause-outcome
returns-in-Err-clause-outcome c = c.close.ensures _ ∙ c.in-Err.ensures.outcome.same ∙ c.loop-next.invariant.same
