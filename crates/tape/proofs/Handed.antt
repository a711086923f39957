-- What the player hands back lies inside what it was lent; and where it wants more tape, what it left unused is shorter than a record may be.
use Prim.Native.Nat.{ℕ, ◌+◌, ◌-◌, ◌≤◌, ◌<◌}
use mathlib.Core.Bool.{Bool}
use mathlib.Core.List.{List}
use mathlib.Core.Path.{◌≡◌, ap}
use native.Mathlib.Omega.{arith}
use lib.ListN.{length}
use Rattle.std.specs.Prelude.{Err}
use Rattle.std.proofs.lemmas.Grind.{common_steps}
use Rattle.tm32.specs.Device.{Device, Memory}
use Rattle.tm32.specs.declared.Settings.{Settings}
use Rattle.tape.specs.Play.{Playing, left_by, played}
use Rattle.tape.specs.Records.{head_length, record_in}
use Rattle.tape.specs.Script.{most_body, next_in, next_of}
use Rattle.tape.specs.Stops.{MoreTape, stop_of}
use Rattle.tape.specs.declared.Played.{Played}
use Rattle.tape.specs.declared.Stop.TheVariants as code
use Rattle.tape.proofs.Laws.{message_fits}
use Rattle.tape.proofs.Buffers.{laid_fits}
use Rattle.tape.proofs.Ways.{Goes, closing_stop, cramped, goes_so, onward, over, refused}

-- a tape of which more is wanted is shorter than a record may be
short_of : (ends : Bool) (tape : List ℕ) → next_in ends tape ≡ Err MoreTape → length tape < head_length + most_body
unfolding record_in next_of
short_of ends tape wants = grind (arith, common_steps)

-- ---- each way of a tape

module _ (settings : Settings) (ends : Bool) where
  -- no more is used than there is
  used_inside : {device : Device} {tape : List ℕ} {done : Playing} → Goes settings ends device tape done → done.used ≤ length tape
  used_inside {device} (over stop is) = grind (arith, closing_stop device stop)
  used_inside cramped = omega arith
  used_inside (refused size number is says) = omega arith
  used_inside {device} {tape} (onward size bytes rest is says goes) = grind (arith, common_steps, used_inside goes, message_fits ends tape size is)

  -- where more is wanted, less is left than a record may have
  rest_short : {device : Device} {tape : List ℕ} {done : Playing} → Goes settings ends device tape done → done.stop ≡ MoreTape → length tape - done.used < head_length + most_body
  rest_short {device} (over stop is) wants = grind (arith, closing_stop device stop, short_of)
  rest_short cramped wants = grind arith
  rest_short (refused size number is says) wants = grind arith
  rest_short {device} {tape} (onward size bytes rest is says goes) wants = grind (arith, common_steps, rest_short goes wants, message_fits ends tape size is)

-- ---- what the player hands back

-- each lies in what it was lent, as laid down
module _ (settings : Settings) (device : Device) (ends : Bool) (tape buffer : List ℕ) where
  pub used_within : (played settings device ends tape buffer).used ≤ length tape
  unfolding played
  used_within = used_inside settings ends (goes_so settings ends device (length buffer) tape)

  pub written_within : length (played settings device ends tape buffer).buffer ≡ length buffer → (played settings device ends tape buffer).written ≤ length buffer
  unfolding played
  written_within same = laid_fits _ buffer same

  pub short_within : (played settings device ends tape buffer).stop ≡ MoreTape → length tape - (played settings device ends tape buffer).used < head_length + most_body
  unfolding played
  short_within wants = rest_short settings ends (goes_so settings ends device (length buffer) tape) wants

-- where the player wants more tape, what it left is shorter than a record may be
pub handed_short : (settings : Settings) (device : Device) (ends : Bool) (tape buffer : List ℕ) (handed : Played) (memory : Memory) (buffer' : List ℕ)
    → left_by handed memory buffer' ≡ played settings device ends tape buffer → handed.stop ≡ code.MoreTape → length tape - handed.used < head_length + most_body
handed_short settings device ends tape buffer handed memory buffer' did wants = grind (arith, short_within settings device ends tape buffer, ap stop_of wants)
