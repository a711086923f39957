-- What stands at the start of a tape is the same once more of the tape is there, unless more of it was wished for: the tests look at the head, and at whether the body is there. Assumes nothing.
use Prim.Native.Nat.{ℕ, ◌+◌, ◌≤◌, ◌<◌}
use mathlib.Core.Bool.{Bool, false, cond}
use mathlib.Core.List.{List, ◌++◌}
use mathlib.Core.Path.{◌≡◌}
use native.Mathlib.Omega.{arith}
use lib.Dec.{ltb}
use lib.ListN.{length, drop}
use Rattle.std.specs.Prelude.{Ok, Err}
use Rattle.std.proofs.lemmas.Grind.{common_steps}
use Rattle.frame.specs.Frame.{word_at}
use Rattle.tape.specs.Records.{body_in, head_length, record_in}
use Rattle.tape.specs.Script.{Next, cut, judged, next_in, next_of}
use Rattle.tape.specs.Stops.{Stop, Error, MoreTape, cut_short}
use Rattle.tape.proofs.Laws.{MessageAt, message_fits}

-- What the tests of a body say, where a head is let through.
abbrev pub body_of : Bool → List ℕ → Next
body_of ends tape = cond (ltb (length tape) (head_length + word_at tape 0)) (cut ends (Error cut_short)) (Ok (word_at tape 0))

-- a whole head is judged, and then its body
pub head_judged : (ends : Bool) (tape : List ℕ) → head_length ≤ length tape → next_in ends tape ≡ judged (word_at tape 0) (word_at tape 2) (body_of ends tape)
unfolding record_in next_of
head_judged ends tape whole = grind (arith, common_steps)

-- a message is one by what is known of it
pub message_is : (ends : Bool) (tape : List ℕ) (size : ℕ) → MessageAt tape size → next_in ends tape ≡ Ok size
unfolding record_in next_of
message_is ends tape size at = grind (arith, common_steps)

module _ (tape more : List ℕ) where
  -- a head says the same
  word_longer : (place : ℕ) → place + 1 < length tape → word_at (tape ++ more) place ≡ word_at tape place
  unfolding word_at
  word_longer place inside = grind (arith, common_steps)

  module _ (size : ℕ) (is : next_in false tape ≡ Ok size) where
    -- a message is still there
    pub message_longer : (ends : Bool) → next_in ends (tape ++ more) ≡ Ok size
    unfolding record_in next_of
    message_longer ends = grind (arith, common_steps, word_longer)

    -- with the same body
    pub body_longer : body_in (tape ++ more) size ≡ body_in tape size
    unfolding body_in
    body_longer = grind (arith, common_steps, message_fits false tape size is)

    -- and with more behind it
    pub rest_longer : drop (head_length + size) (tape ++ more) ≡ drop (head_length + size) tape ++ more
    rest_longer = grind (arith, common_steps, message_fits false tape size is)

  -- what is wrong with a head is still wrong
  pub over_longer : (ends : Bool) (stop : Stop) → next_in false tape ≡ Err stop → ¬ (stop ≡ MoreTape) → next_in ends (tape ++ more) ≡ Err stop
  unfolding record_in next_of
  over_longer ends stop is other = grind (arith, common_steps, word_longer)
