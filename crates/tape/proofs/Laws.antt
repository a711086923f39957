-- The laws of the tape, record by record: what a message at its start tells, that a record which is written reads back, and what is played of it; and how much a block still holds. Callers go by these, with no definition of this crate opened.
-- Each follows by the tests that the definitions make, in their order. Assumes nothing.
use Prim.Native.Nat.{ℕ, zero, suc, ◌+◌, ◌-◌, ◌≤◌, ◌<◌, min}
use mathlib.Core.Bool.{Bool}
use mathlib.Core.List.{List, [], ◌∷◌, ◌++◌}
use mathlib.Core.Path.{◌≡◌, refl, sym, ap, ◌∙◌}
use native.Mathlib.Nat.{suc-add}
use native.Mathlib.Omega.{arith}
use borrow.Author.Tests.{le-ltb, lt-ltb}
use lib.ListN.{length, drop}
use Rattle.std.specs.Prelude.{Ok, Err}
use Rattle.std.proofs.lemmas.Grind.{common_steps}
use Rattle.frame.specs.Frame.{word, word_at}
use Rattle.frame.proofs.Laws.{whole_again}
use Rattle.memory.specs.Stores.{part}
use Rattle.tm32.specs.After.{no_reply, replied, reply_room, tell}
use Rattle.tm32.specs.Device.{Device}
use Rattle.tm32.specs.declared.Settings.{Settings}
use Rattle.tape.specs.Blocks.{rest_of}
use Rattle.tape.specs.Play.{behind, closing, onward, play, play_tape, record_room, reply_kind, stopped}
use Rattle.tape.specs.Records.{body_in, head, head_length, head_of, record_in, record_of}
use Rattle.tape.specs.Script.{headed, message_kind, most_body, next_in, next_of, script, script_from, script_of}
use Rattle.tape.specs.Stops.{Stop, Room, Refused}
use Rattle.tape.specs.declared.Found.TheVariants.{Whole}

-- What is known of a message at the start of a tape: how long its body is said to be, that this is no more than a body may have, that the kind is the one known, and that all of it is there.
pub record MessageAt (tape : List ℕ) (size : ℕ) : Type 0 where
  pub said : size ≡ word_at tape 0
  pub short : size ≤ most_body
  pub kind : word_at tape 2 ≡ message_kind
  pub whole : head_length + size ≤ length tape

-- ---- what stands at the start

module _ (ends : Bool) (tape : List ℕ) (size : ℕ) (is : next_in ends tape ≡ Ok size) where
  -- all that is known of a message at the start of a tape
  pub message_stands : MessageAt tape size
  unfolding record_in next_of
  message_stands = grind (arith, common_steps)

  -- it stands on the tape with all its body
  pub message_fits : head_length + size ≤ length tape
  message_fits = message_stands.whole

  -- which is as long as its head says
  pub message_said : size ≡ word_at tape 0
  message_said = message_stands.said

  -- and no longer than a body may be
  pub message_short : size ≤ most_body
  message_short = message_stands.short

  -- so its body has that length
  pub message_body : length (body_in tape size) ≡ size
  unfolding body_in
  message_body = grind (arith, common_steps, message_fits)

-- ---- a record that is written

module _ (kind : ℕ) (body rest : List ℕ) where
  -- it reads back whole, whatever stands behind it, where its head has room for what it says
  pub record_again : length body < 65536 → kind < 65536 → record_in (record_of kind body ++ rest) ≡ Whole (head (length body) kind)
  unfolding record_in record_of head_of word word_at
  record_again short small = grind (arith, common_steps, whole_again (length body) short, whole_again kind small)

  -- and so does its body
  pub body_again : body_in (record_of kind body ++ rest) (length body) ≡ body
  unfolding body_in record_of head_of word
  body_again = grind (arith, common_steps)

-- ---- the messages of a tape

-- the bytes that are passed over are dropped
pub passed_over : (ends : Bool) (passed : ℕ) (tape : List ℕ) → script_from ends passed tape ≡ script_of ends (drop passed tape)
unfolding script_from
passed_over ends zero tape = refl
passed_over ends (suc passed) [] = refl
passed_over ends (suc passed) (byte ∷ tape) = passed_over ends passed tape

module _ (ends : Bool) where
  -- behind a message come those of the rest of the tape
  pub next_message : (tape : List ℕ) (size : ℕ) → next_in ends tape ≡ Ok size
      → script_of ends tape ≡ script (body_in tape size ∷ (script_of ends (drop (head_length + size) tape)).messages) (script_of ends (drop (head_length + size) tape)).stop
  unfolding script_from headed
  next_message [] size is = grind (arith, message_fits ends [] size is)
  next_message (byte ∷ tape) size is =
      let rest : script_from ends (3 + word_at (byte ∷ tape) 0) tape ≡ script_of ends (drop (head_length + size) (byte ∷ tape)) =
      rw (← message_said ends (byte ∷ tape) size is) (passed_over ends (3 + size) tape ∙ ap (λ (passed : ℕ). script_of ends (drop passed (byte ∷ tape))) (sym (suc-add 3 size)))
      in
      rw (rest, is)

  -- where there is none, the tape has no other
  pub next_over : (tape : List ℕ) (stop : Stop) → next_in ends tape ≡ Err stop → script_of ends tape ≡ script [] stop
  unfolding script_from headed next_of record_in
  next_over [] stop is = grind (arith, common_steps)
  next_over (byte ∷ tape) stop is = rw is

-- ---- a tape played

module _ (settings : Settings) (device : Device) (ends : Bool) (room : ℕ) (tape : List ℕ) where
  -- where there is no message, the player stops
  pub plays_over : (stop : Stop) → next_in ends tape ≡ Err stop → play_tape settings device ends room tape ≡ closing device room stop
  unfolding play_tape play
  plays_over stop is = rw (next_over ends tape stop is)

  module _ (size : ℕ) (is : next_in ends tape ≡ Ok size) where
    -- a message is not played where a record may not have room
    pub plays_cramped : room < record_room → play_tape settings device ends room tape ≡ stopped device Room
    unfolding play_tape play
    plays_cramped small = rw (next_message ends tape size is, lt-ltb room record_room small)

    -- nor is one that the device refuses
    pub plays_refused : (number : ℕ) → record_room ≤ room → (tell settings device (body_in tape size) reply_room).told ≡ no_reply number
        → play_tape settings device ends room tape ≡ stopped device (Refused number)
    unfolding play_tape play onward
    plays_refused number large refusal = rw (next_message ends tape size is, le-ltb room record_room large, refusal)

    -- a reply goes into a record, and the rest of the tape is played
    pub plays_reply : (bytes : List ℕ) → record_room ≤ room → (tell settings device (body_in tape size) reply_room).told ≡ replied bytes
        → play_tape settings device ends room tape
        ≡ behind (head_length + size) (record_of reply_kind bytes)
        (play_tape settings (tell settings device (body_in tape size) reply_room).device ends (room - (head_length + length bytes)) (drop (head_length + size) tape))
    unfolding play_tape play onward
    plays_reply bytes large reply = rw (next_message ends tape size is, le-ltb room record_room large, reply, message_body ends tape size is)

-- ---- a block that a tape is read into

-- what is left is as long as the block and what it holds allow
pub rest_length : (block : List ℕ) (used held : ℕ) → length (rest_of block used held) ≡ min held (length block) - used
unfolding rest_of part
rest_length block used held = grind (arith, common_steps)
