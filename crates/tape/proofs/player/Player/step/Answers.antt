-- `tape::player::Player::step` meets its contract: what stands next on the tape picks the definition's case.
use Prim.Native.Nat.{ℕ, ◌-◌, ◌≤◌}
use mathlib.Core.Bool.{Bool}
use mathlib.Core.List.{List}
use mathlib.Core.Path.{◌≡◌, sym, ap, ◌∙◌}
use native.Mathlib.Omega.{arith}
use lib.ListN.{length, drop, length-drop, take}
use Rattle.std.specs.Prelude.{Ok}
use Rattle.std.proofs.lemmas.Result.{err_from_is_err_and}
use Rattle.tm32.specs.After.{reply_room}
use Rattle.tape.specs.Records.{body_in}
use Rattle.tape.specs.Script.{Next, next_in}
use Rattle.tape.proofs.Buffers.{rest_is}
use Rattle.tape.proofs.Laws.{message_body, message_fits}
use Rattle.tape.proofs.Stepping.{cramped_steps, over_steps, refused_steps, reply_short, reply_steps}
use Rattle.tape.proofs.player.Player.step.Goals as goal
use Rattle.tape.proofs.player.Player.step.Goals.{After-answer-turn}

-- what is lent of the tape is all of it from there on, so what was found there is what the definition finds
found : (ends : Bool) (used : ℕ) (tape : List ℕ) (next : Next) → next ≡ next_in ends (take (length tape - used) (drop used tape)) → next_in ends (drop used tape) ≡ next
found ends used tape next told = sym (told ∙ ap (next_in ends) (rest_is used tape))

module _ (c : After-answer-turn) where
  -- a message stands there
  message : next_in c.args.self.now.ends (drop c.args.place.used c.args.self.now.tape.now) ≡ Ok c.in_ok-length.length
  message = found _ c.args.place.used c.args.self.now.tape.now _ c.in_ok-length.ensures

  -- with this body
  body : c.body_of-message.result.now ≡ body_in (drop c.args.place.used c.args.self.now.tape.now) c.in_ok-length.length
  body = c.body_of-message.ensures ∙ ap (λ (list : List ℕ). body_in list c.in_ok-length.length) (rest_is c.args.place.used c.args.self.now.tape.now)

  -- a reply is short
  short : (count : ℕ) → c.answer-turn.result.answer ≡ Ok count → count ≤ reply_room
  short = reply_short _ _ _ _ _ _ c.requires _ message c.if-buffer-place-lt-RECORD_ROOM.false _ body c.answer-turn.result _ _ c.answer-turn.auto.buffer c.answer-turn.ensures.outcome

pub returns-in_err-length-clause-outcome : goal.returns-in_err-length-clause-outcome
returns-in_err-length-clause-outcome c =
    let stop = err_from_is_err_and c.from_residual.result c.from_residual.ensures.1 in
    rw (stop.1, stop.2) (over_steps _ _ _ _ _ _ c.requires _ (found _ c.args.place.used c.args.self.now.tape.now _ c.in_err-length.ensures))

pub returns-then-buffer-place-lt-RECORD_ROOM-clause-outcome : goal.returns-then-buffer-place-lt-RECORD_ROOM-clause-outcome
returns-then-buffer-place-lt-RECORD_ROOM-clause-outcome c =
    cramped_steps _ _ _ _ _ _ c.requires _ (found _ c.args.place.used c.args.self.now.tape.now _ c.in_ok-length.ensures) c.if-buffer-place-lt-RECORD_ROOM.true

pub returns-in_err-reply-clause-outcome : goal.returns-in_err-reply-clause-outcome
returns-in_err-reply-clause-outcome c =
    let at = (goal.at.returns-in_err-reply-clause-outcome c).After-answer-turn in
    let stop = err_from_is_err_and c.from_residual-in_err-reply.result c.from_residual-in_err-reply.ensures.1 in
    rw (stop.1, stop.2)
    (refused_steps _ _ _ _ _ _ c.requires _ (message at) c.if-buffer-place-lt-RECORD_ROOM.false _ (body at) c.answer-turn.result _ _ c.answer-turn.auto.buffer c.answer-turn.ensures.outcome _ c.in_err-reply.was)

pub overflow_cast-head : goal.overflow_cast-head
overflow_cast-head c =
    omega (arith, short (goal.at.overflow_cast-head c).After-answer-turn _ c.in_ok-reply.was)

pub overflow_add-result-2 : goal.overflow_add-result-2
overflow_add-result-2 c =
    let at = (goal.at.overflow_add-result-2 c).After-answer-turn in
    omega (
      arith,
      ap length (body at),
      message_body _ _ _ (message at),
      message_fits _ _ _ (message at),
      length-drop c.args.place.used c.args.self.now.tape.now,
      c.requires.used,
      c.well_formed,
    )

pub overflow_add-result-4 : goal.overflow_add-result-4
overflow_add-result-4 c =
    omega (arith, short (goal.at.overflow_add-result-4 c).After-answer-turn _ c.in_ok-reply.was, c.if-buffer-place-lt-RECORD_ROOM.false, c.well_formed)

pub returns-clause-outcome : goal.returns-clause-outcome
returns-clause-outcome c =
    let at = (goal.at.returns-clause-outcome c).After-answer-turn in
    reply_steps _ _ _ _ _ _ c.requires _ (message at) c.if-buffer-place-lt-RECORD_ROOM.false _ (body at) c.answer-turn.result _ _ c.answer-turn.auto.buffer c.answer-turn.ensures.outcome _ c.in_ok-reply.was _ c.put_head.ensures
