-- Document 01, "The bench tape": the messages that a tape holds, and what comes behind the last of them.
use Rattle.std.specs.Prelude.{ℕ, zero, suc, ◌+◌, Bool, cond, not, List, [], ◌∷◌, eqb, ltb, Result, Ok, Err}
use Rattle.frame.specs.Frame.{word_at}
use Rattle.tape.specs.Records.{body_in, record_in}
use Rattle.tape.specs.Stops.{Stop, MoreTape, End, Error, body_too_long, cut_short, unknown_kind}
use Rattle.tape.specs.declared.Found.{Found}
use Rattle.tape.specs.declared.Found.TheVariants.{Nothing, HeadCut, BodyCut, Whole}

-- The only kind known on input.
abbrev pub message_kind : ℕ
message_kind = 1

-- The most that a body may have.
abbrev pub most_body : ℕ
most_body = 2048

-- What stands at the start of a tape for the player: a message, with how long its body is, or why there is none.
abbrev pub Next : Type 0
Next = Result ℕ Stop

-- Where a tape stops short of a record: what that comes to if the input ends there, and a wish for more tape if it goes on.
abbrev pub cut : Bool → Stop → Next
cut ends stop = Err (cond ends stop MoreTape)

-- A whole head is judged for its length, and then for its kind, whether or not its body is there.
abbrev pub judged : ℕ → ℕ → Next → Next
judged size kind next =
    cond (ltb most_body size) (Err (Error body_too_long))
    (cond (not (eqb kind message_kind)) (Err (Error unknown_kind))
    next)

-- What a record is for the player.
unfoldable pub next_of : Bool → Found → Next
next_of ends Nothing = cut ends End
next_of ends HeadCut = cut ends (Error cut_short)
next_of ends (BodyCut head) = judged head.length head.kind (cut ends (Error cut_short))
next_of ends (Whole head) = judged head.length head.kind (Ok head.length)

-- What stands at the start of a tape, told whether the input ends where the tape does.
abbrev pub next_in : Bool → List ℕ → Next
next_in ends tape = next_of ends (record_in tape)

-- A tape as the player sees it: messages, and why there is no other behind them.
pub record Script : Type 0 where
  pub messages : List (List ℕ)
  pub stop : Stop

-- The two put together.
abbrev pub script : List (List ℕ) → Stop → Script
script messages stop = record { messages = messages; stop = stop }

-- The message that stands at the start of a tape, before those of the rest; or none.
unfoldable pub headed : List ℕ → Script → Next → Script
headed tape rest (Ok size) = script (body_in tape size ∷ rest.messages) rest.stop
headed tape rest (Err stop) = script [] stop

-- The messages of a tape from so many bytes on: those bytes are passed over, then comes a record. Its first byte is taken here, so the other three of its
-- head, and its body, are still to be passed over before the next.
unfoldable pub script_from : Bool → ℕ → List ℕ → Script
script_from ends (suc passed) (byte ∷ tape) = script_from ends passed tape
script_from ends zero (byte ∷ tape) = headed (byte ∷ tape) (script_from ends (3 + word_at (byte ∷ tape) 0) tape) (next_in ends (byte ∷ tape))
script_from ends passed [] = script [] (cond ends End MoreTape)

-- The messages of a tape.
abbrev pub script_of : Bool → List ℕ → Script
script_of ends tape = script_from ends 0 tape
