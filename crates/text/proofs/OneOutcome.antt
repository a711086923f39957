-- No two outcomes satisfy the contracts of `bytes_in` and `message_in`: each is an equation, and what came out is put together so that the same whole has the same parts, the answer and
-- every lent buffer.
use Rattle.std.proofs.Common.{◌≡◌, ℕ, List, ap, sym, ◌∙◌, Option, Result}
use Rattle.text.specs.Hex.{Read, read}
use Rattle.text.specs.Lines.{Outcome, lined, outcome}
use Rattle.text.specs.declared.HexError.{HexError}
use Rattle.text.specs.declared.LineError.{LineError}

-- bytes_in
pub bytes_in_once : (one other : Result ℕ HexError) (buffer buffer' : List ℕ) (right : Read)
    → read one buffer ≡ right → read other buffer' ≡ right → (one ≡ other) × (buffer ≡ buffer')
bytes_in_once one other buffer buffer' right first second =
    let same = first ∙ sym second in
    (ap (λ (r : Read). r.answer) same, ap (λ (r : Read). r.buffer) same)

-- message_in
pub message_in_once : (one other : Result (Option ℕ) LineError) (scratch scratch' message message' : List ℕ) (right : Outcome)
    → outcome scratch (lined one message) ≡ right → outcome scratch' (lined other message') ≡ right
    → (one ≡ other) × (scratch ≡ scratch') × (message ≡ message')
message_in_once one other scratch scratch' message message' right first second =
    let same = first ∙ sym second in
    (ap (λ (o : Outcome). o.line.answer) same, ap (λ (o : Outcome). o.scratch) same, ap (λ (o : Outcome). o.line.message) same)
