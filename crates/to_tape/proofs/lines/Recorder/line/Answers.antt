-- `to_tape::lines::Recorder::line` hands on a message that lies in its buffer: the law of the line says so.
use Rattle.std.proofs.Common.{ℕ, ◌≡◌, ◌≤◌, List, length, Option, Some, Result, Ok, sym, ap, subst, arith}
use Rattle.text.specs.Lines.{Outcome, lined, message_in, outcome}
use Rattle.text.specs.declared.LineError.{LineError}
use Rattle.text.proofs.Laws.{MessageFits, message_fits}
use Rattle.to_tape.proofs.lines.Recorder.line.Goals as goal

-- the message lies in its buffer
lies : (start : ℕ) (line scratch message scratch' message' : List ℕ) (size : ℕ) → outcome scratch' (lined (Ok (Some size)) message') ≡ message_in start line scratch message → size ≤ length message
lies start line scratch message scratch' message' size ensures =
    subst (λ (answer : Result (Option ℕ) LineError). MessageFits answer message) (sym (ap (λ (outcome : Outcome). outcome.line.answer) ensures)) (message_fits start line scratch message)

pub record-requires : goal.record-requires
record-requires g c = omega (arith, lies _ _ _ _ _ _ c.in-Ok-Some.size (rw c.in-Ok-Some.field-0-is at c.in-Ok-Some.ensures))
