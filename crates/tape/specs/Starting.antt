-- Document 01, "The bench tape": lent memory made that of a fresh device.
use Rattle.std.specs.Prelude.{ℕ, cond, eqb, Result, Ok, Err}
use Rattle.std.specs.Result.{result_map_both}
use Rattle.tm32.specs.After.{call_checks, refusal_number, reply_room}
use Rattle.tm32_asks.specs.Checks.{verdict}
use Rattle.tm32.specs.Device.{Memory, with_memory}
use Rattle.tm32.specs.Fresh.{fresh_device}
use Rattle.tm32.specs.declared.Refusal.{Refusal}
use Rattle.tm32.specs.declared.Session.{Session}

-- What comes of it: the answer, and the memory afterwards.
pub record Start : Type 0 where
  pub answer : Result Session ℕ
  pub memory : Memory

-- The two put together.
abbrev pub started : Result Session ℕ → Memory → Start
started answer memory = record { answer = answer; memory = memory }

-- The same, from what is handed back.
abbrev pub started_by : Result Session Refusal → Memory → Start
started_by handed memory = started (result_map_both (λ session. session) refusal_number handed) memory

-- Memory that a fresh session would be refused a message for, its lengths being others, is refused with the same number, 1 to 3, and stays as it was.
unfoldable pub starting : Memory → Start
starting memory =
    let number : ℕ = verdict 0 (call_checks (with_memory fresh_device memory) reply_room) in
    cond (eqb number 0) (started (Ok fresh_device.session) fresh_device.memory) (started (Err number) memory)
