-- Document 01, "Who may touch which page" and "The bench tape": two tapes on two devices, and that they agree. Definitions only.
use Rattle.std.specs.Prelude.{ℕ, Bool, List, ◌++◌, ◌≡◌}
use Rattle.shape.specs.Shape.{others}
use Rattle.tm32.specs.After.{Told}
use Rattle.tm32.specs.Run.{Event}
use Rattle.tape.specs.Play.{Playing}
use Rattle.tape.specs.Script.{script_of}
use Rattle.tape.specs.Stops.{Stop}
use Rattle.demands.specs.BenchTape.Shown.{closing_record, reply_records, sent_all}
use Rattle.demands.specs.Demand3.TwoDevices.{AlikeButOptions, is_protection_refusal}

-- The messages of a tape, each sent with room for any reply.
abbrev pub sent_by : Bool → List ℕ → List Event
sent_by ends tape = sent_all (script_of ends tape).messages

-- That two plays agree, where the caller of the first was told so much in all: the first wrote that and the record of what is wrong with the tape, if anything is; the second wrote the same, but for
-- the records of refusals for protection; both stopped for one reason, and the devices are alike.
pub record TapesAgree (told : List Told) (stop : Stop) (first second : Playing) : Type 0 where
  pub written : first.records ≡ reply_records told ++ closing_record stop
  pub others_written : second.records ≡ reply_records (others is_protection_refusal told) ++ closing_record stop
  pub stopped : first.stop ≡ stop
  pub other_stopped : second.stop ≡ stop
  pub alike : AlikeButOptions first.device second.device
