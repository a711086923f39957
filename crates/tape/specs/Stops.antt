-- Document 01, "The bench tape": why the player stops, and 01's numbers for it.
use Rattle.std.specs.Prelude.{ℕ, ◌≡◌, ◌≢◌, Result, MatchResult}
use Rattle.tm32.specs.After.{refusal_number}
use Rattle.tape.specs.declared.NoTapeError.{NoTapeError}
use Rattle.tape.specs.declared.Stop.{Stop as Stopped}
use Rattle.tape.specs.declared.Stop.TheVariants as code
use Rattle.tape.specs.declared.TapeError.{TapeError}
use Rattle.tape.specs.declared.TapeError.TheVariants.{CutShort, UnknownKind, TooLong}

-- What is wrong with a tape, by number.
abbrev pub cut_short : ℕ
cut_short = 1

abbrev pub unknown_kind : ℕ
unknown_kind = 2

abbrev pub body_too_long : ℕ
body_too_long = 3

-- The number of each error.
abbrev pub error_number : TapeError → ℕ
error_number CutShort = cut_short
error_number UnknownKind = unknown_kind
error_number TooLong = body_too_long

-- The other way round: the error that has a number, or that it is a number that none has.
abbrev pub Tells : ℕ → Result TapeError NoTapeError → Type 0
Tells number told =
    MatchResult told (λ error. error_number error ≡ number)
    (λ none. (none.0 ≡ number) × ((error : TapeError) → error_number error ≢ number))

-- Why the player stops, in numbers: 1 to 3 for what is wrong with a tape, 1 to 5 for a refusal of the device.
pub data Stop : Type 0 where
  MoreTape : Stop
  Room : Stop
  End : Stop
  Error : ℕ → Stop
  Refused : ℕ → Stop

-- The same of the stop that the player hands back.
abbrev pub stop_of : Stopped → Stop
stop_of code.MoreTape = MoreTape
stop_of code.Room = Room
stop_of code.End = End
stop_of (code.Error error) = Error (error_number error)
stop_of (code.Refused refusal) = Refused (refusal_number refusal)
