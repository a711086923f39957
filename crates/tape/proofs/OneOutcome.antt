-- No two stops of the player are told by the same numbers: so a promise in numbers fixes the stop itself.
use Prim.Native.Nat.{ℕ}
use mathlib.Core.Bool.{cond}
use mathlib.Core.Path.{◌≡◌, refl, sym, ap, ◌∙◌}
use lib.Dec.{eqb}
use Rattle.tm32.proofs.OneOutcome.{refusal_back, refusal_told}
use Rattle.std.specs.Prelude.{Result, Ok, Err}
use Rattle.tape.specs.Stops.{Stop, Tells, MoreTape, Room, End, Error, Refused, cut_short, error_number, stop_of, unknown_kind}
use Rattle.tape.specs.declared.Stop.{Stop as Stopped}
use Rattle.tape.specs.declared.Stop.TheVariants as code
use Rattle.tape.specs.declared.NoTapeError.{NoTapeError}
use Rattle.tape.specs.declared.TapeError.{TapeError}
use Rattle.tape.specs.declared.TapeError.TheVariants.{CutShort, UnknownKind, TooLong}

-- The error that a number tells, and so the stop. A number that tells none is read as the last.
abbrev error_told : ℕ → TapeError
error_told number = cond (eqb number cut_short) CutShort (cond (eqb number unknown_kind) UnknownKind TooLong)

abbrev stop_told : Stop → Stopped
stop_told MoreTape = code.MoreTape
stop_told Room = code.Room
stop_told End = code.End
stop_told (Error number) = code.Error (error_told number)
stop_told (Refused number) = code.Refused (refusal_told number)

error_back : (error : TapeError) → error_told (error_number error) ≡ error
error_back CutShort = refl
error_back UnknownKind = refl
error_back TooLong = refl

stop_back : (stop : Stopped) → stop_told (stop_of stop) ≡ stop
stop_back code.MoreTape = refl
stop_back code.Room = refl
stop_back code.End = refl
stop_back (code.Error error) = ap code.Error (error_back error)
stop_back (code.Refused refusal) = ap code.Refused (refusal_back refusal)

-- two stops that are told alike are the same
pub same_stop : (one other : Stopped) → stop_of one ≡ stop_of other → one ≡ other
same_stop one other same = sym (stop_back one) ∙ ap stop_told same ∙ stop_back other

-- two errors with one number are the same
same_error : (one other : TapeError) → error_number one ≡ error_number other → one ≡ other
same_error one other same = sym (error_back one) ∙ ap error_told same ∙ error_back other

-- so no two answers satisfy the contract of `TapeError::try_from`
pub found_once : (number : ℕ) (one other : Result TapeError NoTapeError) → Tells number one → Tells number other → one ≡ other
found_once number (Ok one) (Ok other) first second = ap Ok (same_error one other (first ∙ sym second))
found_once number (Ok one) (Err other) first second = absurd (second.1 one first)
found_once number (Err one) (Ok other) first second = absurd (first.1 other second)
found_once number (Err one) (Err other) first second = ap (λ (none : ℕ). Err (record { 0 = none })) (first.0 ∙ sym second.0)
