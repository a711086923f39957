-- `tape::player::Place::close` meets its contract: only an error writes anything, and only where its record has room.
use Prim.Native.Nat.{ℕ, ◌+◌, ◌-◌, ◌≤◌, ◌<◌}
use mathlib.Core.List.{List, [], ◌∷◌}
use mathlib.Core.Path.{◌≡◌, refl, sym, ◌∙◌}
use native.Mathlib.Nat.{add-zero}
use borrow.Author.Tests.{lt-ltb, le-ltb}
use lib.ListN.{length}
use Rattle.frame.specs.Frame.{word}
use Rattle.tm32.specs.Device.{Memory}
use Rattle.tape.specs.Play.{closing, error_kind, left_by, record_room}
use Rattle.tape.specs.Promises.{closed, off_at, written_at}
use Rattle.tape.specs.Records.{head_of, record_of}
use Rattle.tape.specs.Stops.{error_number}
use Rattle.tape.specs.declared.Stop.{Stop}
use Rattle.tape.specs.declared.Stop.TheVariants.{MoreTape, Room, End, Error, Refused}
use Rattle.tape.specs.declared.TapeError.{TapeError}
use Rattle.tape.specs.declared.player.Place.{Place}
use Rattle.tape.proofs.Buffers.{put_laid, stops}
use Rattle.tape.proofs.player.Place.close.Goals as goal

module _ (place : Place) (buffer : List ℕ) (memory : Memory) where
  -- a stop that is no error writes nothing
  silent : (stop : Stop) → ((error : TapeError) → stop ≡ Error error → ⊥) → left_by (off_at place stop) memory buffer ≡ closed place stop memory buffer
  unfolding closing
  silent MoreTape other = stops place memory buffer MoreTape
  silent Room other = stops place memory buffer Room
  silent End other = stops place memory buffer End
  silent (Error error) other = absurd (other error refl)
  silent (Refused refusal) other = stops place memory buffer (Refused refusal)

  -- nor does an error without room
  cramped : (error : TapeError) → length buffer - place.written < record_room → left_by (off_at place Room) memory buffer ≡ closed place (Error error) memory buffer
  unfolding closing
  cramped error small = stops place memory buffer Room ∙ sym (simp (lt-ltb _ _ small))

  -- its record
  told : (error : TapeError) (after : List ℕ) → record_room ≤ length buffer - place.written → after ≡ written_at place.written (record_of error_kind (error_number error ∷ [])) buffer
      → left_by (record { session = place.session; used = place.used; written = place.written + 5; stop = Error error }) memory after ≡ closed place (Error error) memory buffer
  unfolding closing record_of head_of word
  told error after large over = sym (simp (le-ltb _ _ large, add-zero, sym over))

pub returns-in_default : goal.returns-in_default
returns-in_default c memory = rw c.off.ensures (silent _ _ memory _ c.in_default.not-Error)

pub returns-then-buffer-self-lt-RECORD_ROOM : goal.returns-then-buffer-self-lt-RECORD_ROOM
returns-then-buffer-self-lt-RECORD_ROOM c memory =
    rw (c.off-then-buffer-self-lt-RECORD_ROOM.ensures, c.in-Error.is) (cramped _ _ memory _ c.if-buffer-self-lt-RECORD_ROOM.true)

pub returns : goal.returns
returns c memory =
    rw (c.off-2.ensures, c.in-Error.is)
    (told _ _ memory _ _ c.if-buffer-self-lt-RECORD_ROOM.false (put_laid c.args.self.written c.args.buffer.now _ _ c.put_error.ensures))
