-- What the player's steps leave of the buffer and of the counts, on plain lists and numbers.
use Prim.Native.Nat.{ℕ, ◌+◌, ◌-◌, ◌≤◌}
use mathlib.Core.List.{List, ◌++◌, append_assoc}
use mathlib.Core.Path.{◌≡◌, refl, sym, ap, ◌∙◌}
use native.Mathlib.Omega.{arith}
use borrow.Rule.Slice.PartMut.{mid_of, put_mid}
use lib.ListN.{length, take, drop, take-append-drop}
use lib.Seq.{drop-append-le, paste}
use Rattle.std.proofs.lemmas.Grind.{common_steps}
use Rattle.std.proofs.lemmas.List.Edits.{paste-paste}
use Rattle.frame.specs.Frame.{laid, word}
use Rattle.tm32.specs.Device.{Memory, device_of}
use Rattle.tape.specs.Play.{Playing, behind, left_by, stopped}
use Rattle.tape.specs.Promises.{ends_with, off_at, written_at}
use Rattle.tape.specs.Records.{head_length, head_of, record_of}
use Rattle.tape.specs.Stops.{stop_of}
use Rattle.tape.specs.declared.Stop.{Stop}
use Rattle.tape.specs.declared.player.Place.{Place}

-- as many bytes as there are from a place on are all of them
pub rest_is : (place : ℕ) (list : List ℕ) → take (length list - place) (drop place list) ≡ drop place list
rest_is place list = grind (arith, common_steps)

-- bytes laid over a list that keeps its length are no more than it has
pub laid_fits : (bytes list : List ℕ) → length (laid bytes list) ≡ length list → length bytes ≤ length list
unfolding laid
laid_fits bytes list same = grind (arith, common_steps)

-- how long a record is
pub record_length : (kind : ℕ) (body : List ℕ) → length (record_of kind body) ≡ head_length + length body
unfolding record_of head_of word
record_length kind body = grind (arith, common_steps)

-- ---- what is written

-- records laid over the rest of a buffer, from a place on
pub put_laid : (place : ℕ) (buffer records got : List ℕ) → got ≡ laid records (mid_of place (length buffer - place) buffer)
    → put_mid place (length buffer - place) buffer got ≡ written_at place records buffer
unfolding laid
put_laid place buffer records got is = grind (arith, common_steps)

-- bytes laid over the front of a list are laid over the list
over_front : (bytes list : List ℕ) (count : ℕ) → length bytes ≤ length (take count list) → laid bytes (take count list) ++ drop count list ≡ laid bytes list
unfolding laid
over_front bytes list count fits =
    append_assoc bytes (drop (length bytes) (take count list)) (drop count list)
    ∙ ap (λ (rest : List ℕ). bytes ++ rest)
    (sym (drop-append-le (length bytes) (take count list) (drop count list) fits) ∙ ap (drop (length bytes)) (take-append-drop count list))

-- a body behind the place of a head, with the head laid before it, is a record
before_it : (kind : ℕ) (body part : List ℕ) → head_length ≤ length part
    → laid (head_of (length body) kind) (take head_length part ++ laid body (drop head_length part)) ≡ laid (record_of kind body) part
unfolding laid record_of head_of word
before_it kind body part inside = grind (arith, common_steps, append_assoc)

pub with_head : (kind : ℕ) (body part : List ℕ) (room : ℕ) → head_length ≤ length part → length body ≤ length (mid_of head_length room part)
    → laid (head_of (length body) kind) (put_mid head_length room part (laid body (mid_of head_length room part))) ≡ laid (record_of kind body) part
with_head kind body part room inside fits =
    ap (λ (rest : List ℕ). laid (head_of (length body) kind) (take head_length part ++ rest)) (over_front body (drop head_length part) room fits) ∙ before_it kind body part inside

-- ---- two records written one behind the other

-- what is written at a place is pasted there
as_paste : (place : ℕ) (records buffer : List ℕ) → written_at place records buffer ≡ paste buffer place records (length records)
unfolding laid
as_paste place records buffer = grind (arith, common_steps)

module _ (place : ℕ) (buffer one : List ℕ) (inside : place ≤ length buffer) where
  -- what is written behind a record is written with it
  written_behind : (other : List ℕ) → written_at (place + length one) other (written_at place one buffer) ≡ written_at place (one ++ other) buffer
  written_behind other =
      as_paste (place + length one) other _
      ∙ ap (λ (list : List ℕ). paste list (place + length one) other (length other)) (as_paste place one buffer)
      ∙ paste-paste buffer place one other (length one) (length other) refl refl inside
      ∙ grind (arith, common_steps, as_paste place (one ++ other) buffer)

  -- and so it is with the counts
  pub counted_behind : (used count : ℕ) (play : Playing) → ends_with (used + count) (place + length one) (written_at place one buffer) play ≡ ends_with used place buffer (behind count one play)
  counted_behind used count play = grind (arith, common_steps, written_behind play.records)

-- a stop at which nothing is written
pub stops : (place : Place) (memory : Memory) (buffer : List ℕ) (stop : Stop)
    → left_by (off_at place stop) memory buffer ≡ ends_with place.used place.written buffer (stopped (device_of place.session memory) (stop_of stop))
unfolding laid
stops place memory buffer stop = grind (arith, common_steps)
