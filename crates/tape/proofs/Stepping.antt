-- A step does what the tape asks for at a place: the definition's one record more, seen from the place where the player stands.
use Prim.Native.Nat.{ℕ, ◌+◌, ◌-◌, ◌≤◌, ◌<◌}
use mathlib.Core.Bool.{Bool}
use mathlib.Core.List.{List}
use mathlib.Core.Path.{◌≡◌, sym, ap, ap₂, ◌∙◌}
use native.Mathlib.Nat.{le_refl}
use native.Mathlib.Omega.{arith}
use borrow.Rule.Slice.PartMut.{mid_len, mid_of, put_same, put_mid}
use lib.ListN.{length, drop, length-drop}
use lib.Seq.{drop-drop, length-take-le}
use Rattle.std.specs.Prelude.{Ok, Err}
use Rattle.std.proofs.lemmas.Grind.{common_steps}
use Rattle.frame.specs.Frame.{laid}
use Rattle.tm32.specs.After.{Telling, Told, after, lay, no_reply, refusal_number, replied, reply_room, tell}
use Rattle.tm32.specs.Device.{Device, Memory, device_of}
use Rattle.tm32.specs.Promises.{leaves}
use Rattle.tm32.specs.declared.Refusal.{Refusal}
use Rattle.tm32.specs.declared.Settings.{Settings}
use Rattle.tm32.specs.declared.Turn.{Turn}
use Rattle.tm32.proofs.Answers.{without_reply}
use Rattle.tape.specs.Play.{closing, record_room, reply_kind, stopped}
use Rattle.tape.specs.Promises.{Stands, Stepped, ends_with, from, written_at}
use Rattle.tape.specs.Records.{body_in, head_length, head_of, record_of}
use Rattle.tape.specs.Script.{next_in}
use Rattle.tape.specs.Stops.{stop_of}
use Rattle.tape.specs.declared.Stop.{Stop}
use Rattle.tape.specs.declared.Stop.TheVariants.{Refused, Room}
use Rattle.tape.specs.declared.player.Place.{Place}
use Rattle.tape.proofs.Buffers.{counted_behind, laid_fits, put_laid, record_length, with_head}
use Rattle.tape.proofs.Laws.{message_body, message_fits, plays_cramped, plays_over, plays_refused, plays_reply}

-- ---- what the device tells

-- A reply of so many bytes was told and laid over what was lent for it; or a number was told, and nothing has changed.
pub record Heard (lent : List ℕ) (device : Device) (told : Told) (device' : Device) (count : ℕ) (got bytes : List ℕ) : Type 0 where
  pub says : told ≡ replied bytes
  pub counts : count ≡ length bytes
  pub same : device' ≡ device
  pub over : got ≡ laid bytes lent

pub record Unheard (lent : List ℕ) (device : Device) (told : Told) (device' : Device) (number : ℕ) (got : List ℕ) : Type 0 where
  pub says : told ≡ no_reply number
  pub same : device' ≡ device
  pub kept : got ≡ lent

module _ (lent : List ℕ) (device : Device) (turn : Turn) (memory : Memory) (got : List ℕ) where
  heard_by : (told : Told) (count : ℕ) → turn.answer ≡ Ok count → leaves turn memory got ≡ lay lent device told → (bytes : List ℕ) × Heard lent device told (device_of turn.session memory) count got bytes
  unfolding lay
  heard_by (replied bytes) count is did = (bytes, grind arith)
  heard_by (no_reply number) count is did = grind arith

  unheard_by : (told : Told) (refusal : Refusal) → turn.answer ≡ Err refusal → leaves turn memory got ≡ lay lent device told → Unheard lent device told (device_of turn.session memory) (refusal_number refusal) got
  unfolding lay
  unheard_by (replied bytes) refusal is did = grind arith
  unheard_by (no_reply number) refusal is did = grind arith

-- ---- one step

module _ (settings : Settings) (ends : Bool) (tape : List ℕ) (place : Place) (memory : Memory) (buffer : List ℕ) (stands : Stands place tape buffer) where
  abbrev device : Device
  device = device_of place.session memory

  abbrev room : ℕ
  room = length buffer - place.written

  abbrev rest : List ℕ
  rest = drop place.used tape

  -- the part of the buffer that is left, and what the device is lent of it
  abbrev part : List ℕ
  part = mid_of place.written room buffer

  abbrev lent : List ℕ
  lent = mid_of head_length reply_room part

  part_long : length part ≡ room
  part_long = mid_len place.written (length buffer) buffer (le_refl _)

  -- where there is no message, the player stops
  pub over_steps : (stop : Stop) → next_in ends rest ≡ Err (stop_of stop) → Stepped settings ends tape place memory buffer (Err stop) memory buffer
  unfolding from
  over_steps stop is = record { same = ap (ends_with place.used place.written buffer) (sym (plays_over settings device ends room rest (stop_of stop) is)); further = tt }

  module _ (size : ℕ) (is : next_in ends rest ≡ Ok size) where
    -- so it does without room
    pub cramped_steps : room < record_room → Stepped settings ends tape place memory buffer (Err Room) memory buffer
    unfolding from closing
    cramped_steps small = record { same = ap (ends_with place.used place.written buffer) (sym (plays_cramped settings device ends room rest size is small)); further = tt }

    module _ (large : record_room ≤ room) (message : List ℕ) (body : message ≡ body_in rest size) (turn : Turn) (memory' : Memory) (got : List ℕ) (long : length got ≡ length lent)
        (answered : leaves turn memory' got ≡ after settings device message lent) where
      -- what the device tells
      abbrev outcome : Telling
      outcome = tell settings device (body_in rest size) reply_room

      -- all of what it is lent is there
      lent_long : length lent ≡ reply_room
      lent_long = length-take-le reply_room (drop head_length part) (rw length-drop (omega (arith, part_long)))

      -- so what it did is known
      did : leaves turn memory' got ≡ lay lent outcome.device outcome.told
      unfolding after
      did = answered ∙ ap₂ (λ (bytes : List ℕ) (count : ℕ). let telling = tell settings device bytes count in lay lent telling.device telling.told) body lent_long

      -- a refusal stops the player where it is
      pub refused_steps : (refusal : Refusal) → turn.answer ≡ Err refusal
          → Stepped settings ends tape place memory buffer (Err (Refused refusal)) memory' (put_mid place.written room buffer (put_mid head_length reply_room part got))
      unfolding from closing
      refused_steps refusal answer =
          let none = unheard_by lent outcome.device turn memory' got outcome.told refusal answer did in
          let same : memory' ≡ memory = ap (λ (one : Device). one.memory) (none.same ∙ without_reply settings device (body_in rest size) reply_room (refusal_number refusal) none.says) in
          let kept : put_mid place.written room buffer (put_mid head_length reply_room part got) ≡ buffer =
          ap (λ (bytes : List ℕ). put_mid place.written room buffer (put_mid head_length reply_room part bytes)) none.kept
          ∙ ap (put_mid place.written room buffer) (put_same head_length reply_room part)
          ∙ put_same place.written room buffer in
          record {
            same =
                ap₂ (λ (one : Memory) (bytes : List ℕ). ends_with place.used place.written bytes (stopped (device_of place.session one) (stop_of (Refused refusal)))) same kept
                ∙ ap (ends_with place.used place.written buffer) (sym (plays_refused settings device ends room rest size is (refusal_number refusal) large none.says));
            further = tt;
          }

      -- a reply has room
      pub reply_short : (count : ℕ) → turn.answer ≡ Ok count → count ≤ reply_room
      reply_short count answer =
          let reply = heard_by lent outcome.device turn memory' got outcome.told count answer did in
          omega (arith, laid_fits reply.0 lent (ap length (sym reply.1.over) ∙ long), lent_long, reply.1.counts)

      module _ (count : ℕ) (bytes buffer' : List ℕ) (reply : Heard lent outcome.device outcome.told (device_of turn.session memory') count got bytes)
          (fits : length bytes ≤ reply_room) (over : buffer' ≡ written_at place.written (record_of reply_kind bytes) buffer) where
        abbrev one : List ℕ
        one = record_of reply_kind bytes

        -- a record leaves the buffer as long as it was
        kept_long : length buffer' ≡ length buffer
        unfolding laid
        kept_long = grind (arith, common_steps, record_length reply_kind bytes, stands.written)

        -- and the player goes on behind it
        goes_on : Stepped settings ends tape place memory buffer (Ok (record { session = turn.session; used = place.used + head_length + length message; written = place.written + head_length + count })) memory' buffer'
        unfolding from
        goes_on =
            let sized : length message ≡ size = ap length body ∙ message_body ends rest size is in
            let used : place.used + head_length + length message ≡ place.used + (head_length + size) = omega arith in
            let written : place.written + head_length + count ≡ place.written + length one = omega (arith, record_length reply_kind bytes, reply.counts) in
            let free : length buffer' - (place.written + head_length + count) ≡ room - (head_length + length bytes) = omega (arith, reply.counts, kept_long) in
            let behind_it : drop (place.used + head_length + length message) tape ≡ drop (head_length + size) rest = ap (λ (passed : ℕ). drop passed tape) used ∙ sym (drop-drop (head_length + size) place.used tape) in
            record {
              same =
                  rw (free, behind_it, reply.same, used, written, over)
                  (counted_behind place.written buffer one stands.written place.used (head_length + size) _
                  ∙ ap (ends_with place.used place.written buffer) (sym (plays_reply settings device ends room rest size is bytes large reply.says)));
              further = (
                omega arith,
                record { used = omega (arith, message_fits ends rest size is, length-drop place.used tape, stands.used); written = omega (arith, reply.counts, kept_long, stands.written) },
              );
            }

      -- with its record written, the player goes on
      pub reply_steps : (count : ℕ) → turn.answer ≡ Ok count → (part' : List ℕ) → part' ≡ laid (head_of count reply_kind) (put_mid head_length reply_room part got)
          → Stepped settings ends tape place memory buffer (Ok (record { session = turn.session; used = place.used + head_length + length message; written = place.written + head_length + count })) memory'
          (put_mid place.written room buffer part')
      reply_steps count answer part' headed =
          let reply = heard_by lent outcome.device turn memory' got outcome.told count answer did in
          let fits = laid_fits reply.0 lent (ap length (sym reply.1.over) ∙ long) in
          let record_laid : part' ≡ laid (record_of reply_kind reply.0) part =
          headed
          ∙ ap₂ (λ (number : ℕ) (bytes : List ℕ). laid (head_of number reply_kind) (put_mid head_length reply_room part bytes)) reply.1.counts reply.1.over
          ∙ with_head reply_kind reply.0 part reply_room (omega (arith, part_long)) fits in
          goes_on count reply.0 _ reply.1 (omega (arith, fits, lent_long)) (put_laid place.written buffer _ part' record_laid)
