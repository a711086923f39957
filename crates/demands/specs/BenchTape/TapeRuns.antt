-- Document 01, "The bench tape": lemmas for the tape. The replies on a tape are those of a run of its messages, and a device that hears messages hears all those of a tape.
use Rattle.std.specs.Prelude.{ℕ, ◌-◌, Bool, true, false, List, [], ◌∷◌, ◌++◌, ◌≡◌, eqb, length, replicate}
use Rattle.std.proofs.Common.{true≢false, append_assoc, sym, ap, ◌∙◌, lit≤}
use Rattle.std.proofs.Math.Path.{refl}
use Rattle.std.proofs.lemmas.List.{length-replicate}
use Rattle.frame.specs.Frame.{word}
use Rattle.memory.proofs.Laws.{length_replaced}
use Rattle.tm32.specs.After.{call_checks, replied, reply_room, tell}
use Rattle.tm32_asks.specs.Checks.{verdict}
use Rattle.tm32.specs.Device.{Device}
use Rattle.tm32.specs.Fresh.{fresh_device, fresh_flash, fresh_nvr, fresh_options, fresh_ram}
use Rattle.tm32_asks.specs.Map.{blank, flash_length, nvr_length, nvr_start, options_start, ram_length}
use Rattle.tm32_asks.specs.Numbers.{from_one_to}
use Rattle.tm32.specs.Run.{run}
use Rattle.tm32.specs.declared.Settings.{Settings}
use Rattle.tape.specs.Play.{Playing, closing, record_room, reply_kind}
use Rattle.tape.specs.Records.{body_in, record_of}
use Rattle.tape.specs.Script.{script}
use Rattle.tape.specs.Stops.{Stop, MoreTape, Room, End, Error, Refused}
use Rattle.tape.proofs.Laws.{next_message, next_over}
use Rattle.tape.proofs.Ways.{Goes, closing_stop, cramped, onward, over, over_unrefused, refused}
use Rattle.demands.specs.BenchTape.Shown.{Seen, closing_record, reply_records, seen, seen_of, sent_all, shown, shown_by}
use Rattle.demands.specs.BenchTape.StillHeard.{checks_stay}
use Rattle.demands.specs.Messages.FirstFailing.{call_failed, call_numbers, first_fails, not_passed}

-- ---- a tape is a run of its messages

-- What is seen of the rest of a tape, with a reply before it.
abbrev after_reply : List ℕ → Seen → Seen
after_reply bytes rest = seen rest.device (record_of reply_kind bytes ++ rest.records) rest.stop

module _ (settings : Settings) where
  -- no message, and a stop
  shown_over : (device : Device) (stop : Stop) → seen_of (closing device record_room stop) ≡ shown_by settings device (script [] stop)
  unfolding closing shown_by closing_record reply_records run sent_all
  shown_over device MoreTape = refl
  shown_over device Room = refl
  shown_over device End = refl
  shown_over device (Error number) = refl
  shown_over device (Refused number) = refl

  -- a message that is replied to, and others
  shown_reply : (device : Device) (message bytes : List ℕ) (messages : List (List ℕ)) (stop : Stop) → (tell settings device message reply_room).told ≡ replied bytes
      → shown_by settings device (script (message ∷ messages) stop) ≡ after_reply bytes (shown_by settings (tell settings device message reply_room).device (script messages stop))
  unfolding shown_by reply_records run sent_all
  shown_reply device message bytes messages stop says = rw (says, append_assoc)

  -- each way of a tape that is neither cramped nor refused
  pub way_shown : (ends : Bool) {device : Device} {tape : List ℕ} {done : Playing} → Goes settings ends device tape done → ¬ (done.stop ≡ Room)
      → ((number : ℕ) → ¬ (done.stop ≡ Refused number)) → seen_of done ≡ shown settings device ends tape
  way_shown ends {device} {tape} (over stop is) roomy heard = shown_over device stop ∙ ap (shown_by settings device) (sym (next_over ends tape stop is))
  way_shown ends cramped roomy heard = absurd (roomy refl)
  way_shown ends (refused size number is says) roomy heard = absurd (heard number refl)
  way_shown ends {device} {tape} (onward size bytes rest is says goes) roomy heard =
      ap (after_reply bytes) (way_shown ends goes roomy heard)
      ∙ sym (shown_reply device (body_in tape size) bytes _ _ says)
      ∙ ap (shown_by settings device) (sym (next_message ends tape size is))

-- ---- a device that hears messages hears all of them

module _ (settings : Settings) (ends : Bool) where
  -- each way of a tape
  pub way_heard : {device : Device} {tape : List ℕ} {done : Playing} (number : ℕ) → Goes settings ends device tape done → verdict 0 (call_checks device reply_room) ≡ 0
      → ¬ (done.stop ≡ Refused number)
  way_heard {device} {tape} number (over stop is) hears same = over_unrefused ends tape stop number is (sym (closing_stop device stop).0 ∙ same)
  way_heard number cramped hears same =
      let never : true ≡ false = cc in
      true≢false never
  way_heard {device} {tape} number (refused size other is says) hears same =
      let found = call_failed settings device (body_in tape size) reply_room other says in
      let nought : other ≡ 0 = sym (first_fails 0 (call_checks device reply_room) other found) ∙ hears in
      true≢false (sym (ap (λ (told : ℕ). eqb told 0) nought) ∙ not_passed 0 (call_checks device reply_room) other (call_numbers device reply_room) found)
  way_heard {device} {tape} number (onward size bytes rest is says goes) hears same =
      way_heard number goes (ap (verdict 0) (checks_stay settings device (body_in tape size) reply_room reply_room) ∙ hears) same

-- ---- the device that a tape starts on

-- its memory has the lengths of the map
fresh_flash_length : length fresh_flash ≡ flash_length
unfolding fresh_flash
fresh_flash_length = length-replicate flash_length blank

fresh_ram_length : length fresh_ram ≡ ram_length
unfolding fresh_ram
fresh_ram_length = length-replicate {A = ℕ} ram_length 0

fresh_nvr_length : length fresh_nvr ≡ nvr_length
unfolding fresh_nvr fresh_options word
fresh_nvr_length =
    let nought_length = length-replicate {A = ℕ} nvr_length 0 in
    length_replaced (replicate nvr_length 0) (options_start - nvr_start) fresh_options (rw nought_length (lit≤ tt)) ∙ nought_length

-- so it hears messages
pub fresh_hears : verdict 0 (call_checks fresh_device reply_room) ≡ 0
unfolding verdict call_checks fresh_device from_one_to
fresh_hears = simp (fresh_flash_length, fresh_ram_length, fresh_nvr_length)
