-- Document 01, "Who may touch which page": what the argument of demand 3 asks of the chip. The checks before protection do not look at the option bytes, protection only grows, the work does not look at
-- the option bytes, and a refusal for protection is known by its number.
use Rattle.std.specs.Prelude.{ℕ, Bool, true, cond, ◌||◌, List, [], ◌≡◌, refl, eqb}
use Rattle.std.proofs.Math.Bool.{false}
use Rattle.std.proofs.Common.{true≢false, sym, ap, ◌∙◌, eqb-true}
use Rattle.std.proofs.Math.Path.{subst}
use Rattle.std.proofs.lemmas.Bool.{eqb-false, not-true}
use Rattle.frame.specs.Frame.{covered, data_of, frame}
use Rattle.memory.specs.Stores.{same}
use Rattle.memory.proofs.Choices.{of_both}
use Rattle.shape.specs.MoreRights.{Growing, SameWork}
use Rattle.shape.specs.Shape.{Step, Verdict, passes, refuses, tells}
use Rattle.tm32.specs.After.{Told, call_checks, no_reply}
use Rattle.tm32_asks.specs.Checks.{Check, checks, checks_of, none_fails, numbers_of, protections, verdict}
use Rattle.tm32.specs.Device.{Device, in_state}
use Rattle.tm32.specs.OptionMessages.{option_message, touches_options}
use Rattle.tm32_asks.specs.Options.{ProtectAll, option_bytes}
use Rattle.tm32_asks.specs.Request.{request_in}
use Rattle.tm32.specs.Respond.{Answered, answered, greet, refuse, reply_to}
use Rattle.tm32_asks.specs.Results.{no_handshake, work_done}
use Rattle.tm32.specs.Run.{Event, restarted, sent}
use Rattle.tm32.specs.Work.{work}
use Rattle.tm32_asks.specs.declared.Request.{Request}
use Rattle.tm32.specs.declared.Session.{Session}
use Rattle.tm32.specs.declared.Settings.{Settings}
use Rattle.tm32.specs.declared.State.{State}
use Rattle.tm32.specs.declared.State.TheVariants.{Talking}
use Rattle.tm32_asks.proofs.Accepted.{shaped_so}
use Rattle.tm32_asks.proofs.Verdicts.{checks_others, none_fails_where_passed, pass_all, request_others, second_list_decides}
use Rattle.tm32.proofs.Passed.{lent}
use Rattle.demands.specs.Demand1.Refusals.{is_one_of}
use Rattle.demands.specs.Demand2.ReplyResults.{of_results}
use Rattle.demands.specs.Demand3.OfShape.{Stricter, against, done_with, protected_from, refusal, replies, tested_first, tm32}
use Rattle.demands.specs.Demand3.OptionsUnseen.{still_session, work_alike}
use Rattle.demands.specs.Demand3.ProtectionGrows.{checks_other, is_other, is_protection, protections_others, protections_own, still_passes}
use Rattle.demands.specs.Demand3.TwoDevices.{AlikeButOptions, is_protection_refusal, option_event}
use Rattle.demands.specs.Messages.FirstFailing.{Tells, all_pass, all_passed, call_numbers, number_so, one_fails, told}
use Rattle.demands.specs.Messages.Ways.{Known, by_message, of_four, of_message}

-- ---- the checks do not look at the option bytes

-- nor do those of a call: they look at lengths and at the session
pub calls_alike : (one other : Device) (room : ℕ) → AlikeButOptions one other → call_checks one room ≡ call_checks other room
unfolding call_checks
calls_alike one other room alike = rw (alike.session, alike.flash, alike.ram, alike.nvr_length)

checks_alike : (start : ℕ) (strict loose : Device) (event : Event) → Stricter strict loose → tested_first start strict event ≡ tested_first start loose event
unfolding tested_first
checks_alike start strict loose (sent message room) stricter = rw (calls_alike strict loose room stricter.alike, stricter.alike.session)
checks_alike start strict loose (restarted link) stricter = refl

-- ---- protection only grows

-- a number lets a request pass only where it says that work is done
pass_done : (start number : ℕ) → against start number ≡ passes → number ≡ work_done
unfolding against
pass_done start number is = by_test (eqb number work_done) refl is
  where
    by_test : (test : Bool) → eqb number work_done ≡ test → cond test passes (refuses (refusal start number)) ≡ passes → number ≡ work_done
    by_test true same is = eqb-true number work_done same
    by_test false other is =
        let never : true ≡ false = cc in
        absurd (true≢false never)

-- and then it does
done_pass : (start number : ℕ) → number ≡ work_done → against start number ≡ passes
unfolding against
done_pass start number is = rw is

-- protection, of a request
request_grows : (start : ℕ) (strict loose : List ℕ) (request : Request) → ProtectAll strict loose → against start (verdict work_done (protections strict request)) ≡ passes
    → against start (verdict work_done (protections loose request)) ≡ passes
request_grows start strict loose request protects is =
    let pass = none_fails_where_passed work_done (protections strict request) (protections_others strict request) (pass_done start _ is) in
    done_pass start _ (all_pass work_done (protections loose request) (still_passes strict loose protects request pass))

-- and of an event
protection_grows : (start : ℕ) (strict loose : Device) (event : Event) → Stricter strict loose → protected_from start strict event ≡ passes → protected_from start loose event ≡ passes
unfolding protected_from by_message
protection_grows start strict loose (sent message room) stricter free =
    rw (sym stricter.alike.session)
    (of_message (λ choose.
    choose (Verdict Told) passes passes passes (against start (verdict work_done (protections (option_bytes strict.memory.nvr) (request_in start message)))) ≡ passes
    → choose (Verdict Told) passes passes passes (against start (verdict work_done (protections (option_bytes loose.memory.nvr) (request_in start message)))) ≡ passes)
    strict.session.state message (λ unheeded is. refl) (λ here hail is. refl) (λ asks waits is. refl)
    (λ asks talks is. request_grows start _ _ (request_in start message) stricter.protects is) free)
protection_grows start strict loose (restarted link) stricter free = refl

-- ---- a refusal is known by its number

-- the result of a refusal is its number
refusal_number : (start number : ℕ) → is_protection_refusal (refusal start number) ≡ is_protection number
unfolding is_protection_refusal frame covered
refusal_number start number = refl

-- before the handshake it is another
unshaken_other : (start : ℕ) → is_protection_refusal (refusal start no_handshake) ≡ false
unfolding is_one_of
unshaken_other start = refusal_number start no_handshake

-- what is known of a refusal that is told
told_so : (P : Told → Type 0) (told other : Told) → P told → refuses told ≡ refuses other → P other
told_so P told other so is =
    let same : told ≡ other = cc in
    rw same at so

-- what passes tells nothing
nothing_told : (told : Told) → passes ≡ refuses told → ⊥
nothing_told told is =
    let never : true ≡ false = cc in
    true≢false never

-- a verdict that is none of a pass has the number of a check
failed_so : (test : ℕ → Bool) (list : List Check) → pass_all test (numbers_of list) ≡ true → eqb (verdict work_done list) work_done ≡ false → test (verdict work_done list) ≡ true
failed_so test list all failed = by_verdict (told work_done list (verdict work_done list) refl)
  where
    by_verdict : Tells work_done list (verdict work_done list) → test (verdict work_done list) ≡ true
    by_verdict (all_passed pass is) = absurd (eqb-false _ _ failed is)
    by_verdict (one_fails found) = number_so test list (verdict work_done list) all found

-- the number of a refusal passes a test that all the numbers of its checks pass
against_so : (start : ℕ) (P : Told → Type 0) (test : ℕ → Bool) (list : List Check) → pass_all test (numbers_of list) ≡ true → ((number : ℕ) → test number ≡ true → P (refusal start number))
    → (told : Told) → against start (verdict work_done list) ≡ refuses told → P told
unfolding against
against_so start P test list all so told is = by_test (eqb (verdict work_done list) work_done) refl is
  where
    by_test : (done : Bool) → eqb (verdict work_done list) work_done ≡ done → cond done passes (refuses (refusal start (verdict work_done list))) ≡ refuses told → P told
    by_test true same is = absurd (nothing_told told is)
    by_test false other is = told_so P (refusal start (verdict work_done list)) told (so _ (failed_so test list all other)) is

-- a check before protection never tells a refusal for protection
check_kind : (start : ℕ) (device : Device) (event : Event) (told : Told) → tested_first start device event ≡ refuses told → is_protection_refusal told ≡ false
unfolding tested_first is_protection_refusal
check_kind start device (sent message room) =
    let kind : Verdict Told → Type 0 = λ verdict. (told : Told) → verdict ≡ refuses told → is_protection_refusal told ≡ false in
    let other : Told → Type 0 = λ told. is_protection_refusal told ≡ false in
    let link = device.session.link in
    let number = verdict 0 (call_checks device room) in
    let free : kind passes = λ told is. absurd (nothing_told told is) in
    of_both kind (eqb number 0)
    (of_four kind device.session.state message free free (λ told is. told_so other (refusal start no_handshake) told (unshaken_other start) is)
    (against_so start other is_other (checks link (request_in start message)) (checks_other link (request_in start message)) (λ number so. refusal_number start number ∙ not-true _ so)))
    (λ told is. told_so other (no_reply number) told refl is)
check_kind start device (restarted link) = λ told is. absurd (nothing_told told is)

-- and protection tells nothing else
protection_kind : (start : ℕ) (device : Device) (event : Event) (told : Told) → protected_from start device event ≡ refuses told → is_protection_refusal told ≡ true
unfolding protected_from
protection_kind start device (sent message room) =
    let kind : Verdict Told → Type 0 = λ verdict. (told : Told) → verdict ≡ refuses told → is_protection_refusal told ≡ true in
    let options = option_bytes device.memory.nvr in
    let free : kind passes = λ told is. absurd (nothing_told told is) in
    of_four kind device.session.state message free free free
    (against_so start (λ told. is_protection_refusal told ≡ true) is_protection (protections options (request_in start message)) (protections_own options (request_in start message))
    (λ number so. refusal_number start number ∙ so))
protection_kind start device (restarted link) = λ told is. absurd (nothing_told told is)

-- nor does work tell one
work_kind : (settings : Settings) (device : Device) (event : Event) → tells is_protection_refusal (done_with settings device event).told ≡ false
unfolding done_with tells is_protection_refusal greet refuse reply_to frame covered is_one_of
work_kind settings device (sent message room) =
    let kind : Answered → Type 0 = λ answer. tells is_protection_refusal (replies answer).told ≡ false in
    of_four kind device.session.state message refl refl refl
    (of_results (λ (number : ℕ). (is_protection number || false) ≡ false) refl refl refl refl settings device (data_of message) (request_in settings.start message))
work_kind settings device (restarted link) = refl

-- ---- the work does not look at the option bytes

-- a call that passes is heard, and its message passes
hears_so : (hears : Bool) (first : Verdict Told) (told : Told) → cond hears first (refuses told) ≡ passes → (hears ≡ true) × (first ≡ passes)
hears_so true first told is = (refl, is)
hears_so false first told is = absurd (nothing_told told (sym is))

module _ (settings : Settings) (strict loose : Device) (message : List ℕ) (room : ℕ) (stricter : Stricter strict loose) where
  -- what is known of a request that passes all that is tested
  known_so : none_fails (call_checks strict room) ≡ true → against settings.start (verdict work_done (checks strict.session.link (request_in settings.start message))) ≡ passes
      → against settings.start (verdict work_done (protections (option_bytes strict.memory.nvr) (request_in settings.start message))) ≡ passes
      → Known strict room (data_of message) (request_in settings.start message)
  known_so hears checked free =
      let link = strict.session.link in
      let options = option_bytes strict.memory.nvr in
      let request = request_in settings.start message in
      let first = pass_done settings.start (verdict work_done (checks link request)) checked in
      let second = pass_done settings.start (verdict work_done (protections options request)) free in
      record {
        sized = lent strict room hears;
        shape = shaped_so settings.start message;
        pass = none_fails_where_passed work_done (checks_of link options request) (request_others link options request)
            (second_list_decides work_done (protections options request) (checks link request) (checks_others link request) first ∙ second);
      }

  -- a message
  message_alike : option_message settings.start strict message room ≡ false → tested_first settings.start strict (sent message room) ≡ passes
      → protected_from settings.start strict (sent message room) ≡ passes
      → SameWork Stricter (done_with settings strict (sent message room)) (done_with settings loose (sent message room))
  unfolding tested_first protected_from done_with by_message option_message greet refuse
  message_alike spared checked free =
      let request = request_in settings.start message in
      let heard = hears_so (eqb (verdict 0 (call_checks strict room)) 0) _ _ checked in
      let on : State → Step Device Told = λ state. replies (by_message state message (answered loose []) (greet loose) (refuse settings.start loose no_handshake)
      (reply_to settings.start (work settings loose (data_of message) request))) in
      subst (λ (state : State). SameWork Stricter (done_with settings strict (sent message room)) (on state)) (ap (λ (session : Session). session.state) stricter.alike.session)
      (of_message (λ choose.
      choose (Verdict Told) passes passes (refuses (refusal settings.start no_handshake)) (against settings.start (verdict work_done (checks strict.session.link request))) ≡ passes
      → choose (Verdict Told) passes passes passes (against settings.start (verdict work_done (protections (option_bytes strict.memory.nvr) request))) ≡ passes
      → SameWork Stricter
      (replies (choose Answered (answered strict []) (greet strict) (refuse settings.start strict no_handshake) (reply_to settings.start (work settings strict (data_of message) request))))
      (replies (choose Answered (answered loose []) (greet loose) (refuse settings.start loose no_handshake) (reply_to settings.start (work settings loose (data_of message) request)))))
      strict.session.state message
      (λ unheeded first second. record { told = refl; stricter = stricter })
      (λ here hail first second.
      record { told = refl; stricter = still_session strict loose stricter _ _ (ap (λ (session : Session). in_state session Talking) stricter.alike.session) })
      (λ asks waits first second. record { told = refl; stricter = stricter })
      (λ asks talks first second.
      let pass = none_fails_where_passed 0 (call_checks strict room) (call_numbers strict room) (eqb-true _ _ heard.0) in
      let untouched : touches_options request ≡ false = rw (heard.0, talks) at spared in
      work_alike settings strict loose room (data_of message) stricter request (known_so pass first second) untouched)
      heard.1 free)

-- and every event that neither reads nor writes the option bytes
event_alike : (settings : Settings) (strict loose : Device) (event : Event) → Stricter strict loose → option_event settings.start strict event ≡ false
    → tested_first settings.start strict event ≡ passes → protected_from settings.start strict event ≡ passes → SameWork Stricter (done_with settings strict event) (done_with settings loose event)
unfolding option_event done_with
event_alike settings strict loose (sent message room) stricter spared checked free = message_alike settings strict loose message room stricter spared checked free
event_alike settings strict loose (restarted link) stricter spared checked free = record { told = refl; stricter = still_session strict loose stricter _ _ refl }

-- ---- all of it together

-- the chip brings all that the argument asks
pub grows : (settings : Settings) → Growing (tm32 settings) (option_event settings.start) Stricter
grows settings =
    record {
      checks_alike = checks_alike settings.start;
      protection_grows = protection_grows settings.start;
      work_alike = event_alike settings;
      check_kind = check_kind settings.start;
      protection_kind = protection_kind settings.start;
      work_kind = work_kind settings;
    }
