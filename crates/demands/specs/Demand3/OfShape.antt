-- Document 01, "A message and its reply": the TM32G07x is a device of our shape. What it does with an event falls into checks, protection and work, and is put together from them as any such device's is.
use Rattle.std.specs.Prelude.{ℕ, Bool, cond, List, [], ◌∷◌, ◌++◌, ◌≡◌, eqb}
use Rattle.std.proofs.Math.Bool.{true, false}
use Rattle.std.proofs.Math.Path.{refl, fun_ext}
use Rattle.std.proofs.Common.{ap, eqb-true}
use Rattle.std.proofs.lemmas.Bool.{eqb-false}
use Rattle.frame.specs.Frame.{data_of, frame}
use Rattle.shape.specs.Shape.{Shape, Step, Verdict, judged, passes, refuses, run_by, step_in, step_of}
use Rattle.tm32.specs.After.{Telling, Told, call_checks, no_reply, replied, tell, telling}
use Rattle.tm32_asks.specs.Checks.{checks, protections, verdict}
use Rattle.tm32.specs.Device.{Device, restart, with_session}
use Rattle.tm32_asks.specs.Options.{ProtectAll, option_bytes}
use Rattle.tm32_asks.specs.Request.{request_in}
use Rattle.tm32.specs.Respond.{Answered, answered, greet, refuse, reply_to, respond, serve, verdict_on}
use Rattle.tm32_asks.specs.Results.{no_handshake, work_done}
use Rattle.tm32.specs.Run.{Event, restarted, run, sent}
use Rattle.tm32.specs.Work.{work}
use Rattle.tm32_asks.specs.declared.Request.{Request}
use Rattle.tm32.specs.declared.Settings.{Settings}
use Rattle.tm32_asks.proofs.Verdicts.{checks_others, first_list_decides, second_list_decides}
use Rattle.demands.specs.Demand3.TwoDevices.{AlikeButOptions, happens, is_protection_refusal}
use Rattle.demands.specs.Messages.Ways.{by_message, of_message}

-- What the caller is told of a refusal, where a CRC starts from a value, and what a number says that may be one.
abbrev pub refusal : ℕ → ℕ → Told
refusal start number = replied (frame start number [])

unfoldable pub against : ℕ → ℕ → Verdict Told
against start number = cond (eqb number work_done) passes (refuses (refusal start number))

-- All that is tested before protection: the call, the handshake, and the checks of a request. A restart is never refused.
unfoldable pub tested_first : ℕ → Device → Event → Verdict Told
tested_first start device (sent message room) =
    let number : ℕ = verdict 0 (call_checks device room) in
    cond (eqb number 0)
    (by_message device.session.state message passes passes (refuses (refusal start no_handshake)) (against start (verdict work_done (checks device.session.link (request_in start message)))))
    (refuses (no_reply number))
tested_first start device (restarted link) = passes

-- Protection, of a request.
unfoldable pub protected_from : ℕ → Device → Event → Verdict Told
protected_from start device (sent message room) =
    by_message device.session.state message passes passes passes (against start (verdict work_done (protections (option_bytes device.memory.nvr) (request_in start message))))
protected_from start device (restarted link) = passes

-- What comes of an answer, and of a call.
abbrev pub replies : Answered → Step Device Told
replies answer = step_of answer.device (replied answer.reply ∷ [])

abbrev pub calls : Telling → Step Device Told
calls outcome = step_of outcome.device (outcome.told ∷ [])

-- What is done where nothing is against it.
unfoldable pub done_with : Settings → Device → Event → Step Device Told
done_with settings device (sent message room) =
    replies (by_message device.session.state message (answered device []) (greet device) (refuse settings.start device no_handshake)
    (reply_to settings.start (work settings device (data_of message) (request_in settings.start message))))
done_with settings device (restarted link) = step_of (with_session device (restart device.session link)) []

-- The chip, with its settings, as a device of our shape.
abbrev pub tm32 : Settings → Shape
tm32 settings =
    record {
      Device = Device;
      Event = Event;
      Told = Told;
      checks = tested_first settings.start;
      protection = protected_from settings.start;
      work = done_with settings;
      is_protection = is_protection_refusal;
    }

-- What the argument asks of two devices: that they are alike but for their option bytes, and that the first protects all that the second does.
pub record Stricter (strict loose : Device) : Type 0 where
  pub alike : AlikeButOptions strict loose
  pub protects : ProtectAll (option_bytes strict.memory.nvr) (option_bytes loose.memory.nvr)

-- ---- a request

module _ (settings : Settings) (device : Device) (payload : List ℕ) (request : Request) where
  -- by whether a check fails
  by_checks : (passed : Bool) (first second both : ℕ) → eqb first work_done ≡ passed → (first ≡ work_done → both ≡ second) → ((first ≡ work_done → ⊥) → both ≡ first)
      → replies (cond (eqb both work_done) (reply_to settings.start (work settings device payload request)) (refuse settings.start device both))
      ≡ judged device (cond passed passes (refuses (refusal settings.start first)))
      (judged device (against settings.start second) (replies (reply_to settings.start (work settings device payload request))))
  unfolding judged against refuse
  by_checks true first second both is behind ahead = rw (behind (eqb-true _ _ is)) (by_second (eqb second work_done))
    where
      by_second : (passed : Bool) → replies (cond passed (reply_to settings.start (work settings device payload request)) (answered device (frame settings.start second [])))
          ≡ judged device (cond passed passes (refuses (refusal settings.start second))) (replies (reply_to settings.start (work settings device payload request)))
      by_second true = refl
      by_second false = refl
  by_checks false first second both is behind ahead = rw (ahead (eqb-false _ _ is), is)

  -- a request is judged by its checks, then by protection
  pub request_judged : replies (serve settings device payload request)
      ≡ judged device (against settings.start (verdict work_done (checks device.session.link request)))
      (judged device (against settings.start (verdict work_done (protections (option_bytes device.memory.nvr) request)))
      (replies (reply_to settings.start (work settings device payload request))))
  unfolding serve verdict_on against
  request_judged =
      let first = checks device.session.link request in
      let second = protections (option_bytes device.memory.nvr) request in
      by_checks (eqb (verdict work_done first) work_done) (verdict work_done first) (verdict work_done second) (verdict work_done (first ++ second)) refl
      (second_list_decides work_done second first (checks_others device.session.link request)) (first_list_decides work_done second first)

-- ---- an event

-- by whether a call is heard
by_call : (device : Device) (hears : Bool) (number : ℕ) (answer : Answered) (first : Verdict Told) (rest : Step Device Told) → replies answer ≡ judged device first rest
    → calls (cond hears (telling answer.device (replied answer.reply)) (telling device (no_reply number))) ≡ judged device (cond hears first (refuses (no_reply number))) rest
unfolding judged
by_call device true number answer first rest is = is
by_call device false number answer first rest is = refl

-- a message
message_judged : (settings : Settings) (device : Device) (message : List ℕ) (room : ℕ) → calls (tell settings device message room) ≡ step_in (tm32 settings) device (sent message room)
unfolding tell respond step_in tested_first protected_from done_with by_message judged refuse
message_judged settings device message room =
    let number = verdict 0 (call_checks device room) in
    let request = request_in settings.start message in
    by_call device (eqb number 0) number (respond settings device message) _ _
    (of_message (λ choose.
    replies (choose Answered (answered device []) (greet device) (refuse settings.start device no_handshake) (serve settings device (data_of message) request))
    ≡ judged device (choose (Verdict Told) passes passes (refuses (refusal settings.start no_handshake)) (against settings.start (verdict work_done (checks device.session.link request))))
    (judged device (choose (Verdict Told) passes passes passes (against settings.start (verdict work_done (protections (option_bytes device.memory.nvr) request))))
    (replies (choose Answered (answered device []) (greet device) (refuse settings.start device no_handshake) (reply_to settings.start (work settings device (data_of message) request))))))
    device.session.state message (λ unheeded. refl) (λ here hail. refl) (λ asks waits. refl) (λ asks talks. request_judged settings device (data_of message) request))

-- what comes of an event is what the shape makes of checks, protection and work
pub happens_so : (settings : Settings) (device : Device) (event : Event) → happens settings device event ≡ step_in (tm32 settings) device event
unfolding happens run step_in judged tested_first protected_from done_with
happens_so settings device (sent message room) = message_judged settings device message room
happens_so settings device (restarted link) = refl

-- so the two are one function
pub step_same : (settings : Settings) → happens settings ≡ step_in (tm32 settings)
step_same settings = fun_ext (λ device. fun_ext (λ event. happens_so settings device event))

-- ---- a list of events

-- a run is what any device's is
pub run_so : (settings : Settings) (device : Device) (events : List Event)
    → step_of (run settings device events).device (run settings device events).told ≡ run_by (happens settings) device events
unfolding run run_by happens
run_so settings device [] = refl
run_so settings device (sent message room ∷ events) =
    let first : Telling = tell settings device message room in
    ap (λ (rest : Step Device Told). step_of rest.device (first.told ∷ rest.told)) (run_so settings first.device events)
run_so settings device (restarted link ∷ events) = run_so settings (with_session device (restart device.session link)) events
