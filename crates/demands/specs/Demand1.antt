-- Document 01, "A message and its reply" and "When nothing is done": demand 1. Whatever the bytes, the state and the lent memory are, each refusal has its own number and is given for its own reason, and
-- a message that is refused changes no byte of any stored memory.
-- Words to read: below, `Refusals`, `Reasons`, `Meanings` and `Shapes`; and beside them `FirstFailing` and `request_checks` of `Messages.FirstFailing`, `NeitherEmptyNorHello` of `Messages.Ways`.
-- Lemmas to skip, below: `WorkRefused`, `WorkDiffers`, `NumbersMean` and `ShapesRead`.
pub mod Refusals
pub mod Reasons
pub mod Meanings
pub mod Shapes
pub mod WorkRefused
pub mod WorkDiffers
pub mod NumbersMean
pub mod ShapesRead
use Rattle.std.specs.Prelude.{ℕ, true, List, [], ◌≡◌, length}
use Rattle.std.proofs.Math.Path.{refl}
use Rattle.std.proofs.Common.{◌∙◌}
use Rattle.frame.specs.Frame.{data_of, frame}
use Rattle.tm32.specs.After.{Refused, after, call_checks, no_reply, replied, tell, telling}
use Rattle.tm32_asks.specs.Checks.{checks_of, none_fails, numbers_of}
use Rattle.tm32.specs.Device.{Device}
use Rattle.tm32.specs.OptionMessages.{is_talking}
use Rattle.tm32_asks.specs.Options.{option_bytes}
use Rattle.tm32_asks.specs.Request.{request_in}
use Rattle.tm32.specs.Respond.{refuse, reply_to, respond}
use Rattle.tm32.specs.Work.{compared, work}
use Rattle.tm32_asks.specs.declared.Link.{Link}
use Rattle.tm32_asks.specs.declared.Request.{Request}
use Rattle.tm32.specs.declared.Settings.{Settings}
use Rattle.tm32.proofs.Answers.{without_reply}
use Rattle.tm32_asks.proofs.Verdicts.{of_numbers}
use Rattle.demands.specs.Demand1.Meanings.{Because, follows, order}
use Rattle.demands.specs.Demand1.NumbersMean.{number_means}
use Rattle.demands.specs.Demand1.Reasons.{Reason, differs, failed, no_hello}
use Rattle.demands.specs.Demand1.Refusals.{is_one_of, is_refusal, refusals}
use Rattle.demands.specs.Demand1.Shapes.{Misshapes}
use Rattle.demands.specs.Demand1.ShapesRead.{reason_is_shape, shape_fails}
use Rattle.demands.specs.Demand1.WorkDiffers.{reason_way}
use Rattle.demands.specs.Demand1.WorkRefused.{both_stay, stays_call, stays_way}
use Rattle.demands.specs.Messages.FirstFailing.{FirstFailing, call_passes, called, request_fails, request_passes, request_checks}
use Rattle.demands.specs.Messages.Ways.{NeitherEmptyNorHello, asked, before_hello, heard_so, reply_told}

-- ---- nothing changes

module _ (settings : Settings) (device : Device) (message : List ℕ) (number : ℕ) (refusal : is_refusal number ≡ true) where
  -- a device that replies with a refusal is as it was
  pub refused_stays : (respond settings device message).reply ≡ frame settings.start number [] → (respond settings device message).device ≡ device
  refused_stays is = stays_way settings device message number refusal (respond settings device message) (heard_so settings device message) is

  -- and so it is where the call is told that reply, with any room
  pub told_refused_stays : (room : ℕ) → (tell settings device message room).told ≡ replied (frame settings.start number []) → (tell settings device message room).device ≡ device
  told_refused_stays room is = stays_call settings device message number refusal room (tell settings device message room) (called settings device message room) is

module _ (settings : Settings) (device : Device) (message : List ℕ) (number : ℕ) where
  -- a call without a reply leaves the device as it was, with any lengths
  pub without_reply_stays : (room : ℕ) → (tell settings device message room).told ≡ no_reply number → (tell settings device message room).device ≡ device
  without_reply_stays room is = without_reply settings device message room number is

  -- and the lent buffer too
  pub refused_call_stays : (buffer : List ℕ) → (after settings device message buffer).answer ≡ Refused number
      → ((after settings device message buffer).device ≡ device) × ((after settings device message buffer).buffer ≡ buffer)
  unfolding after
  refused_call_stays buffer is = both_stay settings device message number buffer (tell settings device message (length buffer)) (called settings device message (length buffer)) is

-- ---- each refusal for its own reason

module _ (settings : Settings) (device : Device) (message : List ℕ) (number : ℕ) (payload : List ℕ) (refusal : is_refusal number ≡ true) where
  -- a device that replies with a refusal has its reason
  pub refused_for : (respond settings device message).reply ≡ frame settings.start number payload → Reason settings.start device message number
  refused_for is = reason_way settings device message number payload refusal (respond settings device message) (heard_so settings device message) is

  -- and so it has where the call is told that reply
  pub told_refused_for : (room : ℕ) → (tell settings device message room).told ≡ replied (frame settings.start number payload) → Reason settings.start device message number
  told_refused_for room is =
      reply_told settings device message room (λ (bytes : List ℕ). bytes ≡ frame settings.start number payload → Reason settings.start device message number) _ (λ known. refused_for) is refl

-- the other way round, each reason draws its refusal, and nothing changes
pub reason_refuses : (settings : Settings) (device : Device) (message : List ℕ) (number : ℕ) → Reason settings.start device message number
    → respond settings device message ≡ refuse settings.start device number
unfolding refuse reply_to work compared
reason_refuses settings device message number (no_hello asks waits) = before_hello settings device message asks waits
reason_refuses settings device message number (failed asks talks first found) =
    asked settings device message asks talks ∙ request_fails settings device (data_of message) (request_in settings.start message) first found
reason_refuses settings device message number (differs asks talks pass address count wanted is other) =
    asked settings device message asks talks ∙ request_passes settings device (data_of message) (request_in settings.start message) pass ∙ rw (is, other)

-- and so the call is told, where it passes its own checks
pub told_reason_refuses : (settings : Settings) (device : Device) (message : List ℕ) (number room : ℕ) → none_fails (call_checks device room) ≡ true → Reason settings.start device message number
    → tell settings device message room ≡ telling device (replied (frame settings.start number []))
unfolding refuse
told_reason_refuses settings device message number room hears reason =
    rw (call_passes settings device message room hears, reason_refuses settings device message number reason)

-- ---- each number with its own meaning

-- a request that is refused by a check is refused for what its number says
pub refused_because : (device : Device) (request : Request) (number : ℕ) → FirstFailing (request_checks device request) number
    → Because device.session.link (option_bytes device.memory.nvr) request number
refused_because device request number found = number_means device.session.link (option_bytes device.memory.nvr) request number found

-- the checks stand in 01's order, whatever the link, the options and the request are
pub in_order : (link : Link) (options : List ℕ) (request : Request) → follows (numbers_of (checks_of link options request)) order ≡ true
unfolding order follows
in_order = of_numbers (λ numbers. follows numbers order ≡ true) refl refl refl refl refl refl refl

-- ---- the seven ways in which shape fails

module _ (settings : Settings) (device : Device) (message : List ℕ) (room : ℕ) where
  -- each of them draws 0x91 from a device that is Talking, in a call that passes its checks
  pub shape_refused : none_fails (call_checks device room) ≡ true → is_talking device.session.state ≡ true → NeitherEmptyNorHello message → Misshapes settings.start message
      → tell settings device message room ≡ telling device (replied (frame settings.start 0x91 []))
  shape_refused hears talks asks is = told_reason_refuses settings device message 0x91 room hears (failed asks talks 0x91 (shape_fails settings.start device message is))

  -- and nothing else does, from any device
  pub refused_for_shape : (payload : List ℕ) → (tell settings device message room).told ≡ replied (frame settings.start 0x91 payload) → Misshapes settings.start message
  unfolding is_refusal is_one_of refusals
  refused_for_shape payload is = reason_is_shape settings.start device message 0x91 refl (told_refused_for settings device message 0x91 payload refl room is)
