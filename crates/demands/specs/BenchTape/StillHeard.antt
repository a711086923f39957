-- Document 01, "When nothing is done": what is tested of a call comes out as before, whatever message came in between.
-- No message changes the lengths of the memory, and PPS sets no rate but one that there is.
use Rattle.std.specs.Prelude.{ℕ, true, List, ◌≡◌, refl}
use Rattle.std.proofs.Common.{sym, ◌∙◌}
use borrow.Author.Tests.{not-false}
use Rattle.frame.specs.Frame.{data_of}
use Rattle.tm32.specs.After.{Telling, call_checks, tell}
use Rattle.tm32_asks.specs.Checks.{checks, none_fails}
use Rattle.tm32.specs.Device.{Device}
use Rattle.tm32_asks.specs.Rates.{is_rate}
use Rattle.tm32_asks.specs.Request.{request_in}
use Rattle.tm32.specs.Respond.{Answered, greet, refuse, reply_to, respond}
use Rattle.tm32.specs.Work.{work}
use Rattle.tm32_asks.specs.declared.Request.{Request}
use Rattle.tm32_asks.specs.declared.Request.TheVariants.{Pps, Get, Read, Write, MemoryCrc, Erase, Go, WriteOptions, ReadOptions, HeartBeat, Misshapen}
use Rattle.tm32.specs.declared.Settings.{Settings}
use Rattle.tm32_asks.proofs.Accepted.{next}
use Rattle.demands.specs.Demand2.Besides.{lengths_stay}
use Rattle.demands.specs.Messages.FirstFailing.{Called, called, heard, request_checks, unheard}
use Rattle.demands.specs.Messages.Ways.{Heard, greeted, heard_so, silent, turned_away, unshaken, worked_on}

-- ---- the rate code

-- the rate of a call that is heard is one that there is
rate_heard : (device : Device) (room : ℕ) → none_fails (call_checks device room) ≡ true → is_rate device.session.rate ≡ true
unfolding call_checks
rate_heard device room pass =
    let flash = next _ _ pass in
    let ram = next _ _ flash.1 in
    let nvr = next _ _ ram.1 in
    let space = next _ _ nvr.1 in
    not-false _ (next _ _ space.1).0

module _ (settings : Settings) (device : Device) (right : is_rate device.session.rate ≡ true) where
  -- and so it is after the work of each command
  work_rate : (payload : List ℕ) (request : Request) → none_fails (request_checks device request) ≡ true → is_rate (work settings device payload request).device.session.rate ≡ true
  unfolding work checks
  work_rate payload (Pps code) pass =
      let link = next _ _ pass in
      not-false _ (next _ _ link.1).0
  work_rate payload Get pass = right
  work_rate payload (Read address count) pass = right
  work_rate payload (Write flag address count) pass = right
  work_rate payload (MemoryCrc address count wanted) pass = right
  work_rate payload (Erase first count) pass = right
  work_rate payload (Go address) pass = right
  work_rate payload WriteOptions pass = right
  work_rate payload ReadOptions pass = right
  work_rate payload HeartBeat pass = right
  work_rate payload Misshapen pass = right

  -- and after every message
  rate_way : (message : List ℕ) (answer : Answered) → Heard settings device message answer → is_rate answer.device.session.rate ≡ true
  unfolding greet refuse reply_to
  rate_way message answer (silent unheeded) = right
  rate_way message answer (greeted here hail) = right
  rate_way message answer (unshaken asks waits) = right
  rate_way message answer (turned_away asks talks number found) = right
  rate_way message answer (worked_on asks talks pass) = work_rate (data_of message) (request_in settings.start message) pass

module _ (settings : Settings) (device : Device) (message : List ℕ) (room : ℕ) where
  -- by the way of the call
  rate_call : (outcome : Telling) → Called settings device message room outcome → is_rate outcome.device.session.rate ≡ is_rate device.session.rate
  rate_call outcome (heard pass) =
      let right = rate_heard device room pass in
      rate_way settings device right message (respond settings device message) (heard_so settings device message) ∙ sym right
  rate_call outcome (unheard number found) = refl

  -- ---- the checks of the next call

  -- come out as before, whatever its room is
  pub checks_stay : (other : ℕ) → call_checks (tell settings device message room).device other ≡ call_checks device other
  unfolding call_checks
  checks_stay other =
      let lengths = lengths_stay settings device message room in
      rw (lengths.flash, lengths.ram, lengths.nvr, rate_call (tell settings device message room) (called settings device message room))
