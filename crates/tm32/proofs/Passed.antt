-- Calls and requests that the checks let through: what is known of the lent memory, and of a request by the verdict of a device, or on some link and with some option bytes.
use Prim.Native.Nat.{ℕ}
use mathlib.Core.Bool.{true}
use mathlib.Core.Path.{◌≡◌, sym, ap, ◌∙◌}
use borrow.Author.Tests.{eqb-true, ltb-false, not-false}
use Rattle.tm32_asks.proofs.Accepted.{next}
use Rattle.tm32_asks.proofs.Verdicts.{none_fails_where_passed, request_others}
use Rattle.tm32_asks.specs.Checks.{checks_of, none_fails}
use Rattle.tm32_asks.specs.Options.{option_bytes}
use Rattle.tm32_asks.specs.Results.{work_done}
use Rattle.tm32_asks.specs.declared.Request.{Request}
use Rattle.tm32.specs.After.{call_checks}
use Rattle.tm32.specs.Device.{Device}
use Rattle.tm32.specs.Promises.{Lent}
use Rattle.tm32.specs.Respond.{verdict_on}

-- a request that the verdict lets through, under the name that it is known by
pub let_through : (device : Device) {request known : Request} → request ≡ known → verdict_on device request ≡ work_done
    → none_fails (checks_of device.session.link (option_bytes device.memory.nvr) known) ≡ true
unfolding verdict_on
let_through device {request} {known} named passes =
    none_fails_where_passed work_done _ (request_others device.session.link (option_bytes device.memory.nvr) known)
    (ap (verdict_on device) (sym named) ∙ passes)

-- the lengths of a call that is heard
pub lent : (device : Device) (room : ℕ) → none_fails (call_checks device room) ≡ true → Lent device.memory room
unfolding call_checks
lent device room pass =
    let flash = next _ _ pass in
    let ram = next _ _ flash.1 in
    let nvr = next _ _ ram.1 in
    let space = next _ _ nvr.1 in
    record {
      flash = eqb-true _ _ (not-false _ flash.0);
      ram = eqb-true _ _ (not-false _ ram.0);
      nvr = eqb-true _ _ (not-false _ nvr.0);
      space = ltb-false _ _ space.0;
    }
