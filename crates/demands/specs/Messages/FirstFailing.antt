-- Document 01, "A message and its reply" and "When nothing is done": the first check that fails gives its number, whatever the list of checks is. Then the same of a call and of a request.
use Rattle.std.specs.Prelude.{ℕ, Bool, cond, not, ◌≡◌, eqb}
use Rattle.std.proofs.Math.Bool.{true, false, and-eq-true_iff}
use Rattle.std.proofs.Common.{true≢false, sym, ◌∙◌}
use mathlib.Core.List.{List, [], ◌∷◌, ◌++◌, append-nil}
use Rattle.std.proofs.Math.Path.{refl, ap}
use Rattle.std.proofs.lemmas.Bool.{not-true}
use Rattle.tm32.specs.After.{Telling, call_checks, no_reply, replied, tell, telling}
use Rattle.tm32_asks.specs.Checks.{Check, checks_of, none_fails, numbers_of, verdict}
use Rattle.tm32.specs.Device.{Device}
use Rattle.tm32_asks.specs.Options.{option_bytes}
use Rattle.tm32.specs.Respond.{Answered, refuse, reply_to, respond, serve, verdict_on}
use Rattle.tm32_asks.specs.Results.{work_done}
use Rattle.tm32.specs.Work.{work}
use Rattle.tm32_asks.specs.declared.Request.{Request}
use Rattle.tm32.specs.declared.Settings.{Settings}
use Rattle.tm32_asks.proofs.Verdicts.{Unnumbered, is_not, pass_all, request_others}

-- That a number is that of the first check that fails: those before it pass, and it does not.
pub record FirstFailing (list : List Check) (number : ℕ) : Type 0 where
  pub before : List Check
  pub one : Check
  pub rest : List Check
  pub split : list ≡ before ++ one ∷ rest
  pub passed : none_fails before ≡ true
  pub fails : one.fails ≡ true
  pub numbered : number ≡ one.number

-- What a verdict tells: that no check fails, or which does first.
pub data Tells (passed : ℕ) (list : List Check) (number : ℕ) : Type 0 where
  all_passed : none_fails list ≡ true → number ≡ passed → Tells passed list number
  one_fails : FirstFailing list number → Tells passed list number

-- All the checks of a request to a device, in order.
abbrev pub request_checks : Device → Request → List Check
request_checks device request = checks_of device.session.link (option_bytes device.memory.nvr) request

-- ---- any list of checks

-- where none of the first checks fails, the verdict is that of the others
skipped : (passed : ℕ) (before rest : List Check) → none_fails before ≡ true → verdict passed (before ++ rest) ≡ verdict passed rest
unfolding none_fails verdict
skipped passed [] rest pass = refl
skipped passed (first ∷ before) rest pass =
    let both = (and-eq-true_iff (not first.fails) (none_fails before)).0 pass in
    rw (not-true first.fails both.0) (skipped passed before rest both.1)

-- where no check fails, the verdict is that all passed
pub all_pass : (passed : ℕ) (list : List Check) → none_fails list ≡ true → verdict passed list ≡ passed
unfolding verdict
all_pass passed list pass = ap (verdict passed) (sym (append-nil list)) ∙ skipped passed list [] pass

-- where a check fails, the verdict is the number of the first that does
pub first_fails : (passed : ℕ) (list : List Check) (number : ℕ) → FirstFailing list number → verdict passed list ≡ number
unfolding verdict
first_fails passed list number found =
    ap (verdict passed) found.split
    ∙ skipped passed found.before (found.one ∷ found.rest) found.passed
    ∙ ap (λ (fails : Bool). cond fails found.one.number (verdict passed found.rest)) found.fails
    ∙ sym found.numbered

module _ (passed : ℕ) (one : Check) (rest : List Check) where
  -- a check that passes stands before the first that fails
  further : one.fails ≡ false → (number : ℕ) → Tells passed rest number → Tells passed (one ∷ rest) number
  unfolding none_fails
  further pass number (all_passed others is) = all_passed (rw pass others) is
  further pass number (one_fails found) =
      one_fails (record {
        before = one ∷ found.before;
        one = found.one;
        rest = found.rest;
        split = ap (λ (list : List Check). one ∷ list) found.split;
        passed = rw pass found.passed;
        fails = found.fails;
        numbered = found.numbered;
      })

  -- one more check at the front, by whether it fails
  by_front : (fails : Bool) → one.fails ≡ fails → Tells passed rest (verdict passed rest) → Tells passed (one ∷ rest) (cond fails one.number (verdict passed rest))
  unfolding none_fails
  by_front true fails others = one_fails (record { before = []; one = one; rest = rest; split = refl; passed = refl; fails = fails; numbered = refl })
  by_front false pass others = further pass (verdict passed rest) others

-- of every list the verdict tells one of the two
tells : (passed : ℕ) (list : List Check) → Tells passed list (verdict passed list)
unfolding verdict none_fails
tells passed [] = all_passed refl refl
tells passed (one ∷ rest) = by_front passed one rest one.fails refl (tells passed rest)

-- so no number comes otherwise
pub told : (passed : ℕ) (list : List Check) (number : ℕ) → verdict passed list ≡ number → Tells passed list number
told passed list number is = rw is at (tells passed list)

-- the number of a check that stands in a list passes a test that all its numbers pass
numbered_so : (test : ℕ → Bool) (before : List Check) (one : Check) (rest : List Check) → pass_all test (numbers_of (before ++ one ∷ rest)) ≡ true → test one.number ≡ true
unfolding pass_all numbers_of
numbered_so test [] one rest pass = ((and-eq-true_iff (test one.number) _).0 pass).0
numbered_so test (first ∷ before) one rest pass = numbered_so test before one rest ((and-eq-true_iff (test first.number) _).0 pass).1

-- and so does the number that comes
pub number_so : (test : ℕ → Bool) (list : List Check) (number : ℕ) → pass_all test (numbers_of list) ≡ true → FirstFailing list number → test number ≡ true
number_so test list number pass found =
    ap test found.numbered
    ∙ numbered_so test found.before found.one found.rest (ap (λ (others : List Check). pass_all test (numbers_of others)) (sym found.split) ∙ pass)

-- where none of the numbers is the one of a pass, it does not come either
pub not_passed : (passed : ℕ) (list : List Check) (number : ℕ) → Unnumbered passed list → FirstFailing list number → eqb number passed ≡ false
unfolding is_not
not_passed passed list number pass found = not-true (eqb number passed) (number_so (is_not passed) list number pass found)

-- ---- a call

-- The two ways of a call: its message is heard, or it is told the number of the first check that fails.
pub data Called (settings : Settings) (device : Device) (message : List ℕ) (room : ℕ) : Telling → Type 0 where
  heard : none_fails (call_checks device room) ≡ true
      → Called settings device message room (telling (respond settings device message).device (replied (respond settings device message).reply))
  unheard : (number : ℕ) → FirstFailing (call_checks device room) number → Called settings device message room (telling device (no_reply number))

-- no check of a call has the number 0
pub call_numbers : (device : Device) (room : ℕ) → Unnumbered 0 (call_checks device room)
unfolding pass_all numbers_of is_not call_checks
call_numbers device room = refl

module _ (settings : Settings) (device : Device) (message : List ℕ) (room : ℕ) where
  -- where a check of the call fails, the number of the first is told
  pub call_fails : (number : ℕ) → FirstFailing (call_checks device room) number → tell settings device message room ≡ telling device (no_reply number)
  unfolding tell
  call_fails number found = rw (first_fails 0 (call_checks device room) number found, not_passed 0 (call_checks device room) number (call_numbers device room) found)

  -- where none does, the message is heard
  pub call_passes : none_fails (call_checks device room) ≡ true
      → tell settings device message room ≡ telling (respond settings device message).device (replied (respond settings device message).reply)
  unfolding tell
  call_passes pass = rw (all_pass 0 (call_checks device room) pass)

  -- by what the checks of the call tell
  by_call : (number : ℕ) → Tells 0 (call_checks device room) number → Called settings device message room (tell settings device message room)
  by_call number (all_passed pass is) = rw (call_passes pass) (heard pass)
  by_call number (one_fails found) = rw (call_fails number found) (unheard number found)

  -- every call goes one of the two ways
  pub called : Called settings device message room (tell settings device message room)
  called = by_call (verdict 0 (call_checks device room)) (tells 0 (call_checks device room))

  -- only a call that is not heard is told a number
  without_reply : (outcome : Telling) (number : ℕ) → Called settings device message room outcome → outcome.told ≡ no_reply number → FirstFailing (call_checks device room) number
  without_reply outcome number (heard pass) is =
      let never : true ≡ false = cc in
      absurd (true≢false never)
  without_reply outcome number (unheard other found) is =
      let same : other ≡ number = cc in
      rw same at found

  -- so a number that is told is that of the first check that fails
  pub call_failed : (number : ℕ) → (tell settings device message room).told ≡ no_reply number → FirstFailing (call_checks device room) number
  call_failed number is = without_reply (tell settings device message room) number called is

-- ---- a request

-- The two ways of a request: it is refused with the number of the first check that fails, or worked on.
pub data Served (settings : Settings) (device : Device) (payload : List ℕ) (request : Request) : Answered → Type 0 where
  refused : (number : ℕ) → FirstFailing (request_checks device request) number → Served settings device payload request (refuse settings.start device number)
  accepted : none_fails (request_checks device request) ≡ true → Served settings device payload request (reply_to settings.start (work settings device payload request))

module _ (settings : Settings) (device : Device) (payload : List ℕ) (request : Request) where
  -- where a check of the request fails, it is refused with the number of the first
  pub request_fails : (number : ℕ) → FirstFailing (request_checks device request) number → serve settings device payload request ≡ refuse settings.start device number
  unfolding serve verdict_on
  request_fails number found =
      let numbers = request_others device.session.link (option_bytes device.memory.nvr) request in
      rw (first_fails work_done (request_checks device request) number found, not_passed work_done (request_checks device request) number numbers found)

  -- where none does, it is worked on
  pub request_passes : none_fails (request_checks device request) ≡ true → serve settings device payload request ≡ reply_to settings.start (work settings device payload request)
  unfolding serve verdict_on
  request_passes pass = rw (all_pass work_done (request_checks device request) pass)

  -- by what the checks of the request tell
  by_request : (number : ℕ) → Tells work_done (request_checks device request) number → Served settings device payload request (serve settings device payload request)
  by_request number (all_passed pass is) = rw (request_passes pass) (accepted pass)
  by_request number (one_fails found) = rw (request_fails number found) (refused number found)

  -- every request goes one of the two ways
  pub served : Served settings device payload request (serve settings device payload request)
  served =
      by_request (verdict work_done (request_checks device request)) (tells work_done (request_checks device request))
