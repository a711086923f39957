-- Document 01, "A message and its reply" and "The ten commands": lemmas for demand 1. A message fails in one of the seven ways exactly if the request that is read in it has no shape. One walk through
-- the tests, in order, shows both.
use Rattle.std.specs.Prelude.{ℕ, ◌+◌, ◌-◌, ◌<◌, Bool, false, cond, List, [], ◌≡◌, ltb, take, Result}
use Rattle.std.proofs.Math.Bool.{true, not}
use Rattle.std.proofs.lemmas.Bool.{false≢true}
use Rattle.std.proofs.Common.{true≢false, sym, ◌∙◌, arith, length-drop, length-take}
use Rattle.std.proofs.Math.Path.{refl, ap}
use borrow.Author.Tests.{eqb-true, ltb-false, not-false, not-true}
use Rattle.std.proofs.Math.Dec.{eqb}
use Rattle.std.proofs.Math.ListN.{get_or, length}
use Rattle.std.proofs.Math.Seq.{get_or-drop, get_or-take}
use Rattle.frame.specs.Crc.{crc}
use Rattle.frame.specs.Frame.{data_of, reading, word_at}
use Rattle.frame.specs.declared.Sound.{Sound}
use Rattle.frame.specs.declared.Spoiled.{Spoiled}
use Rattle.tm32_asks.specs.Checks.{check, checks, none_fails, numbers_of, protections, read_checks, write_checks}
use Rattle.tm32.specs.Device.{Device}
use Rattle.tm32_asks.specs.Request.{exactly, reading_result, request_in, request_of, write_in}
use Rattle.tm32_asks.specs.Results.{work_done, wrong_shape}
use Rattle.tm32_asks.specs.declared.Request.{Request}
use Rattle.tm32_asks.specs.declared.Request.TheVariants.{Misshapen}
use Rattle.memory.proofs.Choices.{of_test}
use Rattle.tm32_asks.proofs.Verdicts.{Unnumbered, is_not, pass_all}
use Rattle.demands.specs.Demand1.Reasons.{Reason, differs, failed, no_hello}
use Rattle.demands.specs.Demand1.Refusals.{is_one_of}
use Rattle.demands.specs.Demand1.Shapes.{Misshapes, commands, flag_above_one, other_crc, other_data_length, other_head, other_length, takes, too_short, unknown_command}
use Rattle.demands.specs.Messages.FirstFailing.{FirstFailing, not_passed, request_checks}

-- A message that passes the four tests of a frame.
record Framed (start : ℕ) (message : List ℕ) : Type 0 where
  long : ltb (length message) 6 ≡ false
  headed : eqb (get_or message 0 0) 0x2D ≡ true
  sized : eqb (length message) (word_at message 2 + 6) ≡ true
  checked : eqb (word_at message (length message - 2)) (crc start (take (length message - 2) message)) ≡ true

-- That a message and a request agree: neither has a shape, or both have one, and then no check of the request is that of shape.
data Agrees (start : ℕ) (device : Device) (message : List ℕ) : Request → Type 0 where
  neither : Misshapes start message → Agrees start device message Misshapen
  both : {request : Request} → Unnumbered wrong_shape (request_checks device request) → (Misshapes start message → ⊥) → Agrees start device message request

-- no test both holds and fails
clash : {test : Bool} → test ≡ true → test ≡ false → ⊥
clash holds fails = true≢false (sym holds ∙ fails)

-- ---- a message that is a frame

module _ (start : ℕ) (device : Device) (message : List ℕ) (framed : Framed start message) where
  -- its length goes with the data length that it says
  counted : length message ≡ word_at message 2 + 6
  counted = eqb-true _ _ framed.sized

  -- its data has that length
  data_length : length (data_of message) ≡ word_at message 2
  unfolding data_of
  data_length = simp (length-take, length-drop) (omega (arith, counted))

  -- and begins with its fifth byte, where there is enough for a Write
  data_first : ltb (length (data_of message)) 5 ≡ false → get_or (data_of message) 0 0 ≡ get_or message 4 0
  unfolding data_of
  data_first enough =
      let some : 0 < length message - 6 = omega (arith, counted, data_length, ltb-false) in
      get_or-take _ _ 0 0 some ∙ get_or-drop 4 message 0 0

  -- where its command is known, takes such data and has no flag above 1, none of the seven holds
  none_holds : is_one_of commands (get_or message 1 0) ≡ true → takes (get_or message 1 0) (word_at message 2) ≡ true
      → (eqb (get_or message 1 0) 0x12 ≡ true → ltb 1 (get_or message 4 0) ≡ false) → Misshapes start message → ⊥
  none_holds known taken low (too_short is) = clash is framed.long
  none_holds known taken low (other_head is) = clash framed.headed is
  none_holds known taken low (other_length is) = clash framed.sized is
  none_holds known taken low (other_crc is) = clash framed.checked is
  none_holds known taken low (unknown_command is) = clash known is
  none_holds known taken low (other_data_length is) = clash taken is
  none_holds known taken low (flag_above_one writes is) = clash is (low writes)

  -- a command that takes just so much data: worked out of it are that its request has a shape, that it is known, that it is not Write, and what the table has for it
  sized_agrees : (code size : ℕ) (request : Request) → Unnumbered wrong_shape (request_checks device request) → is_one_of commands code ≡ true → eqb code 0x12 ≡ false
      → takes code (word_at message 2) ≡ eqb (word_at message 2) size
      → eqb (get_or message 1 0) code ≡ true → Agrees start device message (exactly size (data_of message) request)
  unfolding exactly
  sized_agrees code size request shaped known other table is =
      let named = eqb-true (get_or message 1 0) code is in
      let taken : takes (get_or message 1 0) (word_at message 2) ≡ eqb (length (data_of message)) size = rw (named, data_length) table in
      of_test (Agrees start device message) (eqb (length (data_of message)) size)
      (λ right. both shaped (none_holds (rw named known) (taken ∙ right) (λ writes. absurd (clash writes (rw named other)))))
      (λ wrong. neither (other_data_length (taken ∙ wrong)))

  -- Write
  write_agrees : eqb (get_or message 1 0) 0x12 ≡ true → Agrees start device message (write_in (data_of message))
  unfolding write_in takes is_one_of commands pass_all is_not numbers_of checks protections write_checks
  write_agrees is =
      let named = eqb-true (get_or message 1 0) 0x12 is in
      let taken : takes (get_or message 1 0) (word_at message 2) ≡ not (ltb (length (data_of message)) 5) = rw (named, data_length) in
      of_test (Agrees start device message) (ltb (length (data_of message)) 5) (λ short. neither (other_data_length (taken ∙ ap not short)))
      (λ enough.
      let flag = ap (ltb 1) (sym (data_first enough)) in
      of_test (Agrees start device message) (ltb 1 (get_or (data_of message) 0 0)) (λ above. neither (flag_above_one is (flag ∙ above)))
      (λ low. both refl (none_holds (rw named) (taken ∙ ap not enough) (λ writes. flag ∙ low))))

  -- each of the ten commands, and any other
  command_agrees : Agrees start device message (request_of (get_or message 1 0) (data_of message))
  unfolding request_of takes is_one_of commands pass_all is_not numbers_of checks protections read_checks write_checks
  command_agrees =
      let P : Request → Type 0 = Agrees start device message in
      let command = get_or message 1 0 in
      of_test P (eqb command 0x00) (sized_agrees 0x00 1 _ refl refl refl refl)
      (λ pps. of_test P (eqb command 0x01) (sized_agrees 0x01 0 _ refl refl refl refl)
      (λ get. of_test P (eqb command 0x11) (sized_agrees 0x11 6 _ refl refl refl refl)
      (λ read. of_test P (eqb command 0x12) write_agrees
      (λ write. of_test P (eqb command 0x13) (sized_agrees 0x13 10 _ refl refl refl refl)
      (λ memory_crc. of_test P (eqb command 0x14) (sized_agrees 0x14 4 _ refl refl refl refl)
      (λ erase. of_test P (eqb command 0x21) (sized_agrees 0x21 4 _ refl refl refl refl)
      (λ go. of_test P (eqb command 0x31) (sized_agrees 0x31 22 _ refl refl refl refl)
      (λ write_options. of_test P (eqb command 0x32) (sized_agrees 0x32 0 _ refl refl refl refl)
      (λ read_options. of_test P (eqb command 0x41) (sized_agrees 0x41 0 _ refl refl refl refl)
      (λ heart_beat. neither (unknown_command (rw (pps, get, read, write, memory_crc, erase, go, write_options, read_options, heart_beat)))))))))))))

-- ---- any message

module _ (start : ℕ) (device : Device) (message : List ℕ) where
  -- every message agrees with its request
  agrees : Agrees start device message (request_in start message)
  unfolding request_in reading_result reading
  agrees =
      let P : Result Sound Spoiled → Type 0 = λ reads. Agrees start device message (cond (eqb (reading_result reads) work_done) (request_of (get_or message 1 0) (data_of message)) Misshapen) in
      let place = length message - 2 in
      of_test P (ltb (length message) 6) (λ short. neither (too_short short))
      (λ long. of_test P (not (eqb (get_or message 0 0) 0x2D)) (λ other. neither (other_head (not-true _ other)))
      (λ headed. of_test P (not (eqb (length message) (word_at message 2 + 6))) (λ other. neither (other_length (not-true _ other)))
      (λ sized. of_test P (not (eqb (word_at message place) (crc start (take place message)))) (λ other. neither (other_crc (not-true _ other)))
      (λ checked. command_agrees start device message (record { long = long; headed = not-false _ headed; sized = not-false _ sized; checked = not-false _ checked })))))

  -- where one of the seven holds, shape is the first check that fails
  by_way : (request : Request) → Agrees start device message request → Misshapes start message → FirstFailing (request_checks device request) 0x91
  unfolding checks protections none_fails
  by_way request (neither ways) is = record { before = []; one = check true wrong_shape; rest = []; split = refl; passed = refl; fails = refl; numbered = refl }
  by_way request (both shaped none) is = absurd (none is)

  -- so it is of the request that is read
  pub shape_fails : Misshapes start message → FirstFailing (request_checks device (request_in start message)) 0x91
  shape_fails is = by_way (request_in start message) agrees is

  -- where shape is the first that fails, one of the seven holds
  by_number : (request : Request) → Agrees start device message request → FirstFailing (request_checks device request) 0x91 → Misshapes start message
  by_number request (neither ways) found = ways
  by_number request (both shaped none) found = absurd (clash refl (not_passed 0x91 (request_checks device request) 0x91 shaped found))

  -- so 0x91 is given for nothing else
  pub reason_is_shape : (number : ℕ) → eqb number 0x91 ≡ true → Reason start device message number → Misshapes start message
  reason_is_shape number is (no_hello asks waits) = absurd (false≢true is)
  reason_is_shape number is (failed asks talks other found) = by_number (request_in start message) agrees (rw (eqb-true number 0x91 is) at found)
  reason_is_shape number is (differs asks talks pass address count wanted named other) = absurd (false≢true is)
