-- Document 01, "A message and its reply": lemmas for demand 2. The result of every reply is one that 01 names, and no reply is longer than the room that must be lent for it.
use Rattle.std.specs.Prelude.{ℕ, ◌-◌, ◌≤◌, true, ◌≡◌, refl, eqb, length}
use Rattle.std.proofs.lemmas.Bool.{false≢true}
use mathlib.Core.List.{List, []}
use Rattle.std.proofs.Common.{sym, ap, ◌∙◌, arith, length-append}
use Rattle.std.proofs.Math.Dec.{lit≤}
use Rattle.std.proofs.Math.ListN.{drop}
use Rattle.frame.specs.Crc.{crc}
use Rattle.frame.specs.Frame.{data_of, frame, word}
use Rattle.frame.proofs.Laws.{length_frame}
use Rattle.tm32_asks.specs.Checks.{most_bytes, none_fails}
use Rattle.tm32.specs.Device.{Device, bytes_at}
use Rattle.tm32_asks.specs.Map.{nvr_start, options_length, options_start}
use Rattle.tm32_asks.specs.Numbers.{long}
use Rattle.tm32_asks.specs.Options.{option_bytes}
use Rattle.tm32_asks.specs.Request.{request_in}
use Rattle.tm32.specs.Respond.{Answered, greet, hello_back, refuse, reply_to, respond}
use Rattle.tm32_asks.specs.Results.{no_handshake, readback_differs, work_done, wrong_crc, wrong_shape}
use Rattle.tm32.specs.Work.{compared, information, work, written}
use Rattle.tm32_asks.specs.declared.Request.{Request}
use Rattle.tm32_asks.specs.declared.Request.TheVariants.{Pps, Get, Read, Write, MemoryCrc, Erase, Go, WriteOptions, ReadOptions, HeartBeat, Misshapen}
use Rattle.tm32.specs.declared.Settings.{Settings}
use Rattle.memory.proofs.Choices.{of_both}
use Rattle.tm32_asks.proofs.Accepted.{read_accepted}
use Rattle.tm32_asks.proofs.Verdicts.{of_numbers, pass_all}
use Rattle.tm32.proofs.Written.{part_length, read_length}
use Rattle.demands.specs.Demand1.Refusals.{is_one_of}
use Rattle.demands.specs.Demand1.WorkRefused.{of_readback}
use Rattle.demands.specs.Demand2.Replies.{Reply, Sized, framed, greeting, is_result, nothing, results}
use Rattle.demands.specs.Messages.FirstFailing.{FirstFailing, number_so, request_checks}
use Rattle.demands.specs.Messages.Ways.{Heard, greeted, heard_so, no_frame, same_number, silent, turned_away, unshaken, worked_on}

-- ---- results

-- a request is refused with one of them
pub refusal_result : (device : Device) (request : Request) (number : ℕ) → FirstFailing (request_checks device request) number → is_result number ≡ true
unfolding pass_all is_result is_one_of results
refusal_result device request number found =
    number_so is_result (request_checks device request) number (of_numbers (λ numbers. pass_all is_result numbers ≡ true) refl refl refl refl refl refl refl device.session.link (option_bytes device.memory.nvr) request) found

-- and before the handshake too
pub unshaken_result : is_result no_handshake ≡ true
unfolding is_result is_one_of results
unshaken_result = refl

-- what holds of the four results that work has holds of that of every request
module _ (P : ℕ → Type 0) (done : P work_done) (differs : P readback_differs) (wrong : P wrong_crc) (shapeless : P wrong_shape) where
  pub of_results : (settings : Settings) (device : Device) (payload : List ℕ) (request : Request) → P (work settings device payload request).result
  unfolding work compared
  of_results settings device payload (Pps code) = done
  of_results settings device payload Get = done
  of_results settings device payload (Read address count) = done
  of_results settings device payload (Write flag address count) =
      let bytes = drop 5 payload in
      let after = written device.memory address bytes in
      of_readback P done differs flag address bytes after
  of_results settings device payload (MemoryCrc address count wanted) = of_both P (eqb (crc settings.start (bytes_at device.memory address count)) wanted) done wrong
  of_results settings device payload (Erase first count) = done
  of_results settings device payload (Go address) = done
  of_results settings device payload WriteOptions = done
  of_results settings device payload ReadOptions = done
  of_results settings device payload HeartBeat = done
  of_results settings device payload Misshapen = shapeless

-- and work ends with one
pub work_result : (settings : Settings) (device : Device) (payload : List ℕ) (request : Request) → is_result (work settings device payload request).result ≡ true
unfolding is_result is_one_of results
work_result = of_results (λ (number : ℕ). is_result number ≡ true) refl refl refl refl

module _ (settings : Settings) (device : Device) (message : List ℕ) where
  -- by the way of the message
  by_way : (answer : Answered) → Heard settings device message answer → Reply settings.start answer.reply
  unfolding greet refuse reply_to
  by_way answer (silent unheeded) = nothing
  by_way answer (greeted here hail) = greeting
  by_way answer (unshaken asks waits) = framed no_handshake [] unshaken_result
  by_way answer (turned_away asks talks number found) = framed number [] (refusal_result device (request_in settings.start message) number found)
  by_way answer (worked_on asks talks pass) = framed _ _ (work_result settings device (data_of message) (request_in settings.start message))

  -- every reply is one of the three
  pub reply_so : Reply settings.start (respond settings device message).reply
  reply_so = by_way (respond settings device message) (heard_so settings device message)

-- a frame of another number is none of them
pub other_result : (start : ℕ) (bytes payload : List ℕ) → Reply start bytes → bytes ≡ frame start 0x93 payload → ⊥
unfolding is_result is_one_of results
other_result start bytes payload nothing is = no_frame start [] 0x93 payload refl is
other_result start bytes payload greeting is = no_frame start hello_back 0x93 payload refl is
other_result start bytes payload (framed number own table) is = false≢true (ap is_result (sym (same_number start number 0x93 own payload is)) ∙ table)

-- ---- lengths

-- the option bytes fit a reply
options_short : (nvr : List ℕ) → length (option_bytes nvr) ≤ most_bytes
unfolding option_bytes
options_short nvr = omega (arith, part_length nvr (options_start - nvr_start) options_length)

-- Get tells 24 bytes
pub information_length : (settings : Settings) → Sized settings → length (information settings) ≡ 24
unfolding information long word
information_length settings sized = simp length-append (omega arith)

module _ (settings : Settings) (sized : Sized settings) (device : Device) (payload : List ℕ) where
  -- and so does all that a command replies
  payload_short : (request : Request) → none_fails (request_checks device request) ≡ true → length (work settings device payload request).payload ≤ most_bytes
  unfolding work
  payload_short (Pps code) pass = lit≤ tt
  payload_short Get pass = omega (arith, information_length settings sized)
  payload_short (Read address count) pass = omega (arith, read_length device.memory address count, (read_accepted _ _ address count pass).short)
  payload_short (Write flag address count) pass = lit≤ tt
  payload_short (MemoryCrc address count wanted) pass = lit≤ tt
  payload_short (Erase first count) pass = lit≤ tt
  payload_short (Go address) pass = lit≤ tt
  payload_short WriteOptions pass = lit≤ tt
  payload_short ReadOptions pass = options_short device.memory.nvr
  payload_short HeartBeat pass = lit≤ tt
  payload_short Misshapen pass = lit≤ tt

module _ (settings : Settings) (sized : Sized settings) (device : Device) (message : List ℕ) where
  -- by the way of the message
  by_length : (answer : Answered) → Heard settings device message answer → length answer.reply ≤ 1030
  unfolding greet refuse reply_to
  by_length answer (silent unheeded) = lit≤ tt
  by_length answer (greeted here hail) = lit≤ tt
  by_length answer (unshaken asks waits) = omega (arith, length_frame settings.start no_handshake [])
  by_length answer (turned_away asks talks number found) = omega (arith, length_frame settings.start number [])
  by_length answer (worked_on asks talks pass) =
      let done = work settings device (data_of message) (request_in settings.start message) in
      omega (arith, length_frame settings.start done.result done.payload, payload_short settings sized device (data_of message) (request_in settings.start message) pass)

  -- so no reply is longer than the room that must be lent for it
  pub reply_short : length (respond settings device message).reply ≤ 1030
  reply_short = by_length (respond settings device message) (heard_so settings device message)
