-- What is known of a request that the checks let through: its range lies in its region, and its data has the length that it says.
use Prim.Native.Nat.{ℕ, ◌+◌, ◌≤◌}
use mathlib.Core.Bool.{true, false}
use mathlib.Core.List.{List, ◌∷◌}
use mathlib.Core.Path.{◌≡◌, sym, subst, ◌∙◌}
use native.Mathlib.Omega.{arith}
use lib.Dec.{eqb, ltb}
use lib.ListN.{length, drop, get_or, length-drop}
use Rattle.std.proofs.lemmas.Bool.Decides.{nat_tests}
use Rattle.frame.specs.Frame.{data_of, reading}
use Rattle.memory.specs.Pages.{pages, some_page}
use Rattle.memory.proofs.Choices.{of_both, of_test}
use Rattle.tm32_asks.specs.Checks.{Check, checks, checks_of, flash_pages, most_bytes, none_fails, protections, read_checks, write_checks}
use Rattle.tm32_asks.specs.Map.{in_read_region, in_user_region, options_length, page_count}
use Rattle.tm32_asks.specs.Numbers.{from_one_to}
use Rattle.tm32_asks.specs.Options.{under_wrp}
use Rattle.tm32_asks.specs.Request.{exactly, reading_result, request_in, request_of, write_in}
use Rattle.tm32_asks.specs.Results.{work_done}
use Rattle.tm32_asks.specs.declared.Link.{Link}
use Rattle.tm32_asks.specs.declared.Request.{Request}
use Rattle.tm32_asks.specs.declared.Request.TheVariants.{Pps, Get, Read, Write, MemoryCrc, Erase, Go, WriteOptions, ReadOptions, HeartBeat, Misshapen}

-- ---- what the checks say where they pass

-- the first of some checks that pass, and the others
pub next : (one : Check) (rest : List Check) → none_fails (one ∷ rest) ≡ true → (one.fails ≡ false) × (none_fails rest ≡ true)
unfolding none_fails
next one rest pass = (grind (arith, nat_tests), grind (arith, nat_tests))

-- What is known of a Read.
pub record ReadAccepted (address count : ℕ) : Type 0 where
  pub short : count ≤ most_bytes
  pub inside : in_read_region address count ≡ true

-- Of a Write: it touches no page under write protection either.
pub record WriteAccepted (options : List ℕ) (address count : ℕ) : Type 0 where
  pub short : count ≤ most_bytes
  pub inside : in_user_region address count ≡ true
  pub unprotected : some_page (under_wrp options) (flash_pages address count) ≡ false

-- Of an Erase, the same.
pub record EraseAccepted (options : List ℕ) (first count : ℕ) : Type 0 where
  pub inside : first + count ≤ page_count
  pub unprotected : some_page (under_wrp options) (pages first count) ≡ false

module _ (link : Link) (options : List ℕ) where
  pub read_accepted : (address count : ℕ) → none_fails (checks_of link options (Read address count)) ≡ true → ReadAccepted address count
  unfolding checks none_fails from_one_to
  read_accepted address count pass = record { short = grind (arith, nat_tests); inside = grind (arith, nat_tests) }

  pub write_accepted : (flag address count : ℕ) → none_fails (checks_of link options (Write flag address count)) ≡ true → WriteAccepted options address count
  unfolding checks protections write_checks none_fails from_one_to
  write_accepted flag address count pass = record { short = grind (arith, nat_tests); inside = grind (arith, nat_tests); unprotected = grind (arith, nat_tests) }

  -- of a Memory CRC only that its range lies in a region: it may be as long as that
  pub crc_accepted : (address count wanted : ℕ) → none_fails (checks_of link options (MemoryCrc address count wanted)) ≡ true → in_user_region address count ≡ true
  unfolding checks none_fails
  crc_accepted address count wanted pass = grind (arith, nat_tests)

  pub erase_accepted : (first count : ℕ) → none_fails (checks_of link options (Erase first count)) ≡ true → EraseAccepted options first count
  unfolding checks protections read_checks write_checks none_fails
  erase_accepted first count pass = record { inside = grind (arith, nat_tests); unprotected = grind (arith, nat_tests) }

-- ---- the shape of data

-- The data of a write: flag and address are there, and the rest is as many bytes as the request says.
pub record WriteShaped (payload : List ℕ) (count : ℕ) : Type 0 where
  pub headed : 5 ≤ length payload
  pub counted : length (drop 5 payload) ≡ count

-- What is known of data from the request that was read in it.
unfoldable pub Shaped : List ℕ → Request → Type 0
Shaped payload (Pps code) = Unit {0}
Shaped payload Get = Unit {0}
Shaped payload (Read address count) = Unit {0}
Shaped payload (Write flag address count) = WriteShaped payload count
Shaped payload (MemoryCrc address count wanted) = Unit {0}
Shaped payload (Erase first count) = Unit {0}
Shaped payload (Go address) = Unit {0}
Shaped payload WriteOptions = length payload ≡ options_length
Shaped payload ReadOptions = Unit {0}
Shaped payload HeartBeat = Unit {0}
Shaped payload Misshapen = Unit {0}

-- data that must be just so long
exactly_shaped : (count : ℕ) (payload : List ℕ) (request : Request) → (length payload ≡ count → Shaped payload request) → Shaped payload (exactly count payload request)
unfolding exactly Shaped
exactly_shaped count payload request so = of_test (Shaped payload) (eqb (length payload) count) (λ is. so (grind (arith, nat_tests))) (λ other. tt)

write_shaped : (payload : List ℕ) → Shaped payload (write_in payload)
unfolding Shaped write_in
write_shaped payload =
    of_test (Shaped payload) (ltb (length payload) 5) (λ short. tt)
    (λ long. of_both (Shaped payload) (ltb 1 (get_or payload 0 0)) tt (record { headed = grind (arith, nat_tests); counted = length-drop 5 payload }))

command_shaped : (command : ℕ) (payload : List ℕ) → Shaped payload (request_of command payload)
unfolding Shaped request_of
command_shaped command payload =
    of_both (Shaped payload) (eqb command 0x00) (exactly_shaped 1 payload _ (λ is. tt))
    (of_both (Shaped payload) (eqb command 0x01) (exactly_shaped 0 payload _ (λ is. tt))
    (of_both (Shaped payload) (eqb command 0x11) (exactly_shaped 6 payload _ (λ is. tt))
    (of_both (Shaped payload) (eqb command 0x12) (write_shaped payload)
    (of_both (Shaped payload) (eqb command 0x13) (exactly_shaped 10 payload _ (λ is. tt))
    (of_both (Shaped payload) (eqb command 0x14) (exactly_shaped 4 payload _ (λ is. tt))
    (of_both (Shaped payload) (eqb command 0x21) (exactly_shaped 4 payload _ (λ is. tt))
    (of_both (Shaped payload) (eqb command 0x31) (exactly_shaped options_length payload _ (λ is. is))
    (of_both (Shaped payload) (eqb command 0x32) (exactly_shaped 0 payload _ (λ is. tt))
    (of_both (Shaped payload) (eqb command 0x41) (exactly_shaped 0 payload _ (λ is. tt))
    tt)))))))))

-- the data of every message has the shape that its request says
pub shaped_so : (start : ℕ) (message : List ℕ) → Shaped (data_of message) (request_in start message)
unfolding request_in Shaped
shaped_so start message = of_both (Shaped (data_of message)) (eqb (reading_result (reading start message)) work_done) (command_shaped (get_or message 1 0) (data_of message)) tt

-- under the name that the request is known by
pub shaped_as : (start : ℕ) (message : List ℕ) {request known : Request} → request ≡ known → request ≡ request_in start message → Shaped (data_of message) known
shaped_as start message named read = subst (Shaped (data_of message)) (sym read ∙ named) (shaped_so start message)
