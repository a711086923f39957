-- Document 01, "What nobody may be able to fake": no two outcomes satisfy the contract of a public function of `frame`, `memory`, `tm32` or `tape`. A contract is an equation:
-- what came out is what a definition works out. So two outcomes that both satisfy it, for one input, are the same. Where slices were lent to be changed, what came out is the
-- result put together with each of them as it is then: here is shown, of each of these ways to put them together, that the same whole has the same parts. The functions with no
-- slice to change have no part but the result. An answer that a promise gives in numbers is fixed by them: no two answers are told by one number; that of `tm32_asks` has
-- its page there.
use Rattle.std.specs.Prelude.{ℕ, List, ◌≡◌, Result, ⊤}
use Rattle.std.specs.Result.{result_map_both}
use Rattle.std.proofs.Common.{Ok, Err, ap, ap₂, refl, sym, ◌∙◌}
use Rattle.frame.specs.Frame as frames
use Rattle.frame.specs.declared.WriteError.{WriteError}
use Rattle.memory.specs.Stores.{Change, change}
use Rattle.memory.specs.Stores as stores
use Rattle.memory.specs.declared.Outside.{Outside}
use Rattle.memory.specs.declared.Programmed.{Programmed}
use Rattle.tape.specs.Blocks.{Kept, kept_rest}
use Rattle.tape.specs.Play.{Left, left_by}
use Rattle.tape.specs.Starting.{Start, started_by}
use Rattle.tape.specs.declared.Stop.{Stop}
use Rattle.tape.proofs.OneOutcome.{same_stop}
use Rattle.tape.specs.declared.Played.{Played}
use Rattle.tm32.specs.After.{After, refusal_number}
use Rattle.tm32.specs.Device.{memory_of}
use Rattle.tm32.specs.Promises.{leaves, turn_of}
use Rattle.tm32.specs.declared.Refusal.{Refusal}
use Rattle.tm32.specs.declared.Session.{Session}
use Rattle.tm32.specs.declared.Turn.{Turn}
use Rattle.tm32.proofs.OneOutcome.{refusal_back, refusal_told, same_answer}

-- The result alone.
pub result_once : {A : Type 0} (one other right : A) → one ≡ right → other ≡ right → one ≡ other
result_once one other right first second = first ∙ sym second

-- frame: write
pub write_once : (one other : Result ℕ WriteError) (buffer buffer' : List ℕ) (right : frames.Outcome)
    → frames.outcome one buffer ≡ right → frames.outcome other buffer' ≡ right → (one ≡ other) × (buffer ≡ buffer')
write_once one other buffer buffer' right first second =
    let same = first ∙ sym second in
    (ap (λ (o : frames.Outcome). o.answer) same, ap (λ (o : frames.Outcome). o.buffer) same)

-- memory: store and fill
pub store_once : (one other : Result ⊤ Outside) (memory memory' : List ℕ) (right : Change)
    → change one memory ≡ right → change other memory' ≡ right → (one ≡ other) × (memory ≡ memory')
store_once one other memory memory' right first second =
    let same = first ∙ sym second in
    (ap (λ (c : Change). c.done) same, ap (λ (c : Change). c.memory) same)

-- memory: program
pub program_once : (one other : Result Programmed Outside) (memory memory' : List ℕ) (right : stores.Outcome)
    → stores.outcome one memory ≡ right → stores.outcome other memory' ≡ right → (one ≡ other) × (memory ≡ memory')
program_once one other memory memory' right first second =
    let same = first ∙ sym second in
    (ap (λ (o : stores.Outcome). o.answer) same, ap (λ (o : stores.Outcome). o.memory) same)

-- tm32: answer
pub answer_once : (one other : Turn) (flash flash' ram ram' nvr nvr' buffer buffer' : List ℕ) (right : After)
    → leaves one (memory_of flash ram nvr) buffer ≡ right → leaves other (memory_of flash' ram' nvr') buffer' ≡ right
    → (one ≡ other) × (flash ≡ flash') × (ram ≡ ram') × (nvr ≡ nvr') × (buffer ≡ buffer')
answer_once one other flash flash' ram ram' nvr nvr' buffer buffer' right first second =
    let same = first ∙ sym second in (
      ap₂ turn_of (ap (λ (o : After). o.device.session) same) (same_answer one.answer other.answer (ap (λ (o : After). o.answer) same)),
      ap (λ (o : After). o.device.memory.flash) same,
      ap (λ (o : After). o.device.memory.ram) same,
      ap (λ (o : After). o.device.memory.nvr) same,
      ap (λ (o : After). o.buffer) same,
    )

-- tape: play
pub play_once : (one other : Played) (flash flash' ram ram' nvr nvr' buffer buffer' : List ℕ) (right : Left)
    → left_by one (memory_of flash ram nvr) buffer ≡ right → left_by other (memory_of flash' ram' nvr') buffer' ≡ right
    → (one ≡ other) × (flash ≡ flash') × (ram ≡ ram') × (nvr ≡ nvr') × (buffer ≡ buffer')
play_once one other flash flash' ram ram' nvr nvr' buffer buffer' right first second =
    let same = first ∙ sym second in (
      ap₂ (λ (l : Left) (stop : Stop). record { session = l.device.session; used = l.used; written = l.written; stop = stop })
          same (same_stop one.stop other.stop (ap (λ (l : Left). l.stop) same)),
      ap (λ (l : Left). l.device.memory.flash) same,
      ap (λ (l : Left). l.device.memory.ram) same,
      ap (λ (l : Left). l.device.memory.nvr) same,
      ap (λ (l : Left). l.buffer) same,
    )

-- a start by its number: two with the same are the same
abbrev start_told : Result Session ℕ → Result Session Refusal
start_told (Ok session) = Ok session
start_told (Err number) = Err (refusal_told number)

start_back : (answer : Result Session Refusal) → start_told (result_map_both (λ session. session) refusal_number answer) ≡ answer
start_back (Ok session) = refl
start_back (Err refusal) = ap Err (refusal_back refusal)

same_start : (one other : Result Session Refusal)
    → result_map_both (λ session. session) refusal_number one ≡ result_map_both (λ session. session) refusal_number other → one ≡ other
same_start one other same = sym (start_back one) ∙ ap start_told same ∙ start_back other

-- tape: fresh
pub fresh_once : (one other : Result Session Refusal) (flash flash' ram ram' nvr nvr' : List ℕ) (right : Start)
    → started_by one (memory_of flash ram nvr) ≡ right → started_by other (memory_of flash' ram' nvr') ≡ right
    → (one ≡ other) × (flash ≡ flash') × (ram ≡ ram') × (nvr ≡ nvr')
fresh_once one other flash flash' ram ram' nvr nvr' right first second =
    let same = first ∙ sym second in (
      same_start one other (ap (λ (s : Start). s.answer) same),
      ap (λ (s : Start). s.memory.flash) same,
      ap (λ (s : Start). s.memory.ram) same,
      ap (λ (s : Start). s.memory.nvr) same,
    )

-- tape: keep_rest
pub keep_rest_once : (one other : ℕ) (block block' : List ℕ) (right : Kept)
    → kept_rest one block ≡ right → kept_rest other block' ≡ right → (one ≡ other) × (block ≡ block')
keep_rest_once one other block block' right first second =
    let same = first ∙ sym second in
    (ap (λ (k : Kept). k.count) same, ap (λ (k : Kept). k.block) same)
