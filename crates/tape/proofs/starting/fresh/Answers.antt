-- `tape::starting::fresh` meets its contract: memory that is filled from end to end is what it was filled with.
use Prim.Native.Nat.{ℕ, ◌-◌}
use mathlib.Core.List.{List, ◌++◌}
use mathlib.Core.Path.{◌≡◌, ap, ap₂, ◌∙◌}
use borrow.Author.Rules.{rules}
use borrow.Author.Tests.{eq-eqb}
use borrow.Rule.Slice.PartMut.{put_mid}
use lib.ListN.{length, replicate, take}
use lib.Seq.{drop-drop}
use Rattle.std.specs.Prelude.{Ok}
use Rattle.frame.specs.Frame.{word}
use Rattle.memory.specs.Stores.{replaced}
use Rattle.tm32.specs.After.{call_checks}
use Rattle.tm32.specs.Device.{Memory, memory_of}
use Rattle.tm32.specs.Fresh.{fresh_device, fresh_flash, fresh_nvr, fresh_options, fresh_ram}
use Rattle.tm32_asks.specs.Checks.{verdict}
use Rattle.tm32_asks.specs.Map.{flash_length, nvr_length, nvr_start, options_start, ram_length}
use Rattle.tm32_asks.specs.Numbers.{from_one_to}
use Rattle.tape.specs.Starting.{started, starting}
use Rattle.tape.proofs.starting.fresh.Goals as goal

-- where the lengths are right, what is to come of it is the fresh device
begun : (memory : Memory) → length memory.flash ≡ flash_length → length memory.ram ≡ ram_length → length memory.nvr ≡ nvr_length
    → starting memory ≡ started (Ok fresh_device.session) (memory_of fresh_flash fresh_ram fresh_nvr)
unfolding starting call_checks verdict from_one_to fresh_device
begun memory flash ram nvr = simp (eq-eqb _ _ flash, eq-eqb _ _ ram, eq-eqb _ _ nvr)

-- the option bytes, put into an NVR of noughts
options_put : (nvr bytes : List ℕ) → nvr ≡ replicate nvr_length 0 → bytes ≡ fresh_options → put_mid (options_start - nvr_start) 22 nvr bytes ≡ fresh_nvr
unfolding fresh_nvr fresh_options replaced word
options_put nvr bytes clear options =
    ap₂ (put_mid (options_start - nvr_start) 22) clear options
    ∙ ap (λ (rest : List ℕ). take (options_start - nvr_start) (replicate nvr_length 0) ++ (fresh_options ++ rest)) (drop-drop 22 (options_start - nvr_start) (replicate nvr_length 0))

pub returns-clause-outcome : goal.returns-clause-outcome
unfolding fresh_flash fresh_ram fresh_device fresh_options word
returns-clause-outcome c =
    let flash : c.fill.new.self ≡ fresh_flash = c.fill.ensures.after (search rules) ∙ ap (λ (length : ℕ). replicate length 0xFF) c.in_ok-check.ensures in
    let ram : c.fill-2.new.self ≡ fresh_ram = c.fill-2.ensures.after (search rules) ∙ ap (λ (length : ℕ). replicate length 0) c.in_ok-check-2.ensures in
    let nvr : c.fill-3.new.self ≡ replicate nvr_length 0 = c.fill-3.ensures.after (search rules) ∙ ap (λ (length : ℕ). replicate length 0) c.in_ok-check-3.ensures in
    rw (begun _ c.in_ok-check.ensures c.in_ok-check-2.ensures c.in_ok-check-3.ensures, flash, ram, options_put _ _ nvr c.copy_from_slice.ensures.after, c.start.ensures)
