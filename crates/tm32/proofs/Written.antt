-- What is kept in flash, and pages that are erased; how long memory is after erases and wipes that it has room for, and how much is read of it.
use Prim.Native.Nat.{ℕ, ◌+◌, ◌*◌, ◌<◌, ◌≤◌}
use mathlib.Core.Bool.{cond}
use mathlib.Core.List.{List}
use mathlib.Core.Path.{◌≡◌, sym, ap, ◌∙◌}
use native.Mathlib.Numerals.{add-one}
use native.Mathlib.Omega.{arith}
use lib.Dec.{lit<}
use lib.ListN.{length, length-take, drop, replicate}
use Rattle.memory.specs.Erases.{erased_pages}
use Rattle.std.specs.Prelude.{Ok}
use Rattle.memory.specs.Stores.{change, kept, part, replaced, replacing}
use Rattle.memory.proofs.Choices.{of_both}
use Rattle.memory.proofs.Laws.{length_kept, length_part, part_of_replaced, stored}
use Rattle.memory.proofs.PageLaws.{erase_fits, erase_length, wipe_length, wipe_of_none, wipe_turn}
use Rattle.tm32.specs.Device.{Memory, bytes_at}
use Rattle.tm32_asks.specs.Map.{blank, flash_length, in_flash, in_ram, nvr_length, options_length, page_count, page_size}
use Rattle.tm32_asks.specs.Options.{option_bytes}
use Rattle.tm32.specs.Work.{erased, wiped, wipes}

-- what is kept of bytes in flash is read back there
pub kept_reads : (flash : List ℕ) (place : ℕ) (bytes : List ℕ) → place + length bytes ≤ length flash
    → part (replaced flash place (kept flash place bytes)) place (length bytes) ≡ kept flash place bytes
kept_reads flash place bytes fits =
    let left = kept flash place bytes in
    let long : length left ≡ length bytes = length_kept flash place bytes fits in
    ap (part (replaced flash place left) place) (sym long) ∙ part_of_replaced flash place left (omega arith)

-- pages of the flash that are filled are erased
pub filled : (flash : List ℕ) (first count : ℕ) → length flash ≡ flash_length → first + count ≤ page_count
    → replacing flash (first * page_size) (replicate (count * page_size) blank) ≡ change (Ok tt) (erased flash first count)
unfolding erased erased_pages
filled flash first count long known = stored flash _ _ (erase_fits page_size blank (lit< tt) page_count flash long first count known)

-- an erase keeps the flash's length
pub erased_length : (flash : List ℕ) (first count : ℕ) → length flash ≡ flash_length → first + count ≤ page_count → length (erased flash first count) ≡ flash_length
unfolding erased
erased_length flash first count long known = erase_length page_size blank (lit< tt) page_count flash long first count known ∙ long

-- and so does the wipe
pub wiped_length : (old new : List ℕ) (page : ℕ) (flash : List ℕ) → length flash ≡ flash_length → page ≤ page_count
    → length (wiped old new page flash) ≡ flash_length
unfolding wiped
wiped_length old new page flash long known = wipe_length page_size blank (lit< tt) (wipes old new) page_count flash long page known ∙ long

-- no page is wiped at first, and then one after the other
pub none_wiped : (old new flash : List ℕ) → wiped old new 0 flash ≡ flash
unfolding wiped
none_wiped old new flash = wipe_of_none page_size blank (wipes old new) 0 flash (λ page before. absurd (omega arith))

pub page_wiped : (old new : List ℕ) (page : ℕ) (flash : List ℕ) → length flash ≡ flash_length → page < page_count
    → wiped old new (page + 1) flash ≡ cond (wipes old new page) (erased (wiped old new page flash) page 1) (wiped old new page flash)
unfolding wiped erased
page_wiped old new page flash long had = rw add-one (wipe_turn page_size blank (lit< tt) (wipes old new) page_count flash long page had)

-- an NVR has all its option bytes
pub option_bytes_length : (nvr : List ℕ) → length nvr ≡ nvr_length → length (option_bytes nvr) ≡ options_length
unfolding option_bytes
option_bytes_length nvr long = length_part nvr _ _ (omega arith)

-- no more bytes are read than were asked for
pub part_length : (memory : List ℕ) (place count : ℕ) → length (part memory place count) ≤ count
unfolding part
part_length memory place count = omega (arith, length-take count (drop place memory))

pub read_length : (memory : Memory) (address count : ℕ) → length (bytes_at memory address count) ≤ count
unfolding bytes_at
read_length memory address count =
    let short : List ℕ → Type 0 = λ bytes. length bytes ≤ count in
    of_both short (in_flash address count) (part_length _ _ count) (of_both short (in_ram address count) (part_length _ _ count) (part_length _ _ count))
