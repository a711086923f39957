-- Document 01, "Who may touch which page": what the 22 option bytes say. A bit that no definition here looks at says nothing; it is stored and read back like the others.
use Rattle.std.specs.Prelude.{ℕ, ◌+◌, ◌*◌, ◌-◌, Bool, true, not, ◌||◌, List, ◌≡◌, eqb, get_or}
use Rattle.memory.specs.Pages.{covers}
use Rattle.memory.specs.Stores.{part}
use Rattle.tm32_asks.specs.Map.{nvr_start, options_start, options_length, page_count}
use Rattle.tm32_asks.specs.declared.options.PageProtection.{PageProtection}
use Rattle.tm32_asks.specs.declared.options.PageProtection.TheVariants.{Pcrop, Wrp}

-- The option bytes of an NVR.
unfoldable pub option_bytes : List ℕ → List ℕ
option_bytes nvr = part nvr (options_start - nvr_start) options_length

-- The low byte of a halfword. Halfwords count from 1.
abbrev pub low_byte : List ℕ → ℕ → ℕ
low_byte options halfword = get_or options (2 * (halfword - 1)) 0

-- Read protection: off with 0xAA in halfword 1, and on with anything else.
unfoldable pub rdp_on : List ℕ → Bool
rdp_on options = not (eqb (low_byte options 1) 0xAA)

-- Whether a page is in the range whose start stands in a halfword and whose end stands in the next.
abbrev pub in_range : List ℕ → ℕ → ℕ → Bool
in_range options halfword page = covers page_count (low_byte options halfword) (low_byte options (halfword + 1)) page

-- Whether a page is in that range or in the next one, two halfwords on.
unfoldable pub in_either : List ℕ → ℕ → ℕ → Bool
in_either options halfword page = in_range options halfword page || in_range options (halfword + 2) page

-- Whether a page is under PCROP: two ranges, in halfwords 3 and 4, and 5 and 6.
abbrev pub under_pcrop : List ℕ → ℕ → Bool
under_pcrop options = in_either options 3

-- Whether a page is under WRP: two ranges, in halfwords 7 and 8, and 9 and 10.
abbrev pub under_wrp : List ℕ → ℕ → Bool
under_wrp options = in_either options 7

-- Whether a page is under the one of the two that is named.
abbrev pub under : PageProtection → List ℕ → ℕ → Bool
under Pcrop = under_pcrop
under Wrp = under_wrp

-- That the first option bytes protect all that the second do: read protection, and each page under PCROP or WRP.
pub record ProtectAll (strict loose : List ℕ) : Type 0 where
  pub rdp : rdp_on loose ≡ true → rdp_on strict ≡ true
  pub pcrop : (page : ℕ) → under_pcrop loose page ≡ true → under_pcrop strict page ≡ true
  pub wrp : (page : ℕ) → under_wrp loose page ≡ true → under_wrp strict page ≡ true
