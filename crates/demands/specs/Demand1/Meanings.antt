-- Document 01, "A message and its reply", "The ten commands" and "Who may touch which page": what the number of a check says, and the order in which the checks stand. The definitions have the checks
-- command by command; here is, number by number, all that each can mean. Definitions only.
use Rattle.std.specs.Prelude.{ℕ, ◌+◌, Bool, true, false, cond, List, [], ◌∷◌, ◌≡◌, eqb, ltb}
use Rattle.memory.specs.Pages.{pages, some_page}
use Rattle.memory.specs.declared.PageRun.{PageRun}
use Rattle.tm32_asks.specs.Checks.{flash_pages, is_length, is_page_count, is_uart}
use Rattle.tm32_asks.specs.Map.{in_go_region, in_read_region, in_user_region, page_count}
use Rattle.tm32_asks.specs.Options.{rdp_on, under_pcrop, under_wrp}
use Rattle.tm32_asks.specs.Rates.{is_rate}
use Rattle.tm32_asks.specs.declared.Link.{Link}
use Rattle.tm32_asks.specs.declared.Request.{Request}
use Rattle.tm32_asks.specs.declared.Request.TheVariants.{Pps, Read, Write, MemoryCrc, Erase, Go, Misshapen}

-- The pages of the flash that a request looks at, where it looks at any, and those that it changes.
pub data Looks : Request → PageRun → Type 0 where
  at_read : (address count : ℕ) → Looks (Read address count) (flash_pages address count)
  at_crc : (address count wanted : ℕ) → Looks (MemoryCrc address count wanted) (flash_pages address count)
  at_erase : (first count : ℕ) → Looks (Erase first count) (pages first count)

pub data Changes : Request → PageRun → Type 0 where
  by_write : (flag address count : ℕ) → Changes (Write flag address count) (flash_pages address count)
  by_erase : (first count : ℕ) → Changes (Erase first count) (pages first count)

-- What each number says of a request, on a link and under option bytes: shape, link, rate, length, page count, address, read protection, PCROP, write protection. Of shape, `Shapes` has the seven ways
-- in which it fails.
pub data Because (link : Link) (options : List ℕ) : Request → ℕ → Type 0 where
  shape : Because link options Misshapen 0x91
  no_uart : (code : ℕ) → is_uart link ≡ false → Because link options (Pps code) 0xF5
  no_rate : (code : ℕ) → is_rate code ≡ false → Because link options (Pps code) 0xF0
  read_length : (address count : ℕ) → is_length count ≡ false → Because link options (Read address count) 0xF2
  write_length : (flag address count : ℕ) → is_length count ≡ false → Because link options (Write flag address count) 0xF2
  crc_length : (address count wanted : ℕ) → eqb count 0 ≡ true → Because link options (MemoryCrc address count wanted) 0xF2
  no_page_count : (first count : ℕ) → is_page_count count ≡ false → Because link options (Erase first count) 0xF3
  read_address : (address count : ℕ) → in_read_region address count ≡ false → Because link options (Read address count) 0xF1
  write_address : (flag address count : ℕ) → in_user_region address count ≡ false → Because link options (Write flag address count) 0xF1
  crc_address : (address count wanted : ℕ) → in_user_region address count ≡ false → Because link options (MemoryCrc address count wanted) 0xF1
  erase_address : (first count : ℕ) → ltb page_count (first + count) ≡ true → Because link options (Erase first count) 0xF1
  go_address : (address : ℕ) → in_go_region address ≡ false → Because link options (Go address) 0xF1
  rdp : (request : Request) (run : PageRun) → Looks request run → ltb 0 run.count ≡ true → rdp_on options ≡ true → Because link options request 0x62
  pcrop : (request : Request) (run : PageRun) → Looks request run → some_page (under_pcrop options) run ≡ true → Because link options request 0x63
  wrp : (request : Request) (run : PageRun) → Changes request run → some_page (under_wrp options) run ≡ true → Because link options request 0x61

-- Shape, link, rate, length, page count, address, read protection, PCROP, write protection.
unfoldable pub order : List ℕ
order = 0x91 ∷ 0xF5 ∷ 0xF0 ∷ 0xF2 ∷ 0xF3 ∷ 0xF1 ∷ 0x62 ∷ 0x63 ∷ 0x61 ∷ []

-- Whether numbers come in the order of a list, each at most once. Some of the list may be left out.
unfoldable pub follows : List ℕ → List ℕ → Bool
follows [] list = true
follows (number ∷ numbers) [] = false
follows (number ∷ numbers) (next ∷ list) = cond (eqb number next) (follows numbers list) (follows (number ∷ numbers) list)
