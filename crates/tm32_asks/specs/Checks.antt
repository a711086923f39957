-- Document 01, "A message and its reply" and "Who may touch which page": the checks, in order, and what becomes of them.
use Rattle.std.specs.Prelude.{ℕ, ◌+◌, ◌-◌, Bool, true, false, cond, not, ◌&&◌, List, [], ◌∷◌, ◌++◌, map, eqb, ltb}
use Rattle.memory.specs.declared.PageRun.{PageRun}
use Rattle.memory.specs.Pages.{pages, some_page, touched}
use Rattle.tm32_asks.specs.Map.{flash_start, in_flash, page_count, page_size, in_read_region, in_go_region, in_user_region}
use Rattle.tm32_asks.specs.Numbers.{from_one_to}
use Rattle.tm32_asks.specs.Options.{rdp_on, under_pcrop, under_wrp}
use Rattle.tm32_asks.specs.Rates.{is_rate}
use Rattle.tm32_asks.specs.Results.{wrong_shape, wrong_link, wrong_rate, wrong_length, wrong_page_count, wrong_address, read_protected, pcrop_protected, write_protected}
use Rattle.tm32_asks.specs.declared.Link.{Link}
use Rattle.tm32_asks.specs.declared.Link.TheVariants.{Uart, Spi, I2c}
use Rattle.tm32_asks.specs.declared.Request.{Request}
use Rattle.tm32_asks.specs.declared.Request.TheVariants.{Pps, Get, Read, Write, MemoryCrc, Erase, Go, WriteOptions, ReadOptions, HeartBeat, Misshapen}

-- A check: whether it fails, and the number that it then gives.
pub record Check : Type 0 where
  pub fails : Bool
  pub number : ℕ

-- The two put together.
abbrev pub check : Bool → ℕ → Check
check fails number = record { fails = fails; number = number }

-- The number of the first check that fails, or `passed` where none does. Whoever asks gives a number for it that no check of the list has.
unfoldable pub verdict : ℕ → List Check → ℕ
verdict passed [] = passed
verdict passed (first ∷ rest) = cond first.fails first.number (verdict passed rest)

-- Whether none of some checks fails.
unfoldable pub none_fails : List Check → Bool
none_fails [] = true
none_fails (first ∷ rest) = not first.fails && none_fails rest

-- The numbers of some checks.
unfoldable pub numbers_of : List Check → List ℕ
numbers_of = map (λ (one : Check). one.number)

-- Only a UART has a rate to set.
abbrev pub is_uart : Link → Bool
is_uart Uart = true
is_uart Spi = false
is_uart I2c = false

-- The most bytes that Read and Write take.
abbrev pub most_bytes : ℕ
most_bytes = 1024

-- They take 1 byte to so many.
abbrev pub is_length : ℕ → Bool
is_length count = from_one_to most_bytes count

-- Erase takes 1 page to all of them.
abbrev pub is_page_count : ℕ → Bool
is_page_count count = from_one_to page_count count

-- What is checked before protection: shape, link, rate, length, page count, address, of each command those that it has.
unfoldable pub checks : Link → Request → List Check
checks link (Pps code) = check (not (is_uart link)) wrong_link ∷ check (not (is_rate code)) wrong_rate ∷ []
checks link Get = []
checks link (Read address count) = check (not (is_length count)) wrong_length ∷ check (not (in_read_region address count)) wrong_address ∷ []
checks link (Write flag address count) = check (not (is_length count)) wrong_length ∷ check (not (in_user_region address count)) wrong_address ∷ []
checks link (MemoryCrc address count wanted) = check (eqb count 0) wrong_length ∷ check (not (in_user_region address count)) wrong_address ∷ []
checks link (Erase first count) = check (not (is_page_count count)) wrong_page_count ∷ check (ltb page_count (first + count)) wrong_address ∷ []
checks link (Go address) = check (not (in_go_region address)) wrong_address ∷ []
checks link WriteOptions = []
checks link ReadOptions = []
checks link HeartBeat = []
checks link Misshapen = check true wrong_shape ∷ []

-- The pages of the flash that a range touches. Elsewhere there are none, so RAM and NVR are free of all protection.
unfoldable pub flash_pages : ℕ → ℕ → PageRun
flash_pages address count = cond (in_flash address count) (touched page_size (address - flash_start) count) (pages 0 0)

-- Against looking at pages: read protection, where there is a page at all, then PCROP.
unfoldable pub read_checks : List ℕ → PageRun → List Check
read_checks options run = check (ltb 0 run.count && rdp_on options) read_protected ∷ check (some_page (under_pcrop options) run) pcrop_protected ∷ []

-- Against changing pages: write protection.
unfoldable pub write_checks : List ℕ → PageRun → List Check
write_checks options run = check (some_page (under_wrp options) run) write_protected ∷ []

-- Protection. Read and Memory CRC look at pages, Write changes them, and Erase counts as both. The other commands are free of it; the wipe is part of the work of Write options.
unfoldable pub protections : List ℕ → Request → List Check
protections options (Pps code) = []
protections options Get = []
protections options (Read address count) = read_checks options (flash_pages address count)
protections options (Write flag address count) = write_checks options (flash_pages address count)
protections options (MemoryCrc address count wanted) = read_checks options (flash_pages address count)
protections options (Erase first count) = read_checks options (pages first count) ++ write_checks options (pages first count)
protections options (Go address) = []
protections options WriteOptions = []
protections options ReadOptions = []
protections options HeartBeat = []
protections options Misshapen = []

-- All the checks of a request, in order.
abbrev pub checks_of : Link → List ℕ → Request → List Check
checks_of link options request = checks link request ++ protections options request
