-- Document 01, "A message and its reply" and "When nothing is done": the results, each the byte that stands in the command's place of a reply. 000 has one more, 0x93, which this device never gives.
use Rattle.std.specs.Prelude.{ℕ, Result, Ok, Err, ⊤, ◌≡◌, ◌≢◌, MatchResult}
use Rattle.tm32_asks.specs.declared.results.Complaint.{Complaint}
use Rattle.tm32_asks.specs.declared.results.NoComplaint.{NoComplaint}
use Rattle.tm32_asks.specs.declared.results.Complaint.TheVariants.{NoHandshake, WrongShape, WrongLink, WrongRate, WrongLength, WrongPageCount, WrongAddress, ReadProtected, PcropProtected, WriteProtected, WrongCrc, ReadbackDiffers}

-- Work done.
abbrev pub work_done : ℕ
work_done = 0x90

-- No handshake came before.
abbrev pub no_handshake : ℕ
no_handshake = 0x80

-- Not a message that the device can read.
abbrev pub wrong_shape : ℕ
wrong_shape = 0x91

-- A rate was to be set on a link that has none.
abbrev pub wrong_link : ℕ
wrong_link = 0xF5

-- No such rate.
abbrev pub wrong_rate : ℕ
wrong_rate = 0xF0

-- Nought bytes, or too many.
abbrev pub wrong_length : ℕ
wrong_length = 0xF2

-- Nought pages, or more than there are.
abbrev pub wrong_page_count : ℕ
wrong_page_count = 0xF3

-- Not in a region that the command may use; for Erase, past the last page.
abbrev pub wrong_address : ℕ
wrong_address = 0xF1

-- The chip is under read protection (RDP).
abbrev pub read_protected : ℕ
read_protected = 0x62

-- A touched page is under PCROP.
abbrev pub pcrop_protected : ℕ
pcrop_protected = 0x63

-- A touched page is under write protection (WRP).
abbrev pub write_protected : ℕ
write_protected = 0x61

-- The CRC of the memory is not the one that was sent.
abbrev pub wrong_crc : ℕ
wrong_crc = 0xF4

-- What was written does not read back as it was sent. The work is done all the same.
abbrev pub readback_differs : ℕ
readback_differs = 0x92

-- The number by which a reply says what came of a message: that the work is done, or what is wrong.
abbrev pub number_of : Result ⊤ Complaint → ℕ
number_of (Ok done) = work_done
number_of (Err NoHandshake) = no_handshake
number_of (Err WrongShape) = wrong_shape
number_of (Err WrongLink) = wrong_link
number_of (Err WrongRate) = wrong_rate
number_of (Err WrongLength) = wrong_length
number_of (Err WrongPageCount) = wrong_page_count
number_of (Err WrongAddress) = wrong_address
number_of (Err ReadProtected) = read_protected
number_of (Err PcropProtected) = pcrop_protected
number_of (Err WriteProtected) = write_protected
number_of (Err WrongCrc) = wrong_crc
number_of (Err ReadbackDiffers) = readback_differs

-- The other way round: what is complained of by a number, or that it is a number by which nothing is.
abbrev pub Tells : ℕ → Result Complaint NoComplaint → Type 0
Tells number told =
    MatchResult told (λ complaint. number_of (Err complaint) ≡ number)
    (λ none. (none.0 ≡ number) × ((complaint : Complaint) → number_of (Err complaint) ≢ number))
