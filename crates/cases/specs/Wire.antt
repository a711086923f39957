-- Messages and bytes for the worked cases. A message is put together from its fields and framed; a reply is written out whole, as it stands on the wire. Two of the framed replies are
-- printed in document 01, and the CRCs of the others were worked out apart from the definitions under trial (docs/DECISIONS.md says how).
use Rattle.std.specs.Prelude.{ℕ, zero, suc, ◌/◌, ◌%◌, ◌^◌, List, [], ◌∷◌, ◌++◌}
use Rattle.frame.specs.Frame.{frame}

-- So many bytes, printed as one number, the first byte first.
unfoldable pub hex : ℕ → ℕ → List ℕ
hex zero number = []
hex (suc count) number = number / 256 ^ count % 256 ∷ hex count number

-- A number in so many bytes, the low byte first.
unfoldable pub little : ℕ → ℕ → List ℕ
little zero number = []
little (suc count) number = number % 256 ∷ little count (number / 256)

-- The handshake, and what answers it.
abbrev pub handshake : List ℕ
handshake = hex 1 0x7F

abbrev pub shaken : List ℕ
shaken = hex 1 0x79

-- Heart beat and the reply to it, both as 01 prints them. Work done without data always looks like that.
abbrev pub heart_beat : List ℕ
heart_beat = hex 6 0x2D4100005524

abbrev pub done : List ℕ
done = hex 6 0x2D900000F176

-- A message: command and data.
unfoldable pub message : ℕ → List ℕ → List ℕ
message = frame 0

abbrev pub ask_pps : ℕ → List ℕ
ask_pps code = message 0x00 (code ∷ [])

abbrev pub ask_get : List ℕ
ask_get = message 0x01 []

abbrev pub ask_read : ℕ → ℕ → List ℕ
ask_read address count = message 0x11 (little 4 address ++ little 2 count)

-- The flag asks for readback.
abbrev pub ask_write : ℕ → ℕ → List ℕ → List ℕ
ask_write flag address bytes = message 0x12 (flag ∷ little 4 address ++ bytes)

abbrev pub ask_memory_crc : ℕ → ℕ → ℕ → List ℕ
ask_memory_crc address count crc = message 0x13 (little 4 address ++ little 4 count ++ little 2 crc)

abbrev pub ask_erase : ℕ → ℕ → List ℕ
ask_erase first count = message 0x14 (little 2 first ++ little 2 count)

abbrev pub ask_go : ℕ → List ℕ
ask_go address = message 0x21 (little 4 address)

abbrev pub ask_write_options : List ℕ → List ℕ
ask_write_options = message 0x31

abbrev pub ask_read_options : List ℕ
ask_read_options = message 0x32 []

-- Halfwords as they stand among the option bytes.
unfoldable pub halfwords : List ℕ → List ℕ
halfwords [] = []
halfwords (one ∷ rest) = little 2 one ++ halfwords rest

-- The eleven halfwords: RDP, one more, the four ends of the PCROP ranges, the four of the WRP ranges, and one more.
unfoldable pub options : ℕ → List ℕ → List ℕ → List ℕ
options rdp pcrop wrp = halfwords (rdp ∷ 0 ∷ pcrop ++ wrp ++ 0 ∷ [])

-- Two ranges that protect nothing, and two of which the first or the second protects one page.
abbrev pub no_pages : List ℕ
no_pages = 0xFF ∷ 0 ∷ 0xFF ∷ 0 ∷ []

abbrev pub first : ℕ → List ℕ
first page = page ∷ page ∷ 0xFF ∷ 0 ∷ []

abbrev pub second : ℕ → List ℕ
second page = 0xFF ∷ 0 ∷ page ∷ page ∷ []

-- As on the fresh device: nothing is protected.
abbrev pub off : List ℕ
off = options 0xAA no_pages no_pages
