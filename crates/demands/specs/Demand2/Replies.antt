-- Document 01, "A message and its reply": what a reply can be, and which requests ask for data. Definitions only.
use Rattle.std.specs.Prelude.{ℕ, Bool, true, false, List, [], ◌∷◌, ◌≡◌, length}
use Rattle.frame.specs.Frame.{frame}
use Rattle.tm32.specs.Respond.{hello_back}
use Rattle.tm32_asks.specs.declared.Request.{Request}
use Rattle.tm32_asks.specs.declared.Request.TheVariants.{Pps, Get, Read, Write, MemoryCrc, Erase, Go, WriteOptions, ReadOptions, HeartBeat, Misshapen}
use Rattle.tm32.specs.declared.Settings.{Settings}
use Rattle.demands.specs.Demand1.Refusals.{is_one_of}

-- The results that 01 names.
unfoldable pub results : List ℕ
results = 0x90 ∷ 0x80 ∷ 0x91 ∷ 0xF5 ∷ 0xF0 ∷ 0xF2 ∷ 0xF3 ∷ 0xF1 ∷ 0x62 ∷ 0x63 ∷ 0x61 ∷ 0xF4 ∷ 0x92 ∷ []

-- Whether a number is one of these.
unfoldable pub is_result : ℕ → Bool
is_result number = is_one_of results number

-- What a reply can be, where a CRC starts from a value: nothing, the answer to the handshake, or the frame of such a result.
pub data Reply (start : ℕ) : List ℕ → Type 0 where
  nothing : Reply start []
  greeting : Reply start hello_back
  framed : (number : ℕ) (payload : List ℕ) → is_result number ≡ true → Reply start (frame start number payload)

-- That the settings have the lengths that Get tells of: two bytes of version, and twelve of serial number.
pub record Sized (settings : Settings) : Type 0 where
  pub version : length settings.version ≡ 2
  pub serial : length settings.serial ≡ 12

-- Whether a request asks for data.
unfoldable pub tells_data : Request → Bool
tells_data (Pps code) = false
tells_data Get = true
tells_data (Read address count) = true
tells_data (Write flag address count) = false
tells_data (MemoryCrc address count wanted) = false
tells_data (Erase first count) = false
tells_data (Go address) = false
tells_data WriteOptions = false
tells_data ReadOptions = true
tells_data HeartBeat = false
tells_data Misshapen = false
