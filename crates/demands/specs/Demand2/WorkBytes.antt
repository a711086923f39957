-- Document 01, "The chip on the bench": lemmas for demand 2. Where memory, message and settings are made of bytes, all work leaves bytes and replies with bytes.
use Rattle.std.specs.Prelude.{ℕ, ◌+◌, ◌-◌, ◌/◌, ◌≤◌, true, ◌≡◌, refl, ltb, length}
use mathlib.Core.List.{List, [], ◌∷◌, ◌++◌}
use Rattle.std.proofs.Common.{le_refl, arith, ltb-true, lit<}
use Rattle.std.proofs.Math.ListN.{drop}
use Rattle.frame.specs.Frame.{data_of, frame, word}
use Rattle.frame.proofs.Laws.{frame_bytes, joined_bytes, last_bytes, more_bytes, none_bytes, word_bytes}
use Rattle.memory.specs.Stores.{kept}
use Rattle.memory.proofs.Choices.{of_both}
use Rattle.memory.proofs.Laws.{AllBytes, kept_bytes, length_kept, part_bytes, replaced_bytes}
use Rattle.memory.proofs.PageLaws.{erase_bytes, wipe_bytes}
use Rattle.tm32.specs.Device.{Device, Memory, bytes_at}
use Rattle.tm32_asks.specs.Map.{blank, flash_length, flash_start, in_flash, in_ram, nvr_start, options_length, options_start, page_count, page_size, ram_length, ram_start}
use Rattle.tm32_asks.specs.Numbers.{long}
use Rattle.tm32_asks.specs.Options.{option_bytes}
use Rattle.tm32.specs.Promises.{Lent}
use Rattle.tm32_asks.specs.Request.{request_in}
use Rattle.tm32.specs.Respond.{Answered, greet, refuse, reply_to}
use Rattle.tm32_asks.specs.Results.{no_handshake}
use Rattle.tm32.specs.Work.{command_word, erased, information, wiped, wipes, with_options, work}
use Rattle.tm32_asks.specs.declared.Request.{Request}
use Rattle.tm32_asks.specs.declared.Request.TheVariants.{Pps, Get, Read, Write, MemoryCrc, Erase, Go, WriteOptions, ReadOptions, HeartBeat, Misshapen}
use Rattle.tm32.specs.declared.Settings.{Settings}
use Rattle.tm32_asks.proofs.Accepted.{Shaped, erase_accepted, write_accepted}
use Rattle.tm32_asks.proofs.Verdicts.{pass_all}
use Rattle.demands.specs.Demand1.WorkRefused.{one_of_so}
use Rattle.demands.specs.Demand2.Memories.{MemoryBytes, SettingsBytes}
use Rattle.demands.specs.Demand2.Replies.{is_result, results}
use Rattle.demands.specs.Demand2.ReplyResults.{refusal_result, unshaken_result, work_result}
use Rattle.demands.specs.Messages.Ways.{Heard, Known, Stored, fits, greeted, into_flash, into_nvr, into_ram, nvr_fits, silent, stored_so, turned_away, unshaken, worked_on}

-- ---- lists of bytes

-- a number of 32 bits, as it stands on the wire
long_bytes : (number : ℕ) → AllBytes (long number)
unfolding long
long_bytes number = joined_bytes (word number) (word (number / 0x10000)) (word_bytes number) (word_bytes (number / 0x10000))

-- ---- the memory

module _ (flash : List ℕ) (first count : ℕ) (sized : length flash ≡ flash_length) (inside : first + count ≤ page_count) where
  -- an erase
  erased_bytes : AllBytes flash → AllBytes (erased flash first count)
  unfolding erased
  erased_bytes all = erase_bytes page_size blank (lit< tt) page_count flash sized first count inside (lit< tt) all

-- a wipe of some of the pages
wiped_bytes : (old new : List ℕ) (pages : ℕ) (flash : List ℕ) → length flash ≡ flash_length → pages ≤ page_count → AllBytes flash → AllBytes (wiped old new pages flash)
unfolding wiped
wiped_bytes old new pages flash sized inside all = wipe_bytes page_size blank (lit< tt) (wipes old new) page_count flash sized (lit< tt) all pages inside

module _ (device : Device) (room : ℕ) (sized : Lent device.memory room) (all : MemoryBytes device.memory) where
  -- a write
  stored_bytes : (address : ℕ) (bytes : List ℕ) (after : Memory) → AllBytes bytes → Stored device.memory address bytes after → MemoryBytes after
  stored_bytes address bytes after given (into_flash inside) =
      let old = device.memory.flash in
      let place = address - flash_start in
      let whole = fits old flash_start flash_length address (length bytes) sized.flash inside in
      let kept_length = length_kept old place bytes whole in
      record {
        flash = replaced_bytes old place (kept old place bytes) (rw kept_length whole) all.flash (kept_bytes old place bytes given);
        ram = all.ram;
        nvr = all.nvr;
      }
  stored_bytes address bytes after given (into_ram inside) =
      let whole = fits device.memory.ram ram_start ram_length address (length bytes) sized.ram inside in
      record { flash = all.flash; ram = replaced_bytes device.memory.ram (address - ram_start) bytes whole all.ram given; nvr = all.nvr }
  stored_bytes address bytes after given (into_nvr inside) =
      let whole = nvr_fits device.memory.nvr address (length bytes) sized.nvr inside in
      record { flash = all.flash; ram = all.ram; nvr = replaced_bytes device.memory.nvr (address - nvr_start) bytes whole all.nvr given }

  -- new options
  options_bytes : (payload : List ℕ) → AllBytes payload → length payload ≡ options_length → MemoryBytes (with_options device.memory payload)
  unfolding with_options
  options_bytes payload given shape =
      record {
        flash = wiped_bytes (option_bytes device.memory.nvr) payload page_count device.memory.flash sized.flash (le_refl page_count) all.flash;
        ram = all.ram;
        nvr = replaced_bytes device.memory.nvr (options_start - nvr_start) payload (omega arith) all.nvr given;
      }

module _ (settings : Settings) (device : Device) (room : ℕ) (payload : List ℕ) (all : MemoryBytes device.memory) (given : AllBytes payload) where
  -- the work of each command
  pub work_bytes : (request : Request) → Known device room payload request → MemoryBytes (work settings device payload request).device.memory
  unfolding Shaped work
  work_bytes (Pps code) known = all
  work_bytes Get known = all
  work_bytes (Read address count) known = all
  work_bytes (Write flag address count) known =
      let facts = write_accepted _ _ flag address count known.pass in
      let bytes = drop 5 payload in
      stored_bytes device room known.sized all address bytes _ (last_bytes 5 payload given) (stored_so device.memory address bytes (rw known.shape.counted facts.inside))
  work_bytes (MemoryCrc address count wanted) known = all
  work_bytes (Erase first count) known =
      let facts = erase_accepted _ _ first count known.pass in
      record { flash = erased_bytes device.memory.flash first count known.sized.flash facts.inside all.flash; ram = all.ram; nvr = all.nvr }
  work_bytes (Go address) known = all
  work_bytes WriteOptions known = options_bytes device room known.sized all payload given known.shape
  work_bytes ReadOptions known = all
  work_bytes HeartBeat known = all
  work_bytes Misshapen known = all

-- ---- the reply

-- a result that 01 names is a byte, so its frame is made of bytes
framed_bytes : (start number : ℕ) (payload : List ℕ) → is_result number ≡ true → AllBytes payload → AllBytes (frame start number payload)
unfolding is_result results pass_all
framed_bytes start number payload is all =
    let small = one_of_so (λ (one : ℕ). ltb one 256) results number refl is in
    frame_bytes start number payload (ltb-true number 256 small) all

module _ (settings : Settings) (all : SettingsBytes settings) where
  -- what Get tells
  information_bytes : AllBytes (information settings)
  unfolding information
  information_bytes =
      let rest = more_bytes settings.model (long command_word) all.model (long_bytes command_word) in
      let more = more_bytes settings.«package» (settings.model ∷ long command_word) all.«package» rest in
      let front = joined_bytes settings.version settings.serial all.version all.serial in
      let names = settings.version ++ settings.serial in
      let known = settings.«package» ∷ settings.model ∷ long command_word in
      joined_bytes (names ++ known) (long settings.links) (joined_bytes names known front more) (long_bytes settings.links)

  -- what stands in a range
  range_bytes : (memory : Memory) (address count : ℕ) → MemoryBytes memory → AllBytes (bytes_at memory address count)
  unfolding bytes_at
  range_bytes memory address count bytes =
      of_both AllBytes (in_flash address count) (part_bytes memory.flash _ count bytes.flash)
      (of_both AllBytes (in_ram address count) (part_bytes memory.ram _ count bytes.ram) (part_bytes memory.nvr _ count bytes.nvr))

  -- what each command replies
  payload_bytes : (device : Device) (payload : List ℕ) (request : Request) → MemoryBytes device.memory → AllBytes (work settings device payload request).payload
  unfolding work option_bytes
  payload_bytes device payload (Pps code) bytes = none_bytes
  payload_bytes device payload Get bytes = information_bytes
  payload_bytes device payload (Read address count) bytes = range_bytes device.memory address count bytes
  payload_bytes device payload (Write flag address count) bytes = none_bytes
  payload_bytes device payload (MemoryCrc address count wanted) bytes = none_bytes
  payload_bytes device payload (Erase first count) bytes = none_bytes
  payload_bytes device payload (Go address) bytes = none_bytes
  payload_bytes device payload WriteOptions bytes = none_bytes
  payload_bytes device payload ReadOptions bytes = part_bytes device.memory.nvr (options_start - nvr_start) options_length bytes.nvr
  payload_bytes device payload HeartBeat bytes = none_bytes
  payload_bytes device payload Misshapen bytes = none_bytes

  -- by the way of the message
  pub bytes_way : (device : Device) (message : List ℕ) → MemoryBytes device.memory → (answer : Answered) → Heard settings device message answer → AllBytes answer.reply
  unfolding greet refuse reply_to
  bytes_way device message bytes answer (silent unheeded) = none_bytes
  bytes_way device message bytes answer (greeted here hail) = more_bytes 0x79 [] (lit< tt) none_bytes
  bytes_way device message bytes answer (unshaken asks waits) = framed_bytes settings.start no_handshake [] unshaken_result none_bytes
  bytes_way device message bytes answer (turned_away asks talks number found) =
      framed_bytes settings.start number [] (refusal_result device (request_in settings.start message) number found) none_bytes
  bytes_way device message bytes answer (worked_on asks talks pass) =
      let payload = data_of message in
      framed_bytes settings.start _ _ (work_result settings device payload (request_in settings.start message)) (payload_bytes device payload (request_in settings.start message) bytes)
