-- Document 01, "Who may touch which page": the work of a request that neither reads nor writes the option bytes does not look at them, and leaves them as they are.
use Rattle.std.specs.Prelude.{ℕ, ◌+◌, ◌-◌, ◌≤◌, ◌<◌, Bool, false, ◌≡◌, eqb, get_or, length}
use Rattle.std.proofs.Math.Bool.{true, cond}
use Rattle.std.proofs.Common.{true≢false, sym, ap, ◌∙◌, arith, lt-ltb}
use mathlib.Core.List.{List, [], ◌∷◌}
use Rattle.std.proofs.Math.Path.{refl, ap₂}
use Rattle.std.proofs.Math.Decide.{dec_lt}
use Rattle.std.proofs.lemmas.Bool.{not-false}
use Rattle.std.proofs.Math.ListN.{drop}
use Rattle.frame.specs.Crc.{crc}
use Rattle.frame.specs.Frame.{frame}
use Rattle.memory.specs.Stores.{kept, part, replaced, same}
use Rattle.memory.specs.declared.Programmed.TheVariants.{AsGiven, Differs}
use Rattle.memory.proofs.Laws.{length_replaced, part_same, region_holds, replaced_before, replaced_behind, replaced_inside}
use Rattle.shape.specs.MoreRights.{SameWork}
use Rattle.tm32.specs.After.{replied}
use Rattle.tm32_asks.specs.Checks.{checks, is_length, none_fails}
use Rattle.tm32.specs.Device.{Device, at_rate, bytes_at, in_state, with_flash, with_memory, with_nvr, with_ram, with_session}
use Rattle.tm32_asks.specs.Map.{flash_start, in_flash, in_nvr, in_ram, in_read_region, in_user_nvr, in_user_region, nvr_length, nvr_start, options_length, options_start, ram_start, user_nvr_length, user_nvr_start}
use Rattle.tm32.specs.OptionMessages.{reads_options, touches_options}
use Rattle.tm32_asks.specs.Options.{option_bytes}
use Rattle.tm32.specs.Promises.{Lent}
use Rattle.tm32.specs.Respond.{reply_to}
use Rattle.tm32_asks.specs.Results.{work_done, wrong_crc}
use Rattle.tm32.specs.Work.{Worked, compared, erased, programmed_result, readback, work, written}
use Rattle.tm32_asks.specs.declared.Request.{Request}
use Rattle.tm32_asks.specs.declared.Request.TheVariants.{Pps, Get, Read, Write, MemoryCrc, Erase, Go, WriteOptions, ReadOptions, HeartBeat, Misshapen}
use Rattle.tm32.specs.declared.Session.{Session}
use Rattle.tm32.specs.declared.Settings.{Settings}
use Rattle.tm32.specs.declared.State.TheVariants.{Gone}
use Rattle.tm32_asks.proofs.Accepted.{Shaped, crc_accepted, next, read_accepted, write_accepted}
use Rattle.demands.specs.Demand2.WorkStays.{cannot}
use Rattle.demands.specs.Demand3.OfShape.{Stricter, replies}
use Rattle.demands.specs.Demand3.TwoDevices.{AlikeButOptions, holds_option}
use Rattle.demands.specs.Messages.FirstFailing.{request_checks}
use Rattle.demands.specs.Messages.Ways.{Known, nvr_fits}

-- ---- the bytes of a range

-- That a range, where it is in neither flash nor RAM, has no option byte.
abbrev Away : ℕ → ℕ → Type 0
Away address count =
    in_flash address count ≡ false → in_ram address count ≡ false → (place : ℕ) → address - nvr_start ≤ place → place < address - nvr_start + count → holds_option place ≡ false

-- a Read that does not touch the option bytes is away from them
read_away : (address count : ℕ) → is_length count ≡ true → in_read_region address count ≡ true → reads_options address count ≡ false → Away address count
unfolding in_read_region reads_options
read_away address count counted inside spared flash ram place from before =
    let nvr : in_nvr address count ≡ true = rw (flash, ram) at inside in
    let start = region_holds nvr_start nvr_length address count nvr in
    cannot (holds_option place)
    (λ holds.
    let ends = region_holds (options_start - nvr_start) options_length place 1 holds in
    let low = lt-ltb address (options_start + options_length) (omega arith) in
    let high = lt-ltb options_start (address + count) (omega arith) in
    true≢false (rw (counted, nvr, low, high) at spared))

-- and so is every range that Write and Memory CRC may name
user_away : (address count : ℕ) → in_user_region address count ≡ true → Away address count
unfolding in_user_region
user_away address count inside flash ram place from before =
    let user : in_user_nvr address count ≡ true = rw (flash, ram) at inside in
    let start = region_holds user_nvr_start user_nvr_length address count user in
    cannot (holds_option place)
    (λ holds.
    let ends = region_holds (options_start - nvr_start) options_length place 1 holds in
    omega arith)

module _ (one other : Device) (alike : AlikeButOptions one other) where
  -- by the region of the range
  by_region : (address count : ℕ) (flash ram : Bool)
      → (flash ≡ false → ram ≡ false → (place : ℕ) → address - nvr_start ≤ place → place < address - nvr_start + count → holds_option place ≡ false)
      → cond flash (part one.memory.flash (address - flash_start) count)
      (cond ram (part one.memory.ram (address - ram_start) count) (part one.memory.nvr (address - nvr_start) count))
      ≡ cond flash (part other.memory.flash (address - flash_start) count)
      (cond ram (part other.memory.ram (address - ram_start) count) (part other.memory.nvr (address - nvr_start) count))
  by_region address count true ram away = ap (λ (flash : List ℕ). part flash (address - flash_start) count) alike.flash
  by_region address count false true away = ap (λ (ram : List ℕ). part ram (address - ram_start) count) alike.ram
  by_region address count false false away =
      part_same one.memory.nvr other.memory.nvr (address - nvr_start) count alike.nvr_length
      (λ place from before. alike.nvr place (away refl refl place from before))

  -- two devices that are alike have the same bytes in it
  bytes_same : (address count : ℕ) → Away address count → bytes_at one.memory address count ≡ bytes_at other.memory address count
  unfolding bytes_at
  bytes_same address count away = by_region address count (in_flash address count) (in_ram address count) away

-- ---- what the stricter device stays

module _ (strict loose : Device) (stricter : Stricter strict loose) where
  -- with a session that both get
  pub still_session : (one other : Session) → one ≡ other → Stricter (with_session strict one) (with_session loose other)
  still_session one other is =
      let alike = stricter.alike in
      record {
        alike = record { session = is; flash = alike.flash; ram = alike.ram; nvr_length = alike.nvr_length; nvr = alike.nvr };
        protects = stricter.protects;
      }

  -- with a flash that both get
  still_flash : (one other : List ℕ) → one ≡ other → Stricter (with_memory strict (with_flash strict.memory one)) (with_memory loose (with_flash loose.memory other))
  still_flash one other is =
      let alike = stricter.alike in
      record {
        alike = record { session = alike.session; flash = is; ram = alike.ram; nvr_length = alike.nvr_length; nvr = alike.nvr };
        protects = stricter.protects;
      }

  -- with a RAM that both get
  still_ram : (one other : List ℕ) → one ≡ other → Stricter (with_memory strict (with_ram strict.memory one)) (with_memory loose (with_ram loose.memory other))
  still_ram one other is =
      let alike = stricter.alike in
      record {
        alike = record { session = alike.session; flash = alike.flash; ram = is; nvr_length = alike.nvr_length; nvr = alike.nvr };
        protects = stricter.protects;
      }

-- ---- a write to the user's NVR

module _ (nvr : List ℕ) (address : ℕ) (bytes : List ℕ) (sized : length nvr ≡ nvr_length) (user : in_user_nvr address (length bytes) ≡ true) where
  -- leaves the option bytes
  options_left : option_bytes (replaced nvr (address - nvr_start) bytes) ≡ option_bytes nvr
  unfolding option_bytes
  options_left =
      let start = region_holds user_nvr_start user_nvr_length address (length bytes) user in
      let fits = nvr_fits nvr address (length bytes) sized user in
      part_same (replaced nvr (address - nvr_start) bytes) nvr (options_start - nvr_start) options_length (length_replaced nvr (address - nvr_start) bytes fits)
      (λ place from before. replaced_before nvr (address - nvr_start) bytes fits place (omega arith))

module _ (one other : List ℕ) (place : ℕ) (bytes : List ℕ) (fits : place + length bytes ≤ length one) (fits_other : place + length bytes ≤ length other) where
  -- before the range, in it, or behind
  by_side : (i : ℕ) → get_or one i 0 ≡ get_or other i 0 → Dec (i < place) → Dec (i < place + length bytes) → get_or (replaced one place bytes) i 0 ≡ get_or (replaced other place bytes) i 0
  by_side i is (yes before) end = replaced_before one place bytes fits i before ∙ is ∙ sym (replaced_before other place bytes fits_other i before)
  by_side i is (no start) (yes before) =
      let there : place + (i - place) ≡ i = omega arith in
      rw there at (replaced_inside one place bytes fits (i - place) (omega arith) ∙ sym (replaced_inside other place bytes fits_other (i - place) (omega arith)))
  by_side i is (no start) (no end) = replaced_behind one place bytes fits i (omega arith) ∙ is ∙ sym (replaced_behind other place bytes fits_other i (omega arith))

  -- leaves two bytes the same that were
  side_same : (i : ℕ) → get_or one i 0 ≡ get_or other i 0 → get_or (replaced one place bytes) i 0 ≡ get_or (replaced other place bytes) i 0
  side_same i is = by_side i is (dec_lt i place) (dec_lt i (place + length bytes))

module _ (strict loose : Device) (room : ℕ) (stricter : Stricter strict loose) (sized : Lent strict.memory room) (address : ℕ) (bytes : List ℕ) where
  -- so the stricter device stays the stricter
  still_nvr : in_user_nvr address (length bytes) ≡ true
      → Stricter (with_memory strict (with_nvr strict.memory (replaced strict.memory.nvr (address - nvr_start) bytes)))
      (with_memory loose (with_nvr loose.memory (replaced loose.memory.nvr (address - nvr_start) bytes)))
  still_nvr user =
      let alike = stricter.alike in
      let one = strict.memory.nvr in
      let other = loose.memory.nvr in
      let place = address - nvr_start in
      let long = sym alike.nvr_length ∙ sized.nvr in
      let fits = nvr_fits one address (length bytes) sized.nvr user in
      let fits_other = nvr_fits other address (length bytes) long user in
      record {
        alike = record {
          session = alike.session;
          flash = alike.flash;
          ram = alike.ram;
          nvr_length = length_replaced one place bytes fits ∙ alike.nvr_length ∙ sym (length_replaced other place bytes fits_other);
          nvr = λ i free. side_same one other place bytes fits fits_other i (alike.nvr i free);
        };
        protects = rw (options_left one address bytes sized.nvr user, options_left other address bytes long user) stricter.protects;
      }

  -- by the region that is written to
  by_write : (flash ram : Bool) → (flash ≡ false → ram ≡ false → in_user_nvr address (length bytes) ≡ true)
      → Stricter
      (with_memory strict
      (cond flash (with_flash strict.memory (replaced strict.memory.flash (address - flash_start) (kept strict.memory.flash (address - flash_start) bytes)))
      (cond ram (with_ram strict.memory (replaced strict.memory.ram (address - ram_start) bytes))
      (with_nvr strict.memory (replaced strict.memory.nvr (address - nvr_start) bytes)))))
      (with_memory loose
      (cond flash (with_flash loose.memory (replaced loose.memory.flash (address - flash_start) (kept loose.memory.flash (address - flash_start) bytes)))
      (cond ram (with_ram loose.memory (replaced loose.memory.ram (address - ram_start) bytes))
      (with_nvr loose.memory (replaced loose.memory.nvr (address - nvr_start) bytes)))))
  by_write true ram user =
      still_flash strict loose stricter _ _
      (ap (λ (flash : List ℕ). replaced flash (address - flash_start) (kept flash (address - flash_start) bytes)) stricter.alike.flash)
  by_write false true user = still_ram strict loose stricter _ _ (ap (λ (ram : List ℕ). replaced ram (address - ram_start) bytes) stricter.alike.ram)
  by_write false false user = still_nvr (user refl refl)

  -- and so after every write
  still_written : in_user_region address (length bytes) ≡ true → Stricter (with_memory strict (written strict.memory address bytes)) (with_memory loose (written loose.memory address bytes))
  unfolding in_user_region written
  still_written inside =
      by_write (in_flash address (length bytes)) (in_ram address (length bytes))
      (λ flash ram. rw (flash, ram) at inside)

-- ---- the work of each command

module _ (start : ℕ) (strict loose : Device) (stricter : Stricter strict loose) where
  -- work with one result and one data is told the same
  done_alike : (one other : Worked) → one.result ≡ other.result → one.payload ≡ other.payload → Stricter one.device other.device
      → SameWork Stricter (replies (reply_to start one)) (replies (reply_to start other))
  unfolding reply_to
  done_alike one other result payload still =
      record { told = ap₂ (λ (number : ℕ) (bytes : List ℕ). replied (frame start number bytes) ∷ []) result payload; stricter = still }

-- a Read that is accepted has a length that it may have
read_counted : (device : Device) (address count : ℕ) → none_fails (request_checks device (Read address count)) ≡ true → is_length count ≡ true
unfolding checks
read_counted device address count pass = not-false _ (next _ _ pass).0

module _ (settings : Settings) (strict loose : Device) (room : ℕ) (payload : List ℕ) (stricter : Stricter strict loose) where
  -- a write
  write_alike : (flag address count : ℕ) → Known strict room payload (Write flag address count)
      → SameWork Stricter (replies (reply_to settings.start (work settings strict payload (Write flag address count))))
      (replies (reply_to settings.start (work settings loose payload (Write flag address count))))
  unfolding work readback Shaped
  write_alike flag address count known =
      let bytes = drop 5 payload in
      let inside : in_user_region address (length bytes) ≡ true = rw known.shape.counted (write_accepted _ _ flag address count known.pass).inside in
      let still = still_written strict loose room stricter known.sized address bytes inside in
      let back = bytes_same _ _ still.alike address (length bytes) (user_away address (length bytes) inside) in
      done_alike settings.start strict loose stricter _ _
      (ap (λ (now : List ℕ). programmed_result flag (cond (same now bytes) AsGiven Differs)) back) refl still

  -- every request that does not touch the option bytes
  pub work_alike : (request : Request) → Known strict room payload request → touches_options request ≡ false
      → SameWork Stricter (replies (reply_to settings.start (work settings strict payload request))) (replies (reply_to settings.start (work settings loose payload request)))
  unfolding work touches_options erased compared
  work_alike (Pps code) known spared =
      done_alike settings.start strict loose stricter _ _ refl refl (still_session strict loose stricter _ _ (ap (λ (session : Session). at_rate session code) stricter.alike.session))
  work_alike Get known spared = done_alike settings.start strict loose stricter _ _ refl refl stricter
  work_alike (Read address count) known spared =
      let inside = (read_accepted _ _ address count known.pass).inside in
      let away = read_away address count (read_counted strict address count known.pass) inside spared in
      done_alike settings.start strict loose stricter _ _ refl (bytes_same strict loose stricter.alike address count away) stricter
  work_alike (Write flag address count) known spared = write_alike flag address count known
  work_alike (MemoryCrc address count wanted) known spared =
      let away = user_away address count (crc_accepted _ _ address count wanted known.pass) in
      done_alike settings.start strict loose stricter _ _
      (ap (λ (bytes : List ℕ). cond (eqb (crc settings.start bytes) wanted) work_done wrong_crc) (bytes_same strict loose stricter.alike address count away)) refl stricter
  work_alike (Erase first count) known spared =
      done_alike settings.start strict loose stricter _ _ refl refl (still_flash strict loose stricter _ _ (ap (λ (flash : List ℕ). erased flash first count) stricter.alike.flash))
  work_alike (Go address) known spared =
      done_alike settings.start strict loose stricter _ _ refl refl (still_session strict loose stricter _ _ (ap (λ (session : Session). in_state session (Gone address)) stricter.alike.session))
  work_alike WriteOptions known touching = absurd (true≢false touching)
  work_alike ReadOptions known touching = absurd (true≢false touching)
  work_alike HeartBeat known spared = done_alike settings.start strict loose stricter _ _ refl refl stricter
  work_alike Misshapen known spared = done_alike settings.start strict loose stricter _ _ refl refl stricter
