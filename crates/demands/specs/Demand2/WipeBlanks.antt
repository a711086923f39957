-- Document 01, "Who may touch which page": lemmas for demand 2. Options that take read protection from on to off set all of the flash to 0xFF, pages under write protection too; no other options touch it.
use Rattle.std.specs.Prelude.{ℕ, true, false, not, List, ◌≡◌, refl, ltb, length, replicate}
use Rattle.std.proofs.Math.Bool.{and-eq-true_iff, false≢true}
use Rattle.std.proofs.Common.{eqb-true, lit<}
use Rattle.std.proofs.lemmas.Bool.{not-true}
use Rattle.frame.specs.Frame.{reading}
use Rattle.memory.proofs.Laws.{same_equal}
use Rattle.memory.proofs.PageLaws.{wipe_of_all}
use Rattle.tm32_asks.specs.Checks.{checks, none_fails, protections}
use Rattle.tm32.specs.Device.{Device}
use Rattle.tm32_asks.specs.Map.{blank, flash_length, page_count, page_size}
use Rattle.tm32_asks.specs.Options.{option_bytes, rdp_on}
use Rattle.tm32_asks.specs.Request.{reading_result, request_in}
use Rattle.tm32.specs.Respond.{hello, reply_to, serve}
use Rattle.tm32.specs.Work.{wiped, wipes, with_options, work}
use Rattle.tm32_asks.specs.declared.Request.{Request}
use Rattle.tm32_asks.specs.declared.Request.TheVariants.{Pps, Get, Read, Write, MemoryCrc, Erase, Go, WriteOptions, ReadOptions, HeartBeat, Misshapen}
use Rattle.tm32.specs.declared.Settings.{Settings}
use Rattle.demands.specs.Demand2.Named.{wipes_by, wiping}
use Rattle.demands.specs.Demand2.WorkStays.{cannot, not_wiped}
use Rattle.demands.specs.Messages.FirstFailing.{request_passes}
use Rattle.demands.specs.Messages.Ways.{NeitherEmptyNorHello}

-- ---- the flash

module _ (old new flash : List ℕ) (on : rdp_on old ≡ true) (off : rdp_on new ≡ false) where
  -- every page is wiped, so in the end all of the flash is blank
  pub wiped_all : length flash ≡ flash_length → wiped old new page_count flash ≡ replicate flash_length blank
  unfolding wiped wipes
  wiped_all long = wipe_of_all page_size blank (lit< tt) (wipes old new) page_count flash long (λ page had. rw (on, off))

-- ---- a message

-- only Write options wipes
wiping_writes : (options payload : List ℕ) (request : Request) → wipes_by options payload request ≡ true → request ≡ WriteOptions
unfolding wipes_by
wiping_writes options payload (Pps code) wipe = absurd (false≢true wipe)
wiping_writes options payload Get wipe = absurd (false≢true wipe)
wiping_writes options payload (Read address count) wipe = absurd (false≢true wipe)
wiping_writes options payload (Write flag address count) wipe = absurd (false≢true wipe)
wiping_writes options payload (MemoryCrc address count wanted) wipe = absurd (false≢true wipe)
wiping_writes options payload (Erase first count) wipe = absurd (false≢true wipe)
wiping_writes options payload (Go address) wipe = absurd (false≢true wipe)
wiping_writes options payload WriteOptions wipe = refl
wiping_writes options payload ReadOptions wipe = absurd (false≢true wipe)
wiping_writes options payload HeartBeat wipe = absurd (false≢true wipe)
wiping_writes options payload Misshapen wipe = absurd (false≢true wipe)

-- what is shorter than a frame asks for nothing
short_misshapen : (start : ℕ) (message : List ℕ) → ltb (length message) 6 ≡ true → request_in start message ≡ Misshapen
unfolding request_in reading_result reading
short_misshapen start message short = rw short

module _ (start : ℕ) (device : Device) (message : List ℕ) (wipe : wiping start device message ≡ true) where
  -- so a message that wipes is as long as a frame
  not_short : ltb (length message) 6 ≡ true → ⊥
  unfolding wiping wipes_by
  not_short short = false≢true (rw (short_misshapen start message short) at wipe)

  -- and neither empty nor the handshake
  pub wiping_asks : NeitherEmptyNorHello message
  wiping_asks =
      record {
        some = cannot _ (λ none. not_short (rw (eqb-true (length message) 0 none)));
        other = cannot _ (λ hail. not_short (rw (same_equal message hello hail)));
      }

-- Write options has no checks, and does the wipe
pub work_blank : (settings : Settings) (device : Device) (payload : List ℕ) (request : Request) → length device.memory.flash ≡ flash_length
    → wipes_by (option_bytes device.memory.nvr) payload request ≡ true
    → (serve settings device payload request).device.memory.flash ≡ replicate flash_length blank
unfolding work with_options wipes_by reply_to checks protections none_fails
work_blank settings device payload request long wipe =
    let writes = wiping_writes (option_bytes device.memory.nvr) payload request wipe in
    let both = (and-eq-true_iff (rdp_on (option_bytes device.memory.nvr)) (not (rdp_on payload))).0 (rw writes at wipe) in
    rw (writes, request_passes settings device payload WriteOptions refl) (wiped_all _ payload _ both.0 (not-true _ both.1) long)

-- and leaves the flash where it does not wipe
pub work_unwiped : (settings : Settings) (device : Device) (payload : List ℕ) (request : Request) → request ≡ WriteOptions
    → wipes_by (option_bytes device.memory.nvr) payload request ≡ false → (work settings device payload request).device.memory.flash ≡ device.memory.flash
unfolding work with_options wipes_by
work_unwiped settings device payload request writes spared = rw writes (not_wiped _ payload page_count device.memory.flash (rw writes at spared))
