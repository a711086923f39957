-- Document 01, "A message and its reply", "The ten commands" and "Who may touch which page": demand 2. Every reply, and every byte of memory afterwards, is what 01 lays down: that is the contract of
-- `tm32::Session::answer`, one equation with `after`; `OneOutcome` shows that no two outcomes satisfy it. Here stands what follows from it: a byte that an accepted message does not name stays, and so
-- does a write-protected one, save in the wipe that lifting read protection brings; and which replies there are. What follows besides, and is less telling, stands in `Besides` and, of pages, in `OfPages`.
-- Words to read, below: `Named`, `Replies` and, for `Besides`, `Memories`. Lemmas to skip: `WorkStays`, `WipeBlanks`, `ReplyResults`, `ReplyData`, `WorkLengths`, `WorkBytes` and `OtherBits`.
pub mod Named
pub mod Replies
pub mod Memories
pub mod WorkStays
pub mod WipeBlanks
pub mod ReplyResults
pub mod ReplyData
pub mod WorkLengths
pub mod WorkBytes
pub mod OtherBits
pub mod Besides
pub mod OfPages
pub mod OneOutcome
use Rattle.std.specs.Prelude.{ℕ, ◌≤◌, true, false, ◌&&◌, List, [], ◌≡◌, length, replicate}
use Rattle.std.proofs.Math.Path.{refl}
use Rattle.frame.specs.Frame.{data_of, frame}
use Rattle.tm32.specs.After.{call_checks, replied, tell}
use Rattle.tm32_asks.specs.Checks.{none_fails}
use Rattle.tm32.specs.Device.{Device, Memory}
use Rattle.tm32_asks.specs.Map.{blank, flash_length, in_flash, in_read_region}
use Rattle.tm32.specs.OptionMessages.{is_talking}
use Rattle.tm32_asks.specs.Options.{option_bytes, under_wrp}
use Rattle.tm32_asks.specs.Request.{request_in}
use Rattle.tm32.specs.Respond.{respond}
use Rattle.tm32_asks.specs.Results.{work_done}
use Rattle.tm32_asks.specs.declared.Request.TheVariants.{WriteOptions}
use Rattle.tm32.specs.declared.Settings.{Settings}
use Rattle.tm32.proofs.Passed.{lent}
use Rattle.demands.specs.Demand2.Named.{byte_at, named, page_of, wiping}
use Rattle.demands.specs.Demand2.Replies.{Reply, tells_data}
use Rattle.demands.specs.Demand2.ReplyData.{bare_way, only_three}
use Rattle.demands.specs.Demand2.ReplyResults.{other_result, reply_so}
use Rattle.demands.specs.Demand2.WipeBlanks.{wiping_asks, work_blank, work_unwiped}
use Rattle.demands.specs.Demand2.WorkStays.{protected_unnamed, told_stays}
use Rattle.demands.specs.Messages.FirstFailing.{call_passes}
use Rattle.demands.specs.Messages.Ways.{asked, heard_so, memory_after, reply_told}

-- ---- the memory

module _ (settings : Settings) (device : Device) (message : List ℕ) (room address : ℕ) where
  -- a byte that is not named stays, unless it is in the flash and the flash is wiped
  pub unnamed_stays : in_read_region address 1 ≡ true → named (request_in settings.start message) address ≡ false → (wiping settings.start device message && in_flash address 1) ≡ false
      → byte_at (tell settings device message room).device.memory address ≡ byte_at device.memory address
  unnamed_stays readable unnamed spared = told_stays settings device message room address readable (λ known. unnamed) spared

  -- a byte of a page under write protection stays, unless the flash is wiped
  pub protected_stays : in_flash address 1 ≡ true → under_wrp (option_bytes device.memory.nvr) (page_of address) ≡ true → wiping settings.start device message ≡ false
      → byte_at (tell settings device message room).device.memory address ≡ byte_at device.memory address
  unfolding in_read_region
  protected_stays flashed under spared =
      told_stays settings device message room address (rw flashed) (λ known. protected_unnamed address flashed device (request_in settings.start message) under known.pass) (rw spared)

module _ (settings : Settings) (device : Device) (message : List ℕ) (room : ℕ) where
  -- a message that wipes, in a call that passes its checks, to a device that is Talking, leaves the flash blank
  pub wipe_leaves_blank : none_fails (call_checks device room) ≡ true → is_talking device.session.state ≡ true → wiping settings.start device message ≡ true
      → (tell settings device message room).device.memory.flash ≡ replicate flash_length blank
  unfolding wiping
  wipe_leaves_blank hears talks wipe =
      rw (call_passes settings device message room hears, asked settings device message (wiping_asks settings.start device message wipe) talks)
      (work_blank settings device (data_of message) (request_in settings.start message) (lent device room hears).flash wipe)

  -- a write of options that does not wipe leaves all of the flash as it was
  pub unwiped_stays : request_in settings.start message ≡ WriteOptions → wiping settings.start device message ≡ false
      → (tell settings device message room).device.memory.flash ≡ device.memory.flash
  unfolding wiping
  unwiped_stays writes spared =
      memory_after settings device message room (λ (memory : Memory). memory.flash ≡ device.memory.flash) refl
      (λ known. work_unwiped settings device (data_of message) (request_in settings.start message) writes spared)

-- ---- the reply

-- every reply that is told is nothing, the answer to the handshake, or the frame of a result that 01 names
pub told_so : (settings : Settings) (device : Device) (message : List ℕ) (room : ℕ) (bytes : List ℕ) → (tell settings device message room).told ≡ replied bytes → Reply settings.start bytes
told_so settings device message room bytes is = reply_told settings device message room (Reply settings.start) bytes (λ sized. reply_so settings device message) is

-- so no reply has the result 0x93
pub never_0x93 : (settings : Settings) (device : Device) (message payload : List ℕ) → (respond settings device message).reply ≡ frame settings.start 0x93 payload → ⊥
never_0x93 settings device message payload is = other_result settings.start (respond settings device message).reply payload (reply_so settings device message) is

module _ (settings : Settings) (device : Device) (message : List ℕ) where
  -- a reply with another result than that the work is done has no data, as no refusal has
  pub only_done : (number : ℕ) (payload : List ℕ) → (respond settings device message).reply ≡ frame settings.start number payload → (number ≡ work_done → ⊥) → payload ≡ []
  only_done number payload is other = bare_way settings device message number payload (respond settings device message) (heard_so settings device message) is other

  -- and the reply that is told to any other request than Get, Read and Read options is no longer than a frame without data
  pub told_three : (room : ℕ) (bytes : List ℕ) → tells_data (request_in settings.start message) ≡ false → (tell settings device message room).told ≡ replied bytes → length bytes ≤ 6
  told_three room bytes other is = reply_told settings device message room (λ (list : List ℕ). length list ≤ 6) bytes (λ known. only_three settings device message other) is
