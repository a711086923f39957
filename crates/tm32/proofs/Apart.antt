-- What the work of a request hangs on: the memory that it leaves and its result on no session, and the session that it leaves on no memory, no settings and no data.
use Prim.Native.Nat.{ℕ}
use mathlib.Core.List.{List}
use mathlib.Core.Path.{◌≡◌, refl}
use Rattle.tm32.specs.Device.{Memory, device_of}
use Rattle.tm32.specs.Work.{work}
use Rattle.tm32.specs.declared.Session.{Session}
use Rattle.tm32.specs.declared.Settings.{Settings}
use Rattle.tm32_asks.specs.declared.Request.{Request}
use Rattle.tm32_asks.specs.declared.Request.TheVariants.{Pps, Get, Read, Write, MemoryCrc, Erase, Go, WriteOptions, ReadOptions, HeartBeat, Misshapen}

module _ (settings : Settings) (memory : Memory) (payload : List ℕ) where
  -- any two sessions: the same memory and the same result
  pub any_session : (session other : Session) (request : Request)
      → ((work settings (device_of session memory) payload request).device.memory ≡ (work settings (device_of other memory) payload request).device.memory)
      × ((work settings (device_of session memory) payload request).result ≡ (work settings (device_of other memory) payload request).result)
  unfolding work
  any_session session other (Pps code) = (refl, refl)
  any_session session other Get = (refl, refl)
  any_session session other (Read address count) = (refl, refl)
  any_session session other (Write flag address count) = (refl, refl)
  any_session session other (MemoryCrc address count wanted) = (refl, refl)
  any_session session other (Erase first count) = (refl, refl)
  any_session session other (Go address) = (refl, refl)
  any_session session other WriteOptions = (refl, refl)
  any_session session other ReadOptions = (refl, refl)
  any_session session other HeartBeat = (refl, refl)
  any_session session other Misshapen = (refl, refl)

-- whatever the settings, the memory and the data: the same session
pub session_alone : (session : Session) (settings settings' : Settings) (memory memory' : Memory) (payload payload' : List ℕ) (request : Request)
    → (work settings (device_of session memory) payload request).device.session ≡ (work settings' (device_of session memory') payload' request).device.session
unfolding work
session_alone session settings settings' memory memory' payload payload' (Pps code) = refl
session_alone session settings settings' memory memory' payload payload' Get = refl
session_alone session settings settings' memory memory' payload payload' (Read address count) = refl
session_alone session settings settings' memory memory' payload payload' (Write flag address count) = refl
session_alone session settings settings' memory memory' payload payload' (MemoryCrc address count wanted) = refl
session_alone session settings settings' memory memory' payload payload' (Erase first count) = refl
session_alone session settings settings' memory memory' payload payload' (Go address) = refl
session_alone session settings settings' memory memory' payload payload' WriteOptions = refl
session_alone session settings settings' memory memory' payload payload' ReadOptions = refl
session_alone session settings settings' memory memory' payload payload' HeartBeat = refl
session_alone session settings settings' memory memory' payload payload' Misshapen = refl
