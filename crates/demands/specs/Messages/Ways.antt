-- Document 01, "A message and its reply": the ways of a message, and what is known where its work is done: the lengths of the memory, the shape of the data, and where the range lies.
use Rattle.std.specs.Prelude.{ℕ, ◌+◌, ◌-◌, ◌≤◌, Bool, cond, ◌||◌, List, [], ◌≡◌, eqb, get_or, length}
use Rattle.std.proofs.Math.Bool.{true, false}
use Rattle.std.proofs.lemmas.Bool.{false≢true, eqb-false}
use Rattle.std.proofs.Common.{true≢false, ap, arith}
use Rattle.std.proofs.Math.Path.{refl}
use Rattle.frame.specs.Frame.{covered, data_of, frame, head_byte}
use Rattle.memory.specs.Ranges.{within}
use Rattle.memory.specs.Stores.{kept, replaced, same}
use Rattle.memory.proofs.Laws.{region_holds}
use Rattle.tm32.specs.After.{Telling, replied, tell}
use Rattle.tm32_asks.specs.Checks.{none_fails}
use Rattle.tm32.specs.Device.{Device, Memory, with_flash, with_nvr, with_ram}
use Rattle.tm32_asks.specs.Map.{flash_start, in_flash, in_ram, in_user_nvr, in_user_region, nvr_length, nvr_start, ram_start, user_nvr_length, user_nvr_start}
use Rattle.tm32.specs.OptionMessages.{is_talking}
use Rattle.tm32.specs.Promises.{Lent}
use Rattle.tm32_asks.specs.Request.{request_in}
use Rattle.tm32.specs.Respond.{Answered, answered, greet, hello, is_gone, is_waiting, refuse, reply_to, respond, serve}
use Rattle.tm32_asks.specs.Results.{no_handshake}
use Rattle.tm32.specs.Work.{work, written}
use Rattle.tm32_asks.specs.declared.Request.{Request}
use Rattle.tm32.specs.declared.Settings.{Settings}
use Rattle.tm32.specs.declared.State.{State}
use Rattle.tm32.specs.declared.State.TheVariants.{Waiting, Talking, Gone}
use Rattle.tm32_asks.proofs.Accepted.{Shaped, shaped_so}
use Rattle.tm32.proofs.Passed.{lent}
use Rattle.demands.specs.Messages.FirstFailing.{Called, FirstFailing, Served, accepted, called, heard, refused, request_checks, served, unheard}

-- That a message is neither empty nor the handshake.
pub record NeitherEmptyNorHello (message : List ℕ) : Type 0 where
  pub some : eqb (length message) 0 ≡ false
  pub other : same message hello ≡ false

-- One of four, by what a message is to a session in a state: met with silence, the handshake, another before it, or a request.
unfoldable pub by_message : {A : Type 0} → State → List ℕ → A → A → A → A → A
by_message state message silent greeted unshaken asked =
    cond (eqb (length message) 0 || is_gone state) silent
    (cond (same message hello) greeted
    (cond (is_waiting state) unshaken
    asked))

-- The ways of a message that is heard, each with the tests that lead there: an empty reply, the handshake, a refusal before it or by a check, and work.
pub data Heard (settings : Settings) (device : Device) (message : List ℕ) : Answered → Type 0 where
  silent : (eqb (length message) 0 || is_gone device.session.state) ≡ true → Heard settings device message (answered device [])
  greeted : is_gone device.session.state ≡ false → same message hello ≡ true → Heard settings device message (greet device)
  unshaken : NeitherEmptyNorHello message → is_waiting device.session.state ≡ true → Heard settings device message (refuse settings.start device no_handshake)
  turned_away : NeitherEmptyNorHello message → is_talking device.session.state ≡ true
      → (number : ℕ) → FirstFailing (request_checks device (request_in settings.start message)) number → Heard settings device message (refuse settings.start device number)
  worked_on : NeitherEmptyNorHello message → is_talking device.session.state ≡ true
      → none_fails (request_checks device (request_in settings.start message)) ≡ true
      → Heard settings device message (reply_to settings.start (work settings device (data_of message) (request_in settings.start message)))

-- Where a write of some bytes goes: into flash, where bits can only be cleared, into RAM, or into the user's NVR.
pub data Stored (memory : Memory) (address : ℕ) (bytes : List ℕ) : Memory → Type 0 where
  into_flash : in_flash address (length bytes) ≡ true
      → Stored memory address bytes (with_flash memory (replaced memory.flash (address - flash_start) (kept memory.flash (address - flash_start) bytes)))
  into_ram : in_ram address (length bytes) ≡ true → Stored memory address bytes (with_ram memory (replaced memory.ram (address - ram_start) bytes))
  into_nvr : in_user_nvr address (length bytes) ≡ true → Stored memory address bytes (with_nvr memory (replaced memory.nvr (address - nvr_start) bytes))

-- All that is known of a request whose work is done.
pub record Known (device : Device) (room : ℕ) (payload : List ℕ) (request : Request) : Type 0 where
  pub sized : Lent device.memory room
  pub shape : Shaped payload request
  pub pass : none_fails (request_checks device request) ≡ true

-- ---- the ways of a message

-- a device that Waits has not Gone
waiting_here : (state : State) → is_waiting state ≡ true → is_gone state ≡ false
waiting_here Waiting waits = refl
waiting_here Talking waits = refl
waiting_here (Gone address) waits = absurd (false≢true waits)

-- and one that is Talking neither has Gone nor Waits
talking_here : (state : State) → is_talking state ≡ true → (is_gone state ≡ false) × (is_waiting state ≡ false)
unfolding is_talking
talking_here Waiting talks = absurd (false≢true talks)
talking_here Talking talks = (refl, refl)
talking_here (Gone address) talks = absurd (false≢true talks)

module _ (P : ((A : Type 0) → A → A → A → A → A) → Type 0) (state : State) (message : List ℕ)
    (silence : (eqb (length message) 0 || is_gone state) ≡ true → P (λ A one two three four. one))
    (hail : is_gone state ≡ false → same message hello ≡ true → P (λ A one two three four. two))
    (early : NeitherEmptyNorHello message → is_waiting state ≡ true → P (λ A one two three four. three))
    (request : NeitherEmptyNorHello message → is_talking state ≡ true → P (λ A one two three four. four)) where
  -- by the tests that are made of a message
  by_tests : (empty hails : Bool) (now : State) → eqb (length message) 0 ≡ empty → same message hello ≡ hails → state ≡ now
      → P (λ A one two three four. cond (empty || is_gone now) one (cond hails two (cond (is_waiting now) three four)))
  unfolding is_talking
  by_tests true hails now none other is = silence (rw none)
  by_tests false hails (Gone address) some other is = silence (rw (some, is))
  by_tests false true Waiting some hails is = hail (rw is) hails
  by_tests false true Talking some hails is = hail (rw is) hails
  by_tests false false Waiting some other is = early (record { some = some; other = other }) (rw is)
  by_tests false false Talking some other is = request (record { some = some; other = other }) (rw is)

  -- what holds of each of four choices, where the tests of a message lead to it, holds of the choice by the message
  pub of_message : P (λ A. by_message {A = A} state message)
  unfolding by_message
  of_message = by_tests (eqb (length message) 0) (same message hello) state refl refl refl

-- so what holds of all four holds of the one
pub of_four : {A : Type 0} (P : A → Type 0) (state : State) (message : List ℕ) {one two three four : A} → P one → P two → P three → P four
    → P (by_message state message one two three four)
of_four P state message {one} {two} {three} {four} silence hail early request =
    of_message (λ choose. P (choose _ one two three four)) state message (λ unheeded. silence) (λ here hails. hail) (λ asks waits. early) (λ asks talks. request)

module _ (settings : Settings) (device : Device) (message : List ℕ) where
  -- a request is refused or worked on
  on_request : NeitherEmptyNorHello message → is_talking device.session.state ≡ true → (answer : Answered) → Served settings device (data_of message) (request_in settings.start message) answer
      → Heard settings device message answer
  on_request asks talks answer (refused number found) = turned_away asks talks number found
  on_request asks talks answer (accepted pass) = worked_on asks talks pass

  -- every message goes one of them
  pub heard_so : Heard settings device message (respond settings device message)
  unfolding respond by_message
  heard_so =
      of_message (λ choose. Heard settings device message
      (choose Answered (answered device []) (greet device) (refuse settings.start device no_handshake) (serve settings device (data_of message) (request_in settings.start message))))
      device.session.state message silent greeted unshaken (λ asks talks. on_request asks talks _ (served settings device (data_of message) (request_in settings.start message)))

  -- what is neither empty nor the handshake is refused while Waiting
  pub before_hello : NeitherEmptyNorHello message → is_waiting device.session.state ≡ true → respond settings device message ≡ refuse settings.start device no_handshake
  unfolding respond
  before_hello asks waits = rw (asks.some, asks.other, waiting_here device.session.state waits, waits)

  -- and served as a request while Talking
  pub asked : NeitherEmptyNorHello message → is_talking device.session.state ≡ true → respond settings device message ≡ serve settings device (data_of message) (request_in settings.start message)
  unfolding respond
  asked asks talks =
      let here = talking_here device.session.state talks in
      rw (asks.some, asks.other, here.0, here.1)

-- ---- where bytes are stored

-- a range in a region has its place in the memory of the region
pub fits : (memory : List ℕ) (start size address count : ℕ) → length memory ≡ size → within start size address count ≡ true → address - start + count ≤ length memory
fits memory start size address count sized inside =
    let ends = region_holds start size address count inside in
    omega arith

-- and so has a range in the user's NVR, in the whole NVR
pub nvr_fits : (memory : List ℕ) (address count : ℕ) → length memory ≡ nvr_length → in_user_nvr address count ≡ true → address - nvr_start + count ≤ length memory
nvr_fits memory address count sized inside =
    let ends = region_holds user_nvr_start user_nvr_length address count inside in
    omega arith

module _ (memory : Memory) (address : ℕ) (bytes : List ℕ) where
  -- by the regions that hold the range
  by_region : (flash ram : Bool) → in_flash address (length bytes) ≡ flash → in_ram address (length bytes) ≡ ram → (flash || ram || in_user_nvr address (length bytes)) ≡ true
      → Stored memory address bytes
      (cond flash (with_flash memory (replaced memory.flash (address - flash_start) (kept memory.flash (address - flash_start) bytes)))
      (cond ram (with_ram memory (replaced memory.ram (address - ram_start) bytes)) (with_nvr memory (replaced memory.nvr (address - nvr_start) bytes))))
  by_region true ram flashed rammed user = into_flash flashed
  by_region false true flashed rammed user = into_ram rammed
  by_region false false flashed rammed user = into_nvr user

  -- a write to the user's regions goes into one of them
  pub stored_so : in_user_region address (length bytes) ≡ true → Stored memory address bytes (written memory address bytes)
  unfolding in_user_region written
  stored_so user = by_region (in_flash address (length bytes)) (in_ram address (length bytes)) refl refl user

-- ---- the memory after a message

module _ (settings : Settings) (device : Device) (message : List ℕ) (room : ℕ) (P : Memory → Type 0) (before : P device.memory) where
  -- by the way of the message
  after_way : (answer : Answered) → Heard settings device message answer
      → (none_fails (request_checks device (request_in settings.start message)) ≡ true → P (work settings device (data_of message) (request_in settings.start message)).device.memory)
      → P answer.device.memory
  unfolding greet refuse reply_to
  after_way answer (silent unheeded) done = before
  after_way answer (greeted here hail) done = before
  after_way answer (unshaken asks waits) done = before
  after_way answer (turned_away asks talks number found) done = before
  after_way answer (worked_on asks talks pass) done = done pass

  -- by the way of the call
  after_call : (outcome : Telling) → Called settings device message room outcome
      → (Known device room (data_of message) (request_in settings.start message) → P (work settings device (data_of message) (request_in settings.start message)).device.memory)
      → P outcome.device.memory
  after_call outcome (heard pass) done =
      let sized = lent device room pass in
      after_way (respond settings device message) (heard_so settings device message) (λ accepts. done (record { sized = sized; shape = shaped_so settings.start message; pass = accepts }))
  after_call outcome (unheard number found) done = before

  -- what held before a message holds after it, where the work that is done keeps it
  pub memory_after : (Known device room (data_of message) (request_in settings.start message) → P (work settings device (data_of message) (request_in settings.start message)).device.memory)
      → P (tell settings device message room).device.memory
  memory_after done = after_call (tell settings device message room) (called settings device message room) done

-- ---- the reply that is told

module _ (settings : Settings) (device : Device) (message : List ℕ) (room : ℕ) (P : List ℕ → Type 0) where
  -- by the way of the call
  of_call : (outcome : Telling) (bytes : List ℕ) → Called settings device message room outcome → (Lent device.memory room → P (respond settings device message).reply)
      → outcome.told ≡ replied bytes → P bytes
  of_call outcome bytes (heard pass) answers is =
      let same : (respond settings device message).reply ≡ bytes = cc in
      rw same at (answers (lent device room pass))
  of_call outcome bytes (unheard number found) answers is =
      let never : true ≡ false = cc in
      absurd (true≢false never)

  -- what holds of the answer to a message holds of the reply that is told
  pub reply_told : (bytes : List ℕ) → (Lent device.memory room → P (respond settings device message).reply) → (tell settings device message room).told ≡ replied bytes → P bytes
  reply_told bytes answers is = of_call (tell settings device message room) bytes (called settings device message room) answers is

-- ---- a reply that is a frame

-- the number of a frame is its second byte
pub same_number : (start one other : ℕ) (first second : List ℕ) → frame start one first ≡ frame start other second → one ≡ other
unfolding frame covered
same_number start one other first second is = ap (λ (bytes : List ℕ). get_or bytes 1 0) is

-- and what begins with another byte than every frame does is none
pub no_frame : (start : ℕ) (bytes : List ℕ) (number : ℕ) (payload : List ℕ) → eqb (get_or bytes 0 0) head_byte ≡ false → bytes ≡ frame start number payload → ⊥
unfolding frame covered
no_frame start bytes number payload other is = eqb-false _ _ other (ap (λ (list : List ℕ). get_or list 0 0) is)
