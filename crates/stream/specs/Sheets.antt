-- A sheet: what is collected for standard output. Only the system knows whether it takes what is written out; all else is laid down here, for either answer.
use Rattle.std.specs.Prelude.{ℕ, ◌+◌, Bool, cond, not, false, List, [], ◌∷◌, ◌≡◌, Result, Ok, Err, IsErr, is_err, ltb, length, set}
use Rattle.stream.specs.declared.sheets.SheetWriter as code
pub use Rattle.stream.specs.declared.sheets.Sheet.{Sheet}

-- A sheet with so many bytes on it, which has failed or not.
abbrev pub sheet_of : ℕ → Bool → Sheet
sheet_of place failed = record { place = place; failed = failed }

-- The sheet of a writer, which keeps what has come of writing it out.
abbrev pub filled : {P : Type 0} → code.SheetWriter P → Sheet
filled writer = sheet_of writer.place (is_err writer.outcome)

-- The bytes of its paper.
abbrev pub on_paper : {P : Type 0} → code.SheetWriter P → List ℕ
on_paper writer = writer.paper.now

-- Nothing is collected, and nothing has failed.
abbrev pub empty_sheet : Sheet
empty_sheet = sheet_of 0 false

-- What comes of collecting: the sheet, and the lent buffer afterwards.
pub record Collected : Type 0 where
  pub sheet : Sheet
  pub buffer : List ℕ

-- The two put together.
abbrev pub collected : Sheet → List ℕ → Collected
collected sheet buffer = record { sheet = sheet; buffer = buffer }

-- A sheet that is written out, told whether the system takes all of it: nothing is on it then, and it has failed if the system does not. One that has failed is not written, and stays as it is.
unfoldable pub written_out : Bool → Sheet → Sheet
written_out taken sheet = cond sheet.failed sheet (sheet_of 0 (not taken))

-- A sheet that has no room in a buffer of so many bytes is written out first.
unfoldable pub with_room : Bool → ℕ → Sheet → Sheet
with_room taken size sheet = cond (ltb sheet.place size) sheet (written_out taken sheet)

-- A byte put on a sheet that has room for it. Where there is none it is lost; that only befalls a sheet that has failed, or a buffer of no length.
unfoldable pub putting_on : Sheet → List ℕ → ℕ → Collected
putting_on sheet buffer value =
    cond (ltb sheet.place (length buffer)) (collected (sheet_of (sheet.place + 1) sheet.failed) (set buffer sheet.place value))
    (collected sheet buffer)

-- One byte more.
unfoldable pub one_more : Bool → Sheet → List ℕ → ℕ → Collected
one_more taken sheet buffer value = putting_on (with_room taken (length buffer) sheet) buffer value

-- Some bytes more, with an answer of the system for each, in case the sheet is full by then.
unfoldable pub all_more : List Bool → Sheet → List ℕ → List ℕ → Collected
all_more answers sheet buffer [] = collected sheet buffer
all_more [] sheet buffer (value ∷ values) = collected sheet buffer
all_more (taken ∷ answers) sheet buffer (value ∷ values) =
    let first : Collected = one_more taken sheet buffer value in
    all_more answers first.sheet first.buffer values

-- What the contracts say: of the answers of the system there are some with which the outcome is as laid down.
pub record WritesOut (sheet after : Sheet) : Type 0 where
  pub taken : Bool
  pub same : after ≡ written_out taken sheet

-- A failure stays the one that it was.
abbrev pub Lasts : {E : Type 0} → Result Unit E → Result Unit E → Type 0
Lasts before after = IsErr before → after ≡ before

-- A writer goes on as the same one: on the same paper, and with the first failure.
abbrev pub GoesOn : {P : Type 0} → code.SheetWriter P → code.SheetWriter P → Type 0
GoesOn before after = (after.paper.ghost_name ≡ before.paper.ghost_name) × Lasts before.outcome after.outcome

-- What is told of so many bytes: that they are on the sheet, or how writing it out failed.
abbrev pub told : {E : Type 0} → Result Unit E → ℕ → Result ℕ E
told (Ok done) count = Ok count
told (Err error) count = Err error

pub record MakesRoom (size : ℕ) (sheet after : Sheet) : Type 0 where
  pub taken : Bool
  pub same : after ≡ with_room taken size sheet

pub record Adds (sheet : Sheet) (buffer : List ℕ) (value : ℕ) (after : Sheet) (buffer' : List ℕ) : Type 0 where
  pub taken : Bool
  pub same : collected after buffer' ≡ one_more taken sheet buffer value

pub record AddsAll (sheet : Sheet) (buffer values : List ℕ) (after : Sheet) (buffer' : List ℕ) : Type 0 where
  pub answers : List Bool
  pub one_each : length answers ≡ length values
  pub same : collected after buffer' ≡ all_more answers sheet buffer values
