-- Handing an input on, turn by turn: what a turn of the loop of `stream::feed` hands on is a piece more, and what comes of the rest is what comes of all.
use Rattle.std.proofs.Common.{ℕ, ◌+◌, ◌-◌, ◌≤◌, ◌<◌, ◌≡◌, refl, sym, ap, ◌∙◌, List, [], ◌∷◌, ◌++◌, length, take, drop, arith, length-drop, length-take-le}
use Rattle.std.proofs.lemmas.List.{drop-take, drop_min}
use Rattle.std.proofs.lemmas.List.Edits.{take-paste}
use Rattle.std.specs.List.{copy_within}
use Rattle.std.proofs.Math.Seq.{take-add}
use Rattle.std.specs.Prelude.{Option, Some, None, Result, Ok, Err, IsErrAnd, min}
use Rattle.stream.specs.Inputs.{Feeds, Handed}
use Rattle.stream.specs.declared.errors.FillError.{FillError}

-- the piece that was read behind what was held
pub piece : ℕ → ℕ → List ℕ → List ℕ
piece held now filled = take (now - held) (drop held filled)

-- behind what was held, it makes what is held now
joined : (held now : ℕ) (block filled : List ℕ) → take held filled ≡ take held block → held < now → take held block ++ piece held now filled ≡ take now filled
unfolding piece
joined held now block filled kept more =
    let whole : held + (now - held) ≡ now = omega arith in
    ap (λ (front : List ℕ). front ++ take (now - held) (drop held filled)) (sym kept) ∙ sym (take-add held (now - held) filled) ∙ ap (λ (n : ℕ). take n filled) whole

-- it is not empty
some : (held now : ℕ) (filled : List ℕ) → held < now → now ≤ length filled → 0 < length (piece held now filled)
unfolding piece
some held now filled more inside =
    let fits : now - held ≤ length (drop held filled) = omega (arith, length-drop held filled) in
    omega (arith, length-take-le (now - held) (drop held filled) fits)

-- what is left of it once some is used, brought to the front
pub left : (used now : ℕ) (filled : List ℕ) → now ≤ length filled → take (now - min used now) (copy_within filled (min used now) now 0) ≡ drop used (take now filled)
left used now filled inside =
    let from : ℕ = min used now in
    let count : ℕ = now - from in
    let fits : count ≤ length (drop from filled) = omega (arith, length-drop from filled) in
    let whole : from + count ≡ now = omega arith in
    let long : length (take now filled) ≡ now = length-take-le now filled inside in
    let same : count ≡ 0 + count = omega arith in
    ap (λ (n : ℕ). take n (copy_within filled from now 0)) same ∙ take-paste filled 0 (drop from filled) count (omega arith) fits ∙ sym (drop-take from count filled) ∙ ap (λ (n : ℕ). drop from (take n filled)) whole
    ∙ ap (λ (n : ℕ). drop (min used n) (take now filled)) (sym long) ∙ drop_min used (take now filled)

-- a failure that is passed on is the same
pub same_error : {E : Type 0} {error : E} (result : Result Unit E) → IsErrAnd result (λ e. e ≡ error) → result ≡ Err error
same_error (Ok _) is = absurd is
same_error (Err e) is = ap Err is

module _ {S E : Type 0} (consumes : S → List ℕ → Result ℕ E → S → Type 0) (finishes : S → List ℕ → Result Unit E → S → Type 0) (refuses : S → FillError → E → S → Type 0) where
  -- From these bytes and this state on, whatever comes is what comes of the whole input.
  pub record Onwards (start : S) (bytes : List ℕ) (before : S) : Type 0 where
    pub all : (pieces : List (List ℕ)) (failure : Option FillError) (result : Result Unit E) (after : S) → Handed consumes finishes refuses pieces failure bytes before result after → Feeds consumes finishes refuses start result after

module _ {S E : Type 0} {consumes : S → List ℕ → Result ℕ E → S → Type 0} {finishes : S → List ℕ → Result Unit E → S → Type 0} {refuses : S → FillError → E → S → Type 0} {start : S} where
  -- nothing was read yet
  pub begun : Onwards consumes finishes refuses start [] start
  begun = record { all = λ pieces failure result after handed. record { pieces = pieces; failure = failure; handed = handed } }

  module _ {before : S} {bytes : List ℕ} (onwards : Onwards consumes finishes refuses start bytes before) {after : S} where
    -- the input has ended
    pub ended : {result : Result Unit E} → finishes before bytes result after → Feeds consumes finishes refuses start result after
    ended {result} did = onwards.all [] None result after did

    -- it cannot be read on
    pub lost : {failure : FillError} {error : E} → refuses before failure error after → Feeds consumes finishes refuses start (Err error) after
    lost {failure} {error} did = onwards.all [] (Some failure) (Err error) after (error, did, refl)

  module _ {before : S} {held now : ℕ} (block filled : List ℕ) (kept : take held filled ≡ take held block) (more : held < now) (inside : now ≤ length filled) (onwards : Onwards consumes finishes refuses start (take held block) before) {after : S} where
    -- the piece was refused
    pub broken : {error : E} → consumes before (take now filled) (Err error) after → Feeds consumes finishes refuses start (Err error) after
    broken {error} did =
        onwards.all (piece held now filled ∷ []) None (Err error) after (some held now filled more inside, Err error, after, rw (joined held now block filled kept more) did, (refl, refl))

    -- it was taken
    pub taken : {used : ℕ} → consumes before (take now filled) (Ok used) after → Onwards consumes finishes refuses start (drop used (take now filled)) after
    taken {used} did = record {
      all = λ pieces failure result last handed. onwards.all (piece held now filled ∷ pieces) failure result last
          (some held now filled more inside, Ok used, after, rw (joined held now block filled kept more) did, rw (joined held now block filled kept more) handed);
    }
