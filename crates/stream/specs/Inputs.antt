-- An input that is read to its end and handed on piece by piece. What the system brings it alone knows; what is handed on, and what comes of it, is laid down here for any pieces.
use Rattle.std.specs.Prelude.{ℕ, ◌<◌, List, [], ◌∷◌, ◌++◌, ◌≡◌, Option, Some, None, Result, Err, MatchResult, drop, length}
use Rattle.stream.specs.declared.errors.FillError.{FillError}

module _ {S E : Type 0} (consumes : S → List ℕ → Result ℕ E → S → Type 0) (finishes : S → List ℕ → Result Unit E → S → Type 0) (refuses : S → FillError → E → S → Type 0) where
  -- What comes of so many bytes that are held where no more is read: where the input has ended they are the last ones, and else it is refused.
  abbrev pub Ends : Option FillError → List ℕ → S → Result Unit E → S → Type 0
  Ends None held before result after = finishes before held result after
  Ends (Some failure) held before result after = (error : E) × refuses before failure error after × (result ≡ Err error)

  -- What comes of bytes that are held and of pieces that are read behind them, none of them empty, and then no more: all that is held is handed on each time, and what is used of it is dropped.
  abbrev pub Handed : List (List ℕ) → Option FillError → List ℕ → S → Result Unit E → S → Type 0
  Handed [] failure held before result after = Ends failure held before result after
  Handed (piece ∷ pieces) failure held before result after =
      (0 < length piece) × (told : Result ℕ E) × (between : S) × consumes before (held ++ piece) told between
      × MatchResult told (λ used. Handed pieces failure (drop used (held ++ piece)) between result after) (λ error. (result ≡ Err error) × (after ≡ between))

  -- What the contract says: of what the system can bring there are some pieces with which the outcome is as laid down.
  pub record Feeds (before : S) (result : Result Unit E) (after : S) : Type 0 where
    pub pieces : List (List ℕ)
    pub failure : Option FillError
    pub handed : Handed pieces failure [] before result after
