-- Document 01, "Who may touch which page": more rights never alter an answer already given, for any device of our shape that brings what `Growing` asks.
use Rattle.std.specs.Prelude.{Bool, true, false, cond, not, ◌||◌, ◌≡◌}
use Rattle.std.proofs.Math.Bool.{and-eq-true_iff}
use Rattle.std.proofs.Common.{true≢false, sym, ap, ◌∙◌}
use mathlib.Core.List.{List, [], ◌∷◌, ◌++◌}
use Rattle.std.proofs.Math.Path.{refl, ap₂}
use Rattle.std.proofs.lemmas.Bool.{not-true}
use Rattle.shape.specs.MoreRights.{Agree, Growing, SameWork}
use Rattle.shape.specs.Shape.{Shape, Step, Verdict, judged, none_of, others, passes, refuses, run_by, step_in, step_of, tells, without}

-- ---- what is told

module _ {Told : Type 0} (kind : Told → Bool) where
  -- one more thing that is told, which is not of the kind
  one_kept : (one : Told) (told rest : List Told) (is : Bool) → (is || tells kind told) ≡ false → (tells kind told ≡ false → others kind (told ++ rest) ≡ told ++ others kind rest)
      → cond is (others kind (told ++ rest)) (one ∷ others kind (told ++ rest)) ≡ one ∷ told ++ others kind rest
  one_kept one told rest true free behind = absurd (true≢false free)
  one_kept one told rest false free behind = ap (λ (list : List Told). one ∷ list) (behind free)

  -- where nothing of a kind is told, all of it is kept
  all_kept : (told rest : List Told) → tells kind told ≡ false → others kind (told ++ rest) ≡ told ++ others kind rest
  unfolding tells others
  all_kept [] rest free = refl
  all_kept (one ∷ told) rest free = one_kept one told rest (kind one) free (all_kept told rest)

module _ (shape : Shape) (apart : shape.Device → shape.Event → Bool) (Stricter : shape.Device → shape.Device → Type 0) (grows : Growing shape apart Stricter) where
  -- The two ways of an event that both devices may get: the stricter refuses it for protection, or both tell the same of it.
  data Both (strict : shape.Device) (second : Step shape.Device shape.Told) : Step shape.Device shape.Told → Type 0 where
    left_out : (told : shape.Told) → shape.is_protection told ≡ true → Both strict second (step_of strict (told ∷ []))
    alike : {first : Step shape.Device shape.Told} → tells shape.is_protection first.told ≡ false → SameWork Stricter first second → Both strict second first

  -- ---- one event

  module _ (strict loose : shape.Device) (event : shape.Event) (stricter : Stricter strict loose) (ordinary : apart strict event ≡ false) where
    -- by what protection says in the stricter
    by_protection : (verdict : Verdict shape.Told) → shape.protection strict event ≡ verdict → shape.checks strict event ≡ passes
        → Both strict (judged loose (shape.protection loose event) (shape.work loose event)) (judged strict verdict (shape.work strict event))
    unfolding judged
    by_protection passes free checked =
        rw (grows.protection_grows strict loose event stricter free)
        (alike (grows.work_kind strict event) (grows.work_alike strict loose event stricter ordinary checked free))
    by_protection (refuses told) is checked = left_out told (grows.protection_kind strict event told is)

    -- by what the checks say, which is the same in both
    by_checks : (verdict : Verdict shape.Told) → shape.checks strict event ≡ verdict
        → Both strict (judged loose verdict (judged loose (shape.protection loose event) (shape.work loose event)))
        (judged strict verdict (judged strict (shape.protection strict event) (shape.work strict event)))
    unfolding judged tells
    by_checks passes checked = by_protection (shape.protection strict event) refl checked
    by_checks (refuses told) is = alike {first = step_of strict (told ∷ [])} (rw (grows.check_kind strict event told is)) (record { told = refl; stricter = stricter })

    -- every event goes one of the two
    one_event : Both strict (step_in shape loose event) (step_in shape strict event)
    unfolding step_in
    one_event = rw (sym (grows.checks_alike strict loose event stricter)) (by_checks (shape.checks strict event) refl)

  -- ---- a list of events

  -- What the two devices make of some events, those left out for the looser that the stricter refuses for protection.
  abbrev goes : shape.Device → List shape.Event → Step shape.Device shape.Told
  goes = run_by (step_in shape)

  abbrev left : shape.Device → List shape.Event → List shape.Event
  left = without (step_in shape) shape.is_protection

  abbrev AgreeOn : List shape.Event → shape.Device → shape.Device → Type 0
  AgreeOn events strict loose = Agree shape Stricter (goes strict events) (goes loose (left strict events))

  -- one event before others, by its way
  by_way : (strict loose : shape.Device) (event : shape.Event) (events : List shape.Event) {first : Step shape.Device shape.Told} → Stricter strict loose
      → Both strict (step_in shape loose event) first
      → ((one other : shape.Device) → Stricter one other → none_of (step_in shape) apart one events ≡ true → AgreeOn events one other)
      → none_of (step_in shape) apart first.device events ≡ true
      → Agree shape Stricter
      (step_of (goes first.device events).device (first.told ++ (goes first.device events).told))
      (goes loose (cond (tells shape.is_protection first.told) (left first.device events) (event ∷ left first.device events)))
  unfolding tells others run_by
  by_way strict loose event events stricter (left_out told is) behind ordinary =
      let rest = behind strict loose stricter ordinary in
      rw is (record { told = rw is rest.told; stricter = rest.stricter })
  by_way strict loose event events stricter (alike {first} free same) behind ordinary =
      let rest = behind first.device (step_in shape loose event).device same.stricter ordinary in
      rw free
      (record {
        told = all_kept shape.is_protection first.told _ free ∙ ap₂ ◌++◌ same.told rest.told;
        stricter = rest.stricter;
      })

  -- Two devices of which the first is the stricter get the same events, none of which stands apart; but those that the stricter refuses for protection are left out for the looser. Then all other
  -- things that are told agree, and the first device is still the stricter.
  pub more_rights : (strict loose : shape.Device) (events : List shape.Event) → Stricter strict loose → none_of (step_in shape) apart strict events ≡ true → AgreeOn events strict loose
  unfolding run_by none_of without others
  more_rights strict loose [] stricter ordinary = record { told = refl; stricter = stricter }
  more_rights strict loose (event ∷ events) stricter ordinary =
      let both = (and-eq-true_iff (not (apart strict event)) (none_of (step_in shape) apart (step_in shape strict event).device events)).0 ordinary in
      by_way strict loose event events stricter (one_event strict loose event stricter (not-true _ both.0))
      (λ one other still free. more_rights one other events still free) both.1
