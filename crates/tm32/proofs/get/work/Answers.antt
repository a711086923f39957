-- `tm32::get::work` meets its contract: the parts that the code lays one behind the other are the definition's.
use Prim.Native.Nat.{ℕ, zero, suc, ◌/◌, ◌%◌}
use mathlib.Core.List.{List, [], ◌∷◌, ◌++◌}
use mathlib.Core.Path.{◌≡◌, refl, ap, ◌∙◌}
use native.Mathlib.Omega.{arith}
use borrow.Author.Rules.{rules}
use borrow.Rule.Slice.PartMut.{put_mid}
use lib.ListN.{length, get_or, replicate, set}
use Rattle.tm32.specs.Work.{command_word, information, told_commands}
use Rattle.std.specs.Int.{to_le_bytes, w32}
use Rattle.frame.specs.Frame.{word}
use Rattle.tm32_asks.specs.Numbers.{long}
use Rattle.tm32.proofs.get.work.Goals as goal
use Rattle.tm32.proofs.get.work.Goals.{Start}

-- so many entries of a list, from a place on
unfoldable entries : List ℕ → ℕ → ℕ → List ℕ
entries list place zero = []
entries list place (suc count) = get_or list place 0 ∷ entries list (suc place) count

-- behind the first entry they are those of the rest
behind_first : (first : ℕ) (rest : List ℕ) (place count : ℕ) → entries (first ∷ rest) (suc place) count ≡ entries rest place count
unfolding entries
behind_first first rest place zero = refl
behind_first first rest place (suc count) = ap (λ (list : List ℕ). get_or rest place 0 ∷ list) (behind_first first rest (suc place) count)

-- as many as there are, they are the list
all : (list : List ℕ) → entries list 0 (length list) ≡ list
unfolding entries
all [] = refl
all (first ∷ rest) = ap (λ (list : List ℕ). first ∷ list) (behind_first first rest 0 (length rest) ∙ all rest)

whole : (list : List ℕ) (count : ℕ) → length list ≡ count → entries list 0 count ≡ list
whole list count long = rw (← long) (all list)

-- The parts, laid one behind the other over nought: version and serial with the two single bytes behind them, the commands, and the links.
module _ (version serial : List ℕ) (kind model : ℕ) (two : length version ≡ 2) (twelve : length serial ≡ 12) where
  abbrev chip : List ℕ
  chip = set (set (put_mid 2 12 (version ++ replicate 22 0) serial) 14 kind) 15 model

  long_chip : length chip ≡ 24
  unfolding entries
  long_chip = rw (← whole version 2 two, ← whole serial 12 twelve)

  module _ (commands : List ℕ) (four : length commands ≡ 4) where
    long_commands : length (put_mid 16 4 chip commands) ≡ 24
    unfolding entries
    long_commands = rw (← whole version 2 two, ← whole serial 12 twelve, ← whole commands 4 four)

    laid_out : (links : List ℕ) → length links ≡ 4 → put_mid 20 4 (put_mid 16 4 chip commands) links ≡ version ++ serial ++ kind ∷ model ∷ commands ++ links
    unfolding entries
    laid_out links four' = rw (← whole version 2 two, ← whole serial 12 twelve, ← whole commands 4 four, ← whole links 4 four')

-- a number's bytes, the low one first
little : (number : ℕ) → to_le_bytes w32 number ≡ long number
unfolding long word
little number =
    let last : number / 16777216 % 256 ≡ number / 65536 / 256 % 256 = omega arith in
    rw last

module _ (c : Start) where
  version : length c.args.settings.version ≡ 2
  version = search rules

  serial : length c.args.settings.serial ≡ 12
  serial = search rules

pub slice_bounds-bytes-end-3 : goal.slice_bounds-bytes-end-3
slice_bounds-bytes-end-3 c =
    let at = (goal.at.slice_bounds-bytes-end-3 c).Start in
    let second = ap length c.copy_from_slice-2.ensures.after ∙ serial at in
    omega (arith, long_chip _ c.copy_from_slice-2.new.self c.args.settings.«package» c.args.settings.model c.copy_from_slice.ensures.len second)

pub slice_bounds-bytes-end-4 : goal.slice_bounds-bytes-end-4
slice_bounds-bytes-end-4 c =
    let at = (goal.at.slice_bounds-bytes-end-4 c).Start in
    let second = ap length c.copy_from_slice-2.ensures.after ∙ serial at in
    let third = ap length (c.copy_from_slice-3.ensures.after ∙ c.to_le_bytes.ensures) in
    omega (arith, long_commands _ c.copy_from_slice-2.new.self c.args.settings.«package» c.args.settings.model c.copy_from_slice.ensures.len second c.copy_from_slice-3.new.self third)

pub returns : goal.returns
unfolding information command_word told_commands long word
returns c =
    let at = (goal.at.returns c).Start in
    let settings = c.args.settings in
    rw (
      c.copy_from_slice.ensures.after,
      c.copy_from_slice-2.ensures.after,
      c.copy_from_slice-3.ensures.after,
      c.to_le_bytes.ensures,
      c.copy_from_slice-4.ensures.after,
      c.to_le_bytes-2.ensures ∙ little settings.links,
    )
    (laid_out settings.version settings.serial settings.«package» settings.model (version at) (serial at) (long command_word) refl (long settings.links) refl)
