-- `text::lines::line_end` meets its contract: the first newline behind the place is where the definition stops to count.
use Rattle.std.proofs.Common.{◌≡◌, ℕ, List, drop, length, eqb, refl, arith, rules, tests, unwrap_or, not, Bool}
use Rattle.std.specs.List.{position, position_or_len}
use Rattle.std.proofs.lemmas.Bool.Decides.{nat_tests}
use Rattle.std.proofs.lemmas.Grind.{common_steps}
use Rattle.std.proofs.lemmas.Iterator.{YieldsList-from_slice}
use Rattle.std.proofs.lemmas.Iterator.Search.{position_from_yields_List}
use Rattle.std.proofs.lemmas.List.Recursion.{is_position_or_len}
use Rattle.std.proofs.lemmas.List.Sums.{prefix_len-le-length}
use Rattle.text.specs.Lines.{newline, until_newline}
use Rattle.text.proofs.lines.line_end.Goals as goal

abbrev is_newline : ℕ → Bool
is_newline c = eqb c newline

first : (rest : List ℕ) → until_newline rest ≡ unwrap_or (position is_newline rest) (length rest)
unfolding until_newline
first rest =
    let stops : until_newline rest ≡ position_or_len is_newline rest = is_position_or_len until_newline is_newline refl (λ c rest. grind arith) rest in
    let within = prefix_len-le-length (λ c. not (is_newline c)) rest in
    grind (arith, nat_tests)

pub returns : goal.returns
returns c =
    let rest = c.unwrap_or-rest.result.now in
    let behind : rest ≡ drop c.args.from c.args.text.now = grind (arith, common_steps) in
    let found = position_from_yields_List is_newline _ _ c.position-length.result c.position-length.ensures.ran (YieldsList-from_slice rest cc) (λ x b q k. search (rules, tests)) in
    cc (first rest)
