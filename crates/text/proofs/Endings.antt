-- Bytes that are stored one by one are laid over a buffer that has room for them.
use Rattle.std.proofs.Common.{◌≡◌, ℕ, ◌+◌, ◌≤◌, List, length, ◌++◌, drop, ap, ◌∙◌, arith, zero-add}
use lib.Seq.{sets, sets-eq}
use Rattle.frame.specs.Frame.{laid}

pub stored : (bytes buffer : List ℕ) → length bytes ≤ length buffer → sets buffer 0 bytes ≡ laid bytes buffer
unfolding laid
stored bytes buffer room =
    let fits : 0 + length bytes ≤ length buffer = omega arith in
    sets-eq bytes buffer 0 fits ∙ ap (λ (count : ℕ). bytes ++ drop count buffer) (zero-add (length bytes))
