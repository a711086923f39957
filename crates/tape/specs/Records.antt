-- Document 01, "The bench tape": how a record is laid out. No kind is known here.
use Rattle.std.specs.Prelude.{ℕ, ◌+◌, cond, List, ◌++◌, eqb, ltb, length, take, drop}
use Rattle.frame.specs.Frame.{word, word_at}
use Rattle.tape.specs.declared.Found.{Found}
use Rattle.tape.specs.declared.Head.{Head}
use Rattle.tape.specs.declared.Found.TheVariants.{Nothing, HeadCut, BodyCut, Whole}

-- A head: how long the body is, and the kind, two bytes each.
unfoldable pub head_of : ℕ → ℕ → List ℕ
head_of size kind = word size ++ word kind

-- How long a head is.
abbrev pub head_length : ℕ
head_length = 4

-- A record: its head and its body.
unfoldable pub record_of : ℕ → List ℕ → List ℕ
record_of kind body = head_of (length body) kind ++ body

-- What a head says, put together: how long the body is, and the kind.
abbrev pub head : ℕ → ℕ → Head
head size kind = record { length = size; kind = kind }

-- What stands at the start of a tape: nothing, less than a head, a head with less than its body, or a whole record.
unfoldable pub record_in : List ℕ → Found
record_in tape =
    let size : ℕ = word_at tape 0 in
    let kind : ℕ = word_at tape 2 in
    cond (eqb (length tape) 0) Nothing
    (cond (ltb (length tape) head_length) HeadCut
    (cond (ltb (length tape) (head_length + size)) (BodyCut (head size kind))
    (Whole (head size kind))))

-- So many bytes behind the head: the body of a whole record.
unfoldable pub body_in : List ℕ → ℕ → List ℕ
body_in tape size = take size (drop head_length tape)
