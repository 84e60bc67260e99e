-- Reading a list of edits from left to right: each reading gives a value and the bytes after it, or nothing.
use Rattle.std.specs.Prelude.{ℕ, ◌==◌, List, [], ◌∷◌, Some, None, if◌then◌else◌}
use Rattle.part_bytes.specs.inner.Reading.{◌>>=◌, Reading, bytes_at, followed, formed, number_at, pair_at, text_at}
use Rattle.txn.specs.Edits.{Edit, Create, Remove, SetXattr, RemoveXattr, SetKey, RemoveKey, SetLength, Write}

-- bytes after their count
unfoldable pub counted_at : Reading (List ℕ)
counted_at bytes = number_at 4 bytes >>= λ n. bytes_at n.0 n.1

-- an edit without fields
abbrev pub plain_at : Edit → Reading Edit
plain_at e bytes = Some (e, bytes)

-- the edit of a kind's number
unfoldable pub edit_of_kind : ℕ → Reading Edit
edit_of_kind kind bytes =
    if kind == 1 then plain_at Create bytes else
    if kind == 2 then plain_at Remove bytes else
    if kind == 3 then formed pair_at (λ p. SetXattr p.0 p.1) bytes else
    if kind == 4 then formed text_at RemoveXattr bytes else
    if kind == 5 then formed pair_at (λ p. SetKey p.0 p.1) bytes else
    if kind == 6 then formed text_at RemoveKey bytes else
    if kind == 7 then formed (number_at 8) SetLength bytes else
    if kind == 8 then formed (followed (number_at 8) (λ _. counted_at)) (λ p. Write p.0 p.1) bytes else None

-- the edit that bytes begin with
abbrev pub edit_at : Reading Edit
edit_at [] = None
edit_at (kind ∷ rest) = edit_of_kind kind rest
