-- Edits of data, over lists of bytes: one definition, however the data is kept.
use Rattle.std.specs.Prelude.{ℕ, ◌+◌, List, [], ◌∷◌, ◌++◌, Result, Ok, Err, if◌then◌else◌, nat_lt, ◌==◌, length, drop}
use Rattle.object_store.specs.declared.limits.TheConstants.{DATA_LIMIT}
use Rattle.object_store.specs.declared.data_error.DataError.{DataError}
use Rattle.object_store.specs.declared.data_error.DataError.TheVariants.{TooBig}
use Rattle.object_store.specs.declared.edit.DataEdit.{DataEdit}
use Rattle.object_store.specs.declared.edit.DataEdit.TheVariants.{Write, Truncate}
use Rattle.object_store.specs.Object.{spliced, resized}

-- a write of text at a place; one of no bytes leaves the data as it is, wherever it stands
abbrev pub written : List ℕ → ℕ → List ℕ → Result (List ℕ) DataError
written bytes at text =
    if length text == 0 then Ok bytes else
    if nat_lt DATA_LIMIT (at + length text) then Err TooBig else Ok (spliced bytes at text)

-- a cut, or an extension with zeros
abbrev pub truncated : List ℕ → ℕ → Result (List ℕ) DataError
truncated bytes len = if nat_lt DATA_LIMIT len then Err TooBig else Ok (resized bytes len)

-- the data after one edit, or its refusal
abbrev pub edited : List ℕ → DataEdit → Result (List ℕ) DataError
edited bytes (Write at text) = written bytes at text.items
edited bytes (Truncate len) = truncated bytes len

-- the rest of a list of edits, once the first gave this
abbrev pub and_then : Result (List ℕ) DataError → (List ℕ → Result (List ℕ) DataError) → Result (List ℕ) DataError
and_then (Ok bytes) rest = rest bytes
and_then (Err e) rest = Err e

-- the data after all edits in order, or the first refusal
abbrev pub all_edited : List ℕ → List DataEdit → Result (List ℕ) DataError
all_edited bytes [] = Ok bytes
all_edited bytes (edit ∷ edits) = and_then (edited bytes edit) (λ after. all_edited after edits)

-- a buffer with these bytes at its front
abbrev pub overlaid : List ℕ → List ℕ → List ℕ
overlaid front buffer = front ++ drop (length front) buffer
