-- What the code's signatures, answers and ranges are to the table.
use Rattle.std.specs.Prelude.{◌≡◌, ℕ, ◌+◌, ◌==◌, ◌≤◌, ◌++◌, List, [], Option, Some, None, if◌then◌else◌, take, drop}
use Rattle.std.specs.Prelude.{length}
use Rattle.object_store.specs.Object.{part}
use Rattle.helpers.specs.declared.argument.Signature as code
use Rattle.helpers.specs.declared.span.Span.{Span}
use Rattle.helpers.specs.Effect.{Takes}

-- what the code answers, as a signature
abbrev pub given_signature : Option code.Signature → Option Takes
given_signature None = None
given_signature (Some s) = Some (record { arguments = s.arguments.now; writes = s.writes })

-- a range lies in the memory; one of length 0 has no place
abbrev pub IsWithin : List ℕ → Span → Type 0
IsWithin memory span = (span.len ≡ 0 → ⊥) → span.at + span.len ≤ length memory

-- the bytes of a range
abbrev pub bytes_in : List ℕ → Span → List ℕ
bytes_in memory span = if span.len == 0 then [] else part memory span.at span.len

-- bytes over those at a place
abbrev pub written : List ℕ → ℕ → List ℕ → List ℕ
written memory at bytes = take at memory ++ (bytes ++ drop (at + length bytes) memory)

-- bytes over those at the beginning of a range; none are written to one of length 0
abbrev pub filled : List ℕ → Span → List ℕ → List ℕ
filled memory span bytes = if span.len == 0 then memory else written memory span.at bytes
