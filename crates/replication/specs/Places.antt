-- A request at its place in a log, and the length that all logs have.
use Rattle.std.specs.Prelude.{ℕ, suc, ◌≤◌, List, [], ◌∷◌, ◌++◌, length, Option, Some, None, Result, Ok, Err, nat_lt}
use Rattle.std.specs.Prelude.{min, if◌then◌else◌, ◌==◌}
use Rattle.std.specs.List.{All, Contains}
use Rattle.pg_log.specs.declared.log_error.LogError.{LogError}
use Rattle.pg_log.specs.Requests.{ClientRequest}
use Rattle.pg_log.specs.Log.{Classes}
use Rattle.pg_log.specs.Refusals.{refusal}

-- the length after, or the refusal
abbrev pub added_or : Option LogError → ℕ → Result (Option ℕ) LogError
added_or None after = Ok (Some after)
added_or (Some why) after = Err why

-- The answer to a request at a place of a log, if there is memory: the length after it, none if the
-- place is past the end, or the refusal.
abbrev pub append_at_answer : Classes → List ClientRequest → ℕ → ClientRequest → Result (Option ℕ) LogError
append_at_answer classes list place r =
    if nat_lt place (length list) then Ok (Some (length list)) else
    if nat_lt (length list) place then Ok None else
    added_or (refusal classes list r) (suc (length list))

-- The log after a request at a place was answered: with the request added if the place is the end,
-- else the same.
abbrev pub list_with : List ClientRequest → ℕ → ClientRequest → List ClientRequest
list_with list place r = if place == length list then list ++ r ∷ [] else list

-- It is one of the lengths, and none is less.
pub record IsLeast (least : ℕ) (lengths : List ℕ) : Type 0 where
  pub among : Contains lengths least
  pub below : All (λ n. least ≤ n) lengths

-- the least of these lengths and one more
abbrev pub least_from : ℕ → List ℕ → ℕ
least_from local [] = local
least_from local (n ∷ ns) = least_from (min local n) ns
