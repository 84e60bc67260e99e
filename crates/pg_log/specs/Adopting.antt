-- The common beginning of a log and a list that is to replace it, and the reason why the list
-- can't.
use Rattle.std.specs.Prelude.{◌≡◌, ℕ, ◌<◌, ◌≤◌, ◌⊎◌, List, Option, Some, take, drop, length}
use Rattle.pg_log.specs.declared.log_error.LogError.{LogError}
use Rattle.pg_log.specs.declared.log_error.LogError.TheVariants.{NoMemory}
use Rattle.pg_log.specs.Requests.{ClientRequest}
use Rattle.pg_log.specs.Log.{Classes}
use Rattle.pg_log.specs.Refusals.{first_refusal_from, SomeCanRun}

-- The lists have a beginning of this length in common, and no longer one.
pub record IsCommonBeginning (own list : List ClientRequest) (k : ℕ) : Type 0 where
  pub in_own : k ≤ length own
  pub in_list : k ≤ length list
  pub same : take k own ≡ take k list
  pub longest : (n : ℕ) → n ≤ length own → n ≤ length list → take n own ≡ take n list → n ≤ k

-- the refusal of a list's requests from place k on, after the first k, if there is one
abbrev pub rest_refusal : Classes → List ClientRequest → ℕ → Option LogError
rest_refusal classes list k = first_refusal_from classes (take k list) (drop k list)

-- Why a list can't replace a log that has its first k requests in common with it: the refusal of
-- the first other request that can't follow those before it, or want of memory. Want of memory
-- occurs only if the list has a logged request, or one that can follow those before it.
pub data RestRefuses (classes : Classes) (list : List ClientRequest) (k : ℕ) (e : LogError) : Type 0 where
  Refused : rest_refusal classes list k ≡ Some e → RestRefuses classes list k e
  Short : e ≡ NoMemory → 0 < k ⊎ SomeCanRun classes list → RestRefuses classes list k e

-- the same for a log, with the common beginning that it has with the list
abbrev pub AdoptRefuses : Classes → List ClientRequest → List ClientRequest → LogError → Type 0
AdoptRefuses classes own list e = (k : ℕ) × IsCommonBeginning own list k × RestRefuses classes list k e
