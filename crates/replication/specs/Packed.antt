-- A list whose beginning the receiver has.
use Rattle.std.specs.Prelude.{◌≡◌, ℕ, ◌≤◌, List, ◌++◌, length, take, drop, min}
use mathlib.Core.List.{IsPrefix}
use Rattle.pg_log.specs.Requests.{ClientRequest}
use Rattle.replication.specs.declared.unpack_error.UnpackError.{UnpackError}
use Rattle.replication.specs.declared.unpack_error.UnpackError.TheVariants.{TooShort, NoMemory}

-- The number of requests left out at the beginning, and the other requests.
pub record Packed : Type 0 where
  pub common : ℕ
  pub rest : List ClientRequest

-- A list without its first requests: the number that the receiver reported, or all if there are
-- fewer.
abbrev pub packed : List ClientRequest → ℕ → Packed
packed list reported = record { common = min reported (length list); rest = drop (min reported (length list)) list }

-- The requests that were left out, taken from the local list, and then the others.
abbrev pub spread : List ClientRequest → Packed → List ClientRequest
spread local p = take p.common local ++ p.rest

-- the local list is long enough, and unpacking gives the list
pub record IsUnpacked (local list : List ClientRequest) (reported : ℕ) : Type 0 where
  pub enough : (packed list reported).common ≤ length local
  pub same : spread local (packed list reported) ≡ list

-- Unpacking gives the list if the requests that were left out are those that the local list begins
-- with.
abbrev pub UnpackingGivesTheList : Type 0
UnpackingGivesTheList =
    (local list : List ClientRequest) (reported : ℕ) → (packed list reported).common ≤ length local →
    take (packed list reported).common local ≡ take (packed list reported).common list → IsUnpacked local list reported

-- It also does if the receiver reported no more than it has committed, and the list begins with the
-- committed list.
abbrev pub CommittedIsEnough : Type 0
CommittedIsEnough =
    (local list : List ClientRequest) (committed reported : ℕ) → committed ≤ length local → reported ≤ committed →
    IsPrefix (take committed local) list → IsUnpacked local list reported

-- the numbers of refusals
abbrev pub number_of : UnpackError → ℕ
number_of TooShort = 1
number_of NoMemory = 2
