-- The place of a request in a list, and the reason why one can't be added.
use Rattle.std.specs.Prelude.{◌≡◌, ℕ, suc, ◌<◌, ◌⊎◌, List, [], ◌∷◌, ◌++◌, Option, Some, None, Result, Ok, Err, Bool}
use Rattle.std.specs.Prelude.{false, if◌then◌else◌, ◌==◌, ◌&&◌, ◌||◌, nat_lt, nat_le, slice_get, length, take, ◌+◌}
use Rattle.std.specs.Prelude.{codes}
use Rattle.bpf_decode.specs.Class.{ClassMethod}
use Rattle.interp.specs.Plain.{method_named}
use Rattle.pg_log.specs.declared.group.TheConstants.{LOG_LIMIT}
use Rattle.pg_log.specs.declared.log_error.LogError.{LogError}
use Rattle.pg_log.specs.declared.log_error.LogError.TheVariants.{LogFull, StaleNumber, NoMemory, NoClass, NoMethod}
use Rattle.pg_log.specs.declared.log_error.LogError.TheVariants.{InputTooLong}
use Rattle.pg_log.specs.Requests.{ClientRequest}
use Rattle.pg_log.specs.Log.{Classes, CanRun}

-- the table of refusals: number and name
abbrev pub number_of : LogError → ℕ
number_of LogFull = 1
number_of StaleNumber = 2
number_of NoMemory = 3
number_of NoClass = 4
number_of NoMethod = 5
number_of InputTooLong = 6

abbrev pub name_of : LogError → List ℕ
name_of LogFull = codes "LogFull"
name_of StaleNumber = codes "StaleNumber"
name_of NoMemory = codes "NoMemory"
name_of NoClass = codes "NoClass"
name_of NoMethod = codes "NoMethod"
name_of InputTooLong = codes "InputTooLong"

-- the next place, if there is one
abbrev pub one_later : Option ℕ → Option ℕ
one_later None = None
one_later (Some k) = Some (suc k)

-- the request is of this client and has this number
abbrev pub is_pair : ℕ → ℕ → ClientRequest → Bool
is_pair client number r = (r.client == client) && (r.number == number)

-- the first place of a request of this client and number
abbrev pub place_of : ℕ → ℕ → List ClientRequest → Option ℕ
place_of client number [] = None
place_of client number (r ∷ rs) = if is_pair client number r then Some 0 else one_later (place_of client number rs)

-- the request is of this client and has this number or a greater one
abbrev pub reaches : ℕ → ℕ → ClientRequest → Bool
reaches client number r = (r.client == client) && nat_le number r.number

-- a request of this client in the list has this number or a greater one
abbrev pub is_reached : ℕ → ℕ → List ClientRequest → Bool
is_reached client number [] = false
is_reached client number (r ∷ rs) = reaches client number r || is_reached client number rs

-- the reason why a method can't run, if there is one
abbrev pub refusal_of_method : Option ClassMethod → ClientRequest → Option LogError
refusal_of_method None r = Some NoMethod
refusal_of_method (Some m) r = if nat_lt m.in_cap (length r.input) then Some InputTooLong else None

-- the reason why a request can't run by its class, none if that isn't loaded
abbrev pub refusal_of_class : Option (List ClassMethod) → ClientRequest → Option LogError
refusal_of_class None r = Some NoClass
refusal_of_class (Some class) r = refusal_of_method (method_named class r.method) r

-- The reason why a request can't follow a list, if there is one: the first that applies.
abbrev pub refusal : Classes → List ClientRequest → ClientRequest → Option LogError
refusal classes list r =
    if nat_le LOG_LIMIT (length list) then Some LogFull else
    if is_reached r.client r.number list then Some StaleNumber else
    refusal_of_class (slice_get classes r.class) r

-- The error is the refusal, or want of memory if there is no refusal.
abbrev pub Refuses : Option LogError → LogError → Type 0
Refuses why e = (why ≡ Some e) ⊎ ((e ≡ NoMemory) × (why ≡ None))

-- the result of an append: the place of a logged pair, or the refusal, or the new place
abbrev pub answer_of : Option ℕ → Option LogError → ℕ → Result ℕ LogError
answer_of (Some place) why next = Ok place
answer_of None (Some why) next = Err why
answer_of None None next = Ok next

-- The result of an append if there is memory.
abbrev pub append_answer : Classes → List ClientRequest → ClientRequest → Result ℕ LogError
append_answer classes list r = answer_of (place_of r.client r.number list) (refusal classes list r) (length list)

-- the list after an append without refusal: unchanged if the pair was logged
abbrev pub list_after : Option ℕ → List ClientRequest → ClientRequest → List ClientRequest
list_after (Some place) list r = list
list_after None list r = list ++ r ∷ []

-- the first reason, or else the later one
abbrev pub or_else : Option LogError → Option LogError → Option LogError
or_else (Some why) later = Some why
or_else None later = later

-- the first refusal among requests that come after those before them
abbrev pub first_refusal_from : Classes → List ClientRequest → List ClientRequest → Option LogError
first_refusal_from classes before [] = None
first_refusal_from classes before (r ∷ rs) =
    or_else (refusal classes before r) (first_refusal_from classes (before ++ r ∷ []) rs)

-- Why a list can't be run: the refusal of its first request that can't follow those before it.
abbrev pub first_refusal : Classes → List ClientRequest → Option LogError
first_refusal classes list = first_refusal_from classes [] list

-- Some request of the list may follow those before it, and none of those is refused.
pub record SomeCanRun (classes : Classes) (list : List ClientRequest) : Type 0 where
  pub place : ℕ
  pub within : place < length list
  pub unrefused : first_refusal classes (take (place + 1) list) ≡ None

-- The request may follow the list: there is room, its method can run, and its number is above those
-- of its client.
pub record Follows (classes : Classes) (list : List ClientRequest) (r : ClientRequest) : Type 0 where
  pub room : length list < LOG_LIMIT
  pub run : CanRun classes r
  pub above : (i : ℕ) (a : ClientRequest) → slice_get list i ≡ Some a → a.client ≡ r.client → a.number < r.number
