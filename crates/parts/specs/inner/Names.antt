-- The code's own: what is answered of names and values, whichever they are.
use Rattle.std.specs.Prelude.{◌≡◌, ℕ, Bool, List, Option, Some, None, IfSome, IsSome, IsTrue, ◌<◌, ◌≤◌, not, nat_lt}
use Rattle.std.specs.Prelude.{if◌then◌else◌, length}
use Rattle.std.specs.FinMap as fin
use Rattle.shared_map.specs.Entries.{key_above}
use Rattle.object_store.specs.declared.limits.NameLimits.{NameLimits}
use Rattle.object_store.specs.declared.limits.TheConstants.{VALUE_LIMIT}
use Rattle.object_store.specs.Object.{Attributes}
use Rattle.object_store.specs.Calls.{is_named_within}
use Rattle.helpers.specs.declared.errno.TheConstants.{ENOENT, EINVAL, EFBIG, ENOSPC, ENODATA}
use Rattle.helpers.specs.declared.answer.HelperAnswer.{HelperAnswer}
use Rattle.helpers.specs.Effect.{Answer, refuses, is_full}
use Rattle.helpers.specs.Table.{found_answer}
use Rattle.part_names.specs.Known.{PlainNames, Agrees}
use Rattle.part_names.specs.Order.{is_held}
use Rattle.parts.specs.declared.names.Found.{Found}
use Rattle.parts.specs.declared.names.Found.TheVariants.{Refused, Unknown, There}
use Rattle.parts.specs.Needs.{IsLookedUp, IsUnknown}

-- the value of a name
abbrev pub value_answer : Bool → ℕ → Attributes → List ℕ → ℕ → Answer
value_answer there most m name room =
    if not (is_named_within most name) then refuses EINVAL else
    if there then found_answer (fin.get m name) room else refuses ENOENT

-- the least name above some bytes
abbrev pub above_answer : Bool → ℕ → Attributes → List ℕ → ℕ → Answer
above_answer there most m bytes room =
    if nat_lt most (length bytes) then refuses EINVAL else
    if there then found_answer (key_above m bytes) room else refuses ENOENT

-- the code's answer is this one
pub record Is (answer : Answer) (found : HelperAnswer) : Type 0 where
  pub number : found.number ≡ answer.number
  pub bytes : found.bytes.now ≡ answer.bytes

-- it is so for all names and values that agree
abbrev pub IsForAll : PlainNames → (Attributes → Answer) → HelperAnswer → Type 0
IsForAll names answer found = (m : Attributes) → Agrees names m → Is (answer m) found

-- by what a set is refused, if it is
abbrev pub set_errno : NameLimits → Attributes → List ℕ → List ℕ → Option ℕ
set_errno limits m name value =
    if not (is_named_within limits.length name) then Some EINVAL else
    if nat_lt VALUE_LIMIT (length value) then Some EFBIG else
    if is_full limits.count m name then Some ENOSPC else None

-- where the number of names has a limit, all names are known
abbrev pub IsCounted : NameLimits → PlainNames → Type 0
IsCounted limits names = IfSome limits.count (λ _. (name : List ℕ) → IsTrue (is_held names.intervals name))

-- by what a removal is refused, if it is
abbrev pub removal_errno : Bool → ℕ → Attributes → List ℕ → Option ℕ
removal_errno there most m name =
    if not (is_named_within most name) then Some EINVAL else
    if there then (if not (fin.contains_key m name) then Some ENODATA else None) else Some ENOENT

-- what a removal finds: it is refused, goes on, or isn't decided
abbrev pub IsFound : Bool → ℕ → PlainNames → List ℕ → Found → Type 0
IsFound there most names name (Refused errno) =
    ((m : Attributes) → Agrees names m → removal_errno there most m name ≡ Some errno) × (1 ≤ errno) × (errno < 4096)
IsFound there most names name Unknown = IsUnknown there most names name
IsFound there most names name There =
    ((m : Attributes) → Agrees names m → removal_errno there most m name ≡ None) ×
    IsSome (fin.get names.entries name)

-- but where it isn't decided, the name is known, or not looked up
abbrev pub IsDecided : Bool → ℕ → PlainNames → List ℕ → Found → Type 0
IsDecided there most names name (Refused errno) = IsLookedUp there most names name
IsDecided there most names name Unknown = Unit {0}
IsDecided there most names name There = IsLookedUp there most names name
