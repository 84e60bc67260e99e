-- The store's refusals as a helper's answers: what the code's own contracts name.
use Rattle.std.specs.Prelude.{◌≡◌, ℕ, ◌-◌, ◌^◌, List, Some, Result, Ok, Err}
use Rattle.object_store.specs.Object.{Content, PlainObject}
use Rattle.object_store.specs.declared.store_error.StoreError.{StoreError}
use Rattle.object_store.specs.declared.store_error.StoreError.TheVariants.{Absent, Exists, NoAttr, TooBig, TooMany}
use Rattle.object_store.specs.declared.store_error.StoreError.TheVariants.{Range, NoMemory}
use Rattle.helpers.specs.declared.errno.TheConstants.{ENOENT, ENOMEM, EEXIST, EINVAL, EFBIG, ENOSPC, ENODATA}
use Rattle.helpers.specs.Effect.{Answer, refuses, Effect, refused, changes}
use Rattle.helpers.specs.Table.{copy_answer}

-- the error number of each refusal
abbrev pub errno_of : StoreError → ℕ
errno_of Absent = ENOENT
errno_of Exists = EEXIST
errno_of NoAttr = ENODATA
errno_of TooBig = EFBIG
errno_of TooMany = ENOSPC
errno_of Range = EINVAL
errno_of NoMemory = ENOMEM

-- want of memory is no answer
abbrev pub IsAnswer : Result (Unit {0}) StoreError → Type 0
IsAnswer (Ok _) = Unit {0}
IsAnswer (Err e) = e ≡ NoMemory → ⊥

-- the number that is answered if a change answered this
abbrev pub number_of : Result (Unit {0}) StoreError → ℕ → ℕ
number_of (Ok _) n = n
number_of (Err e) n = 2 ^ 64 - errno_of e

-- what a helper does that makes this change
abbrev pub answered : PlainObject → Result Content StoreError → ℕ → Effect
answered object (Ok c) n = changes (Some c) n
answered object (Err e) n = refused (errno_of e) object

-- what is answered if a value was looked up
abbrev pub looked_up : ℕ → Result (List ℕ) StoreError → Answer
looked_up room (Ok bytes) = copy_answer bytes room
looked_up room (Err e) = refuses (errno_of e)
