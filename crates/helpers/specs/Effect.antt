-- What a helper is given, and what it does.
use Rattle.std.specs.Prelude.{ℕ, ◌-◌, ◌^◌, ◌&&◌, Bool, List, [], Option, Some, None, false, not, nat_lt, slice_get}
use Rattle.std.specs.Prelude.{slice_index, length, unwrap_or}
use Rattle.std.specs.FinMap as fin
use Rattle.object_store.specs.Object.{Attributes, Content, PlainObject}
use Rattle.object_store.specs.declared.limits.Limits.{Limits}
use Rattle.helpers.specs.declared.errno.TheConstants.{ENOENT}
use Rattle.helpers.specs.declared.argument.Argument.{Argument}

-- what a helper takes from register 1 on, and whether it may change the object
pub record Takes : Type 0 where
  pub arguments : List Argument
  pub writes : Bool

-- What a helper is given, in the order of its registers: its numbers, the bytes of its readable
-- ranges, the length of its writable range; and by the host the client for whom the method runs,
-- and the limits of the object.
pub record Given : Type 0 where
  pub numbers : List ℕ
  pub texts : List (List ℕ)
  pub room : ℕ
  pub caller : ℕ
  pub limits : Limits

-- its numbers and its texts, from 0 on
abbrev pub number : Given → ℕ → ℕ
number g k = slice_index g.numbers k

abbrev pub text : Given → ℕ → List ℕ
text g k = unwrap_or (slice_get g.texts k) []

-- an answer in register 0, and the bytes that come to stand at the beginning of the writable range
pub record Answer : Type 0 where
  pub number : ℕ
  pub bytes : List ℕ

-- a number, and nothing that is copied
abbrev pub gives : ℕ → Answer
gives n = record { number = n; bytes = [] }

-- the negative of an error number
abbrev pub refuses : ℕ → Answer
refuses errno = record { number = 2 ^ 64 - errno; bytes = [] }

-- bytes that are copied, and their count
abbrev pub copies : List ℕ → Answer
copies bytes = record { number = length bytes; bytes = bytes }

-- an answer if the object is there
abbrev pub where_present : PlainObject → (Content → Answer) → Answer
where_present None answer = refuses ENOENT
where_present (Some o) answer = answer o

-- What a helper does: its answer, what it copies, the object after, and the output length if it
-- sets that.
pub record Effect : Type 0 where
  pub answer : ℕ
  pub bytes : List ℕ
  pub object : PlainObject
  pub out_len : Option ℕ

-- it leaves the object as it is
abbrev pub leaves : PlainObject → Answer → Effect
leaves object a = record { answer = a.number; bytes = a.bytes; object = object; out_len = None }

-- a refusal, which changes nothing
abbrev pub refused : ℕ → PlainObject → Effect
refused errno object = leaves object (refuses errno)

-- it makes an object of the one that was
abbrev pub changes : PlainObject → ℕ → Effect
changes object n = record { answer = n; bytes = []; object = object; out_len = None }

-- an effect if the object is there
abbrev pub on_present : PlainObject → (Content → Effect) → Effect
on_present None effect = refused ENOENT None
on_present (Some o) effect = effect o

-- a new name or key would be one too many, if their number has a limit
abbrev pub is_full : Option ℕ → Attributes → List ℕ → Bool
is_full None m name = false
is_full (Some limit) m name = not (fin.contains_key m name) && not (nat_lt (fin.len m) limit)
