-- An OSD's limits, and what edits make of an object within them.
use Rattle.std.specs.Prelude.{◌≡◌, ℕ, ◌+◌, ◌≤◌, Bool, List, Option, Some, None, Result, Ok, Err, IsTrue}
use Rattle.std.specs.Prelude.{if◌then◌else◌, length, nat_le, nat_lt}
use Rattle.std.specs.List.{AllByRecursion}
use Rattle.object_store.specs.declared.limits.Limits.{Limits}
use Rattle.object_store.specs.declared.limits.TheConstants.{NAME_LIMIT, VALUE_LIMIT}
use Rattle.object_store.specs.declared.store_error.StoreError.{StoreError}
use Rattle.object_store.specs.declared.store_error.StoreError.TheVariants.{TooBig, Range}
use Rattle.object_store.specs.Calls.{is_named}
use Rattle.object_store.specs.Limits.{AreNames}
use Rattle.object_store.specs.Object.{Content, PlainObject, AreBytes}
use Rattle.txn.specs.Edits.{Edit, Create, Remove, SetXattr, RemoveXattr, SetKey, RemoveKey, SetLength, Write}
use Rattle.txn.specs.Made.{made}
use Rattle.large_objects.specs.declared.limits.TheConstants.{LARGE_LIMIT}

-- the limits: names of at most 64 bytes, and any number of them
abbrev pub large_limits : Limits
large_limits = record {
  bytes = LARGE_LIMIT;
  xattrs = record { count = None; length = NAME_LIMIT };
  keys = record { count = None; length = NAME_LIMIT };
}

-- data and names within them
pub record IsLarge (c : Content) : Type 0 where
  pub length : length c.bytes ≤ LARGE_LIMIT
  pub bytes : AreBytes c.bytes
  pub xattrs : AreNames c.xattrs
  pub omap : AreNames c.omap

-- whether data may reach so far
abbrev pub fits_data : ℕ → ℕ → Bool
fits_data at len = nat_le (at + len) LARGE_LIMIT

-- why no name can be set so, if none can
abbrev pub set_refusal : List ℕ → List ℕ → Option StoreError
set_refusal name value =
    if is_named name then if nat_lt VALUE_LIMIT (length value) then Some TooBig else None else Some Range

-- why data can't reach so far, if it can't
abbrev pub data_refusal : ℕ → ℕ → Option StoreError
data_refusal at len = if fits_data at len then None else Some TooBig

-- why an object can't hold what an edit says, if it can't
abbrev pub refusal_of : Edit → Option StoreError
refusal_of Create = None
refusal_of Remove = None
refusal_of (SetXattr name value) = set_refusal name value
refusal_of (RemoveXattr name) = None
refusal_of (SetKey key value) = set_refusal key value
refusal_of (RemoveKey key) = None
refusal_of (SetLength len) = data_refusal len 0
refusal_of (Write at text) = data_refusal at (length text)

-- the object after an edit, or its refusal
abbrev pub unless : Option StoreError → PlainObject → Result PlainObject StoreError
unless None o = Ok o
unless (Some e) o = Err e

abbrev pub after : Edit → PlainObject → Result PlainObject StoreError
after e o = unless (refusal_of e) (made e o)

-- an edit that a call by these limits may leave: none is refused, and a name that is removed is one
abbrev pub IsFormed : Edit → Type 0
IsFormed Create = Unit {0}
IsFormed Remove = Unit {0}
IsFormed (SetXattr name value) = set_refusal name value ≡ None
IsFormed (RemoveXattr name) = IsTrue (is_named name)
IsFormed (SetKey key value) = set_refusal key value ≡ None
IsFormed (RemoveKey key) = IsTrue (is_named key)
IsFormed (SetLength len) = IsTrue (fits_data len 0)
IsFormed (Write at text) = IsTrue (fits_data at (length text))

abbrev pub AreFormed : List Edit → Type 0
AreFormed list = AllByRecursion IsFormed list
