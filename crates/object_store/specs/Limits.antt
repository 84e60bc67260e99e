-- The limits that a host gives to a call, and what every object is within, whatever they are.
use Rattle.std.specs.Prelude.{◌≡◌, ℕ, ◌^◌, ◌<◌, ◌≤◌, List, Some, None, length}
use Rattle.std.specs.FinMap as fin
use Rattle.object_store.specs.declared.limits.Limits.{Limits}
use Rattle.object_store.specs.declared.limits.TheConstants.{DATA_LIMIT, XATTR_LIMIT, KEY_LIMIT, NAME_LIMIT}
use Rattle.object_store.specs.Object.{Attributes, Content, PlainObject, AreBytes, IsName, IsValue}

-- the limits of all objects of this crate
abbrev pub profile : Limits
profile = record {
  bytes = DATA_LIMIT;
  xattrs = record { count = Some XATTR_LIMIT; length = NAME_LIMIT };
  keys = record { count = Some KEY_LIMIT; length = NAME_LIMIT };
}

-- limits that a host may give
pub record IsLimits (l : Limits) : Type 0 where
  pub bytes : l.bytes < 2 ^ 63
  pub xattr_names : l.xattrs.length ≤ NAME_LIMIT
  pub key_names : l.keys.length ≤ NAME_LIMIT

-- names with their values, however many
abbrev pub AreNames : Attributes → Type 0
AreNames m = (name value : List ℕ) → fin.get m name ≡ Some value → IsName name × IsValue value

-- data and names, however much data and however many names
pub record IsWellFormed (c : Content) : Type 0 where
  pub length : length c.bytes < 2 ^ 63
  pub bytes : AreBytes c.bytes
  pub xattrs : AreNames c.xattrs
  pub omap : AreNames c.omap

-- such an object, or none
abbrev pub IsAnyObject : PlainObject → Type 0
IsAnyObject None = Unit {0}
IsAnyObject (Some c) = IsWellFormed c
