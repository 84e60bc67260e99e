-- The plain object: absent, or data and two finite maps. And when it is within all limits.
use Rattle.std.specs.Prelude.{◌≡◌, ℕ, ◌+◌, ◌-◌, ◌<◌, ◌≤◌, List, [], ◌∷◌, ◌++◌, Option, Some, None, if◌then◌else◌, ◌==◌}
use Rattle.std.specs.Prelude.{take, drop, length, replicate, refl}
use Rattle.std.specs.Coded.{Coded, code_by, coded×, coded_ℕ, coded_list}
use Rattle.std.specs.FinMap as fin
use Rattle.shared_map.specs.Entries.{ByteMap}
use Rattle.object_store.specs.declared.limits.TheConstants.{DATA_LIMIT, XATTR_LIMIT, KEY_LIMIT, NAME_LIMIT, VALUE_LIMIT}

-- names and their values, both bytes
abbrev pub Attributes : Type 0
Attributes = ByteMap (List ℕ)

-- what an object holds
pub record Content : Type 0 where
  pub bytes : List ℕ
  pub xattrs : Attributes
  pub omap : Attributes

-- an object: none if it is absent
abbrev pub PlainObject : Type 0
PlainObject = Option Content

-- an object that was just created
abbrev pub nothing : Content
nothing = record { bytes = []; xattrs = fin.empty; omap = fin.empty }

-- what an object holds, nothing if it is absent
abbrev pub content_of : PlainObject → Content
content_of None = nothing
content_of (Some c) = c

-- ---- the limits
-- each number is a byte
abbrev pub AreBytes : List ℕ → Type 0
AreBytes [] = Unit {0}
AreBytes (b ∷ bs) = (b < 256) × AreBytes bs

-- a name of an xattr, or a key of the omap
abbrev pub IsName : List ℕ → Type 0
IsName name = (1 ≤ length name) × (length name ≤ NAME_LIMIT) × AreBytes name

-- a value of a name: bytes, at most VALUE_LIMIT
abbrev pub IsValue : List ℕ → Type 0
IsValue value = (length value ≤ VALUE_LIMIT) × AreBytes value

-- at most that many names, each with a value
pub record AreWithin (most : ℕ) (m : Attributes) : Type 0 where
  pub number : fin.len m ≤ most
  pub each : (name value : List ℕ) → fin.get m name ≡ Some value → IsName name × IsValue value

-- data and names within their limits
pub record IsContent (c : Content) : Type 0 where
  pub length : length c.bytes ≤ DATA_LIMIT
  pub bytes : AreBytes c.bytes
  pub xattrs : AreWithin XATTR_LIMIT c.xattrs
  pub omap : AreWithin KEY_LIMIT c.omap

-- an object within the limits
abbrev pub IsObject : PlainObject → Type 0
IsObject None = Unit {0}
IsObject (Some c) = IsContent c

-- ---- data
-- the bytes from a place on that there are, at most n
abbrev pub part : List ℕ → ℕ → ℕ → List ℕ
part bytes at n = take n (drop at bytes)

-- text written over bytes at a place; zeros fill a gap, and no text leaves the bytes as they are
abbrev pub spliced : List ℕ → ℕ → List ℕ → List ℕ
spliced bytes at text =
    if length text == 0 then bytes else take at bytes ++ replicate (at - length bytes) 0 ++ text ++
    drop (at + length text) bytes

-- bytes cut, or extended with zeros, to a length
abbrev pub resized : List ℕ → ℕ → List ℕ
resized bytes len = take len bytes ++ replicate (len - length bytes) 0

-- ---- a content is stored as its three parts
abbrev pub attributes_code : Coded Attributes
attributes_code = fin.code (coded_list coded_ℕ) (coded_list coded_ℕ)

-- the data, the xattrs and the omap, each as lists of numbers
abbrev pub content_code : Coded Content
content_code =
    code_by (List ℕ × (Attributes × Attributes)) (coded× (coded_list coded_ℕ) (coded× attributes_code attributes_code))
    (λ c. (c.bytes, (c.xattrs, c.omap))) (λ p. record { bytes = p.0; xattrs = p.1.0; omap = p.1.1 }) (λ _. refl)
