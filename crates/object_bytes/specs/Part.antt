-- The two parts of an object that have names.
use Rattle.std.specs.Prelude.{ℕ, ◌<◌, List, length}
use Rattle.object_store.specs.Object.{Attributes, Content}
use Rattle.object_bytes.specs.declared.part.Part.{Part}
use Rattle.object_bytes.specs.declared.part.Part.TheVariants.{Xattrs, Keys}

-- the xattrs, or the keys, and their values
abbrev pub names : Part → Content → Attributes
names Xattrs c = c.xattrs
names Keys c = c.omap

-- an entry whose lengths fit the flat form's fields
pub record IsShort (e : List ℕ × List ℕ) : Type 0 where
  pub name : length e.0 < 256
  pub value : length e.1 < 65536
