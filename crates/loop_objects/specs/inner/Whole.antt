-- A part that has all of an object.
use Rattle.std.specs.Prelude.{◌≡◌, ℕ, zero, suc, ◌*◌, List, [], ◌∷◌, ◌++◌, length}
use Rattle.std.specs.FinMap as fin
use Rattle.object_store.specs.Object.{Attributes, Content, part as bytes_part}
use Rattle.part_bytes.specs.Part as part
use Rattle.part_bytes.specs.Part.{Block, Everything, Names}
use Rattle.part_bytes.specs.declared.limits.TheConstants.{BLOCK}
use Rattle.part_data.specs.Known.{blocks_of}
use Rattle.loop_objects.specs.declared.whole.Named.{Named}
use Rattle.loop_objects.specs.declared.whole.Named.TheVariants.{Xattrs, Keys}

-- so many blocks of data, from the first on
abbrev pub first_blocks : List ℕ → ℕ → List Block
first_blocks bytes zero = []
first_blocks bytes (suc n) = first_blocks bytes n ++ (n, bytes_part bytes (BLOCK * n) BLOCK) ∷ []

-- all of them
abbrev pub all_blocks : List ℕ → List Block
all_blocks bytes = first_blocks bytes (blocks_of (length bytes))

-- the xattrs, or the keys
abbrev pub names : Named → Content → Attributes
names Xattrs c = c.xattrs
names Keys c = c.omap

-- all names, and that there are no others
pub record AreNamesOf (m : Attributes) (n : Names) : Type 0 where
  pub intervals : n.intervals ≡ Everything
  pub entries : n.entries ≡ fin.entries m

-- all that an object holds
pub record IsAllOf (c : Content) (p : part.Content) : Type 0 where
  pub size : p.size ≡ length c.bytes
  pub blocks : p.blocks ≡ all_blocks c.bytes
  pub xattrs : AreNamesOf c.xattrs p.xattrs
  pub keys : AreNamesOf c.omap p.keys
