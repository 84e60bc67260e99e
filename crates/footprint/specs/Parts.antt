-- An object without some of its parts, and with them again.
use Rattle.std.specs.Prelude.{◌≡◌, ℕ, ◌+◌, [], Some, None, true, if◌then◌else◌}
use Rattle.std.specs.FinMap as fin
use Rattle.object_store.specs.Object.{Content, PlainObject, content_of}
use Rattle.footprint.specs.declared.parts.Parts.{Parts}

-- the kept parts of what an object holds; the others are empty
abbrev pub reduced_content : Parts → Content → Content
reduced_content kept c =
    record {
      bytes = if kept.bytes then c.bytes else [];
      xattrs = if kept.xattrs then c.xattrs else fin.empty;
      omap = if kept.keys then c.omap else fin.empty;
    }

-- the same of an object, absent or there
abbrev pub reduced : Parts → PlainObject → PlainObject
reduced kept None = None
reduced kept (Some c) = Some (reduced_content kept c)

-- the kept parts of one, the others of another
abbrev pub joined : Parts → Content → Content → Content
joined kept c rest =
    record {
      bytes = if kept.bytes then c.bytes else rest.bytes;
      xattrs = if kept.xattrs then c.xattrs else rest.xattrs;
      omap = if kept.keys then c.omap else rest.omap;
    }

-- an object with the parts that aren't kept from the whole one
abbrev pub restored : Parts → PlainObject → PlainObject → PlainObject
restored kept whole None = None
restored kept whole (Some c) = Some (joined kept c (content_of whole))

-- each part that is needed is kept
pub record Covers (kept needed : Parts) : Type 0 where
  pub bytes : needed.bytes ≡ true → kept.bytes ≡ true
  pub xattrs : needed.xattrs ≡ true → kept.xattrs ≡ true
  pub keys : needed.keys ≡ true → kept.keys ≡ true

-- the parts as a number: 1 data, 2 xattrs, 4 keys, added
abbrev pub number_of : Parts → ℕ
number_of p = (if p.bytes then 1 else 0) + (if p.xattrs then 2 else 0) + (if p.keys then 4 else 0)
