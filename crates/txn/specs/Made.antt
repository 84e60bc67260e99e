-- What edits make of whatever object. A host may make a list of another object than that of its run,
-- or by other limits than those of all objects.
use Rattle.std.specs.Prelude.{List, [], ◌∷◌, Some, None}
use Rattle.std.specs.FinMap as fin
use Rattle.object_store.specs.Object.{PlainObject, nothing, content_of, spliced, resized}
use Rattle.txn.specs.Edits.{Edit, Create, Remove, SetXattr, RemoveXattr, SetKey, RemoveKey, SetLength, Write}

-- an edit, made of whatever object: nothing is refused, and no limit counts
abbrev pub made : Edit → PlainObject → PlainObject
made Create None = Some nothing
made Create (Some c) = Some c
made Remove o = None
made (SetXattr name value) o = Some (record (content_of o) { xattrs = fin.insert (content_of o).xattrs name value })
made (RemoveXattr name) None = None
made (RemoveXattr name) (Some c) = Some (record c { xattrs = fin.remove c.xattrs name })
made (SetKey key value) o = Some (record (content_of o) { omap = fin.insert (content_of o).omap key value })
made (RemoveKey key) None = None
made (RemoveKey key) (Some c) = Some (record c { omap = fin.remove c.omap key })
made (SetLength len) None = None
made (SetLength len) (Some c) = Some (record c { bytes = resized c.bytes len })
made (Write at text) o = Some (record (content_of o) { bytes = spliced (content_of o).bytes at text })

abbrev pub all_made : List Edit → PlainObject → PlainObject
all_made [] o = o
all_made (e ∷ es) o = all_made es (made e o)
