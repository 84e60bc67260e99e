-- Objects by name.
use Rattle.std.specs.Prelude.{ℕ, List, Some, None, Result, Ok, Err}
use Rattle.std.specs.FinMap as fin
use Rattle.shared_map.specs.Entries.{ByteMap}
use Rattle.object_store.specs.declared.store_error.StoreError.{StoreError}
use Rattle.object_store.specs.Object.{Content, PlainObject}

-- a finite map from names to what the objects hold; a name that isn't in it has no object
abbrev pub PlainObjects : Type 0
PlainObjects = ByteMap Content

-- the objects with the one of a name made this, or absent
abbrev pub stored : PlainObjects → List ℕ → PlainObject → PlainObjects
stored objects name None = fin.remove objects name
stored objects name (Some c) = fin.insert objects name c

-- the objects after a change of the one of a name, if it isn't refused
abbrev pub after : PlainObjects → List ℕ → Result Content StoreError → Result PlainObjects StoreError
after objects name (Ok c) = Ok (fin.insert objects name c)
after objects name (Err e) = Err e

-- the same of a removal
abbrev pub after_removal : PlainObjects → List ℕ → Result (Unit {0}) StoreError → Result PlainObjects StoreError
after_removal objects name (Ok _) = Ok (fin.remove objects name)
after_removal objects name (Err e) = Err e
