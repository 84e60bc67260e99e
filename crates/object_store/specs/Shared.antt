-- What is behind a pointer that objects share.
use Rattle.std.specs.Prelude.{Option, Some, None}
use Rattle.std.specs.Arc.{arc_value}
use Rattle.std.specs.declared.sync.Arc.{Arc}
use Rattle.object_store.specs.Object.{Content, nothing}

-- what an object holds: nothing if there is no pointer
abbrev pub content_behind : {Z : Type 0} → Option (Arc Content Z) → Content
content_behind None = nothing
content_behind (Some held) = arc_value held
