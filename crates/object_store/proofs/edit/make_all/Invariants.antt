use Rattle.std.specs.Prelude.{◌≡◌, drop}
use Rattle.object_store.specs.Edits.{all_edited}
use Rattle.object_store.proofs.edit.make_all.Given as goal

-- the edits to come do to what the edits so far have made what all do to the data
abbrev pub invariant-loop-edit : goal.invariant-loop-edit
invariant-loop-edit g l = all_edited (g.D.Data.bytes l.content) (drop l.edit-index l.edits) ≡ all_edited (g.D.Data.bytes l.fn.content) l.edits
