use Rattle.large_objects.proofs.Allowed.{allowed}
use Rattle.large_objects.proofs.edits.with_key.Goals as goal

pub set_key-requires : goal.set_key-requires
set_key-requires c = allowed _ _ c.in_default.ensures c.are_bytes.ensures c.are_bytes-2.ensures
