use Rattle.large_objects.proofs.Allowed.{allowed}
use Rattle.large_objects.proofs.edits.with_xattr.Goals as goal

pub set_xattr-requires : goal.set_xattr-requires
set_xattr-requires c = allowed _ _ c.in_default.ensures c.are_bytes.ensures c.are_bytes-2.ensures
