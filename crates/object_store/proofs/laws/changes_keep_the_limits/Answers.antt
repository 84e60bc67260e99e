use Rattle.object_store.proofs.Kept.{write_keeps, truncate_keeps, set_xattr_keeps, set_key_keeps, remove_xattr_keeps, remove_key_keeps, create_keeps}
use Rattle.object_store.proofs.laws.changes_keep_the_limits.Goals as goal

pub returns-clause-write : goal.returns-clause-write
returns-clause-write c = write_keeps

pub returns-clause-truncate : goal.returns-clause-truncate
returns-clause-truncate c = truncate_keeps

pub returns-clause-set_xattr : goal.returns-clause-set_xattr
returns-clause-set_xattr c = set_xattr_keeps

pub returns-clause-set_key : goal.returns-clause-set_key
returns-clause-set_key c = set_key_keeps

pub returns-clause-remove_xattr : goal.returns-clause-remove_xattr
returns-clause-remove_xattr c = remove_xattr_keeps

pub returns-clause-remove_key : goal.returns-clause-remove_key
returns-clause-remove_key c = remove_key_keeps

pub returns-clause-create : goal.returns-clause-create
returns-clause-create c = create_keeps
