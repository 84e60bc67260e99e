use Rattle.object_store.proofs.Kept.{read_bytes, xattr_value, key_value}
use Rattle.object_store.proofs.laws.reads_are_within.Goals as goal

pub returns-clause-read : goal.returns-clause-read
returns-clause-read c = read_bytes

pub returns-clause-get_xattr : goal.returns-clause-get_xattr
returns-clause-get_xattr c = xattr_value

pub returns-clause-get_key : goal.returns-clause-get_key
returns-clause-get_key c = key_value
