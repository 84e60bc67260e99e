use Rattle.verifier.proofs.Tables.{whole_is_table, only_table}
use Rattle.verifier.proofs.laws.one_table.Goals as goal

pub returns : goal.returns
returns c = λ rules caps code. (whole_is_table rules caps code, only_table rules caps code)
