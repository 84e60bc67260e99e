use Rattle.std.proofs.Common.{rules}
use Rattle.object_store.proofs.edit.edit_all.Goals as goal

-- turned by a_refused_list_keeps_its_first_edits
pub returns-in_err-make_all-clause-err : goal.returns-in_err-make_all-clause-err
returns-in_err-make_all-clause-err g c = search rules
