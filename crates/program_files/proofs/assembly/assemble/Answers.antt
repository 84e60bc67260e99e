use Rattle.std.proofs.Common.{rules}
use Rattle.program_files.proofs.assembly.assemble.Goals as goal

-- turned by out_is_emptied_first
pub returns-in_err-bytes-clause-err : goal.returns-in_err-bytes-clause-err
returns-in_err-bytes-clause-err g c = search rules

-- turned by out_is_emptied_first
pub returns-in-Ok-clause-ok : goal.returns-in-Ok-clause-ok
returns-in-Ok-clause-ok g c = search rules

-- turned by out_is_emptied_first, and by failed_write_empties_the_file
pub returns-clause-err : goal.returns-clause-err
returns-clause-err g c = search rules
