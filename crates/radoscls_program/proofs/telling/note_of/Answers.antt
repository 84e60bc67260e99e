use Rattle.std.proofs.Common.{rules}
use Rattle.radoscls_program.proofs.Verdicts.{noted, unnoted}
use Rattle.radoscls_program.proofs.telling.note_of.Goals as goal

pub returns-in-Ok : goal.returns-in-Ok
returns-in-Ok g c = noted c.args.is_explained c.in-Ok.note (search rules)

pub returns-in-Err : goal.returns-in-Err
returns-in-Err g c = unnoted c.args.is_explained _ (search rules)
