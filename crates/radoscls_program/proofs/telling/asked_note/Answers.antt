use Rattle.std.proofs.Common.{rules}
use Rattle.radoscls_program.proofs.Verdicts.{noted, unnoted}
use Rattle.radoscls_program.proofs.telling.asked_note.Goals as goal

pub returns-then-is_explained : goal.returns-then-is_explained
returns-then-is_explained c = noted c.args.is_explained c.args.note c.if-is_explained.true

pub returns-else-is_explained : goal.returns-else-is_explained
returns-else-is_explained c = unnoted c.args.is_explained _ (search rules)
