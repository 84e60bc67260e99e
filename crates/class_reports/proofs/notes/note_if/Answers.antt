use Rattle.std.proofs.Common.{rules}
use Rattle.class_reports.proofs.Noted.{noted, unnoted}
use Rattle.class_reports.proofs.notes.note_if.Goals as goal

pub returns-in-Ok : goal.returns-in-Ok
returns-in-Ok g c = noted c.args.is_noted c.in-Ok.note (search rules)

pub returns-in-Err : goal.returns-in-Err
returns-in-Err g c = unnoted c.args.is_noted _ (search rules)
