use Rattle.std.proofs.Common.{rules}
use Rattle.loop_tool.proofs.Noted.{noted, unnoted}
use Rattle.loop_tool.proofs.note.note_of.Goals as goal

pub returns-in-Ok : goal.returns-in-Ok
returns-in-Ok g c = noted c.args.is_explained c.in-Ok.note (search rules)

pub returns-in-Err : goal.returns-in-Err
returns-in-Err g c = unnoted c.args.is_explained _ (search rules)
