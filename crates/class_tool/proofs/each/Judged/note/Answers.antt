use Rattle.std.proofs.Common.{rules}
use Rattle.class_tool.proofs.Notes.{any_noted}
use Rattle.class_tool.proofs.each.Judged.note.Goals as goal

pub returns-then-self : goal.returns-then-self
returns-then-self c = any_noted c.args.self.now.is_explained c.verdict_note.result (search rules)
