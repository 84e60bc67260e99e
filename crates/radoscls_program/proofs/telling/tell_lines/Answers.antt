use Rattle.std.proofs.Common.{string_bytes}
use Rattle.radoscls_program.proofs.telling.tell_lines.Goals as goal

pub returns-clause-told : goal.returns-clause-told
returns-clause-told g c = record {
  note = string_bytes c.note_below-note.result;
  noted = c.note_below-note.ensures;
  printed = rw c.deref.ensures at c.say.ensures;
}
