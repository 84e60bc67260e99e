use Rattle.std.proofs.Common.{string_bytes}
use Rattle.radoscls_program.proofs.telling.tell.Goals as goal

pub returns-clause-told : goal.returns-clause-told
returns-clause-told g c = record {
  note = string_bytes c.note_of-note.result;
  noted = c.note_of-note.ensures;
  printed = rw c.deref.ensures at c.say.ensures;
}
