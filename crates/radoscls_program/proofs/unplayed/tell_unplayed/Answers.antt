use Rattle.std.proofs.Common.{string_bytes}
use Rattle.radoscls_program.proofs.unplayed.tell_unplayed.Goals as goal

pub returns-in-Some-clause-told : goal.returns-in-Some-clause-told
returns-in-Some-clause-told g c = record {
  note = string_bytes c.asked_note-note.result;
  noted = c.asked_note-note.ensures;
  printed = rw c.deref.ensures at c.say.ensures;
}
