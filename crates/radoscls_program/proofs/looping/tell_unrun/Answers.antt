use Rattle.std.proofs.Common.{rules, string_bytes}
use Rattle.radoscls_program.specs.Streams.{stream}
use Rattle.radoscls_program.proofs.LoopEnds.{unrun_told}
use Rattle.radoscls_program.proofs.looping.tell_unrun.Goals as goal

pub returns-clause-told : goal.returns-clause-told
returns-clause-told g c =
    let out = stream g.O.Output.printed g.O.Output.failed in
    unrun_told (out c.args.out.now) (out c.say.new.out) c.args.failed.now.failure c.args.telling (string_bytes c.note_of-note.result) (search rules) c.note_of-note.ensures
    (rw c.deref.ensures at c.say.ensures)
