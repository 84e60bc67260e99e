use Rattle.std.proofs.Common.{string_bytes}
use Rattle.radoscls_program.specs.Streams.{stream}
use Rattle.radoscls_program.proofs.TestRuns.{shown}
use Rattle.radoscls_program.proofs.testing.test.Goals as goal

pub returns-in-Ok : goal.returns-in-Ok
returns-in-Ok g c =
    let out = stream g.O.Output.printed g.O.Output.failed in
    shown (g.F.ReadableFiles.disk c.args.files.now) (out c.args.out.now) (out c.show_end.new.out) c.args.asked.now c.args.is_explained c.in-Ok.end (string_bytes c.in-Ok.lines) c.show_end.result
    c.in-Ok.ensures.ok (rw c.deref.ensures at c.show_end.ensures)
