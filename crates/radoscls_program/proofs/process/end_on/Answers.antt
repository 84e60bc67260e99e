use Rattle.std.proofs.Common.{sym, subst, map, string_bytes, IfOk, IfErr}
use Rattle.program_files.specs.Files.{storage}
use Rattle.radoscls_program.specs.Change.{changed}
use Rattle.radoscls_program.specs.Program.{Ends, IsUnstarted}
use Rattle.radoscls_program.specs.Streams.{stream}
use Rattle.radoscls_program.proofs.process.end_on.Goals as goal

pub returns-in-Ok-clause-asked : goal.returns-in-Ok-clause-asked
returns-in-Ok-clause-asked g c =
    let change = changed (storage g.F.ReadableFiles.disk g.F.Files.failed g.F.Files.in_place) c.args.files.now c.perform.new.files (stream g.O.Output.printed g.O.Output.failed) c.args.out.now c.perform.new.out in
    let ends = subst (λ ws. Ends change (map string_bytes ws) c.perform.result) c.deref.ensures.value c.perform.ensures in
    subst (λ r. IfOk r (λ all. Ends change (map string_bytes all.items) c.perform.result)) (sym c.in-Ok.is) ends

pub returns-in-Err-clause-unread : goal.returns-in-Err-clause-unread
returns-in-Err-clause-unread g c =
    let files = storage g.F.ReadableFiles.disk g.F.Files.failed g.F.Files.in_place in
    let change = changed files c.args.files.now c.args.files.now (stream g.O.Output.printed g.O.Output.failed) c.args.out.now c.unstarted.new.out in
    subst (λ r. IfErr r (λ _. IsUnstarted change c.unstarted.result)) (sym c.in-Err.is) (c.unstarted.ensures.unstarted (files c.args.files.now))
