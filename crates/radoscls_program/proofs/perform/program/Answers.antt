use Rattle.std.proofs.Common.{ap, map, ◌∙◌}
use Rattle.program_files.specs.Files.{storage}
use Rattle.radoscls_program.specs.Change.{changed}
use Rattle.radoscls_program.specs.Status.{code_of}
use Rattle.radoscls_program.specs.Streams.{stream}
use Rattle.radoscls_program.proofs.Ended.{failed_by}
use Rattle.radoscls_program.proofs.perform.program.Goals as goal

pub returns-clause-ends : goal.returns-clause-ends
returns-clause-ends g c = (c.perform.result, c.code.ensures, c.perform.ensures)

pub returns-clause-failed : goal.returns-clause-failed
returns-clause-failed g c well failed =
    let change = changed (storage g.F.ReadableFiles.disk g.F.Files.failed g.F.Files.in_place) c.args.files.now c.perform.new.files (stream g.O.Output.printed g.O.Output.failed) c.args.out.now c.perform.new.out in
    c.code.ensures ∙ ap code_of (failed_by change (map g.S.AsStr.text c.args.words.now) c.perform.result c.perform.ensures well failed)
