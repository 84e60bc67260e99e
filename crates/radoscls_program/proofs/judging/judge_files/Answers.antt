use Rattle.radoscls_program.specs.Streams.{stream}
use Rattle.radoscls_program.proofs.Verdicts.{reported}
use Rattle.radoscls_program.proofs.judging.judge_files.Goals as goal

pub returns-in-Ok : goal.returns-in-Ok
returns-in-Ok g c =
    let out = stream g.O.Output.printed g.O.Output.failed in
    reported (g.F.ReadableFiles.disk c.args.files.now) (out c.args.out.now) (out c.show_reports.new.out) c.args.asked.now c.in-Ok.reports c.show_reports.result
    c.in-Ok.ensures c.show_reports.ensures
