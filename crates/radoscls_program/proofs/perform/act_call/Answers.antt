use Rattle.std.proofs.Common.{inl, subst}
use Rattle.program_files.specs.Files.{storage}
use Rattle.class_tool.specs.declared.action.Action.{Action}
use Rattle.radoscls_program.specs.Change.{changed}
use Rattle.radoscls_program.specs.Program.{Acts}
use Rattle.radoscls_program.specs.Streams.{stream}
use Rattle.radoscls_program.proofs.perform.act_call.Goals as goal

pub returns-in-Ok-call_with : goal.returns-in-Ok-call_with
returns-in-Ok-call_with g c =
    let change = changed (storage g.F.ReadableFiles.disk g.F.Files.failed g.F.Files.in_place) c.args.files.now c.act.new.files (stream g.O.Output.printed g.O.Output.failed) c.args.out.now c.act.new.out in
    inl (record {
      filled = c.in-Ok-call_with.made;
      values = c.in-Ok-call_with.ensures (g.F.ReadableFiles.disk c.args.files.now) c.in-Ok.ensures.ok;
      acts = subst (λ (action : Action). Acts change action c.args.telling c.act.result.status) c.run_by-action.ensures c.act.ensures;
    })
