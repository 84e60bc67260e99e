use Rattle.std.proofs.Common.{inl}
use Rattle.radoscls_program.proofs.perform.act_by_loops.Goals as goal

pub returns-in-Ok-call_with : goal.returns-in-Ok-call_with
returns-in-Ok-call_with g c =
    inl (record {
      filled = c.in-Ok-call_with.made;
      values = c.in-Ok-call_with.ensures (g.F.ReadableFiles.disk c.args.files.now) c.in-Ok.ensures.ok;
      ended = c.run_looped.ensures;
    })
