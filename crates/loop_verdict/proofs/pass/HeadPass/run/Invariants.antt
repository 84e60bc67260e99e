use Rattle.std.proofs.Common.{◌≡◌, drop}
use Rattle.loop_tables.specs.Table.{loop_table}
use Rattle.loop_tables.specs.Verdict.{first_in_loops, loop_verdict}
use Rattle.loop_verdict.proofs.Visits.{Follows, FitBelow}
use Rattle.loop_verdict.proofs.pass.HeadPass.run.Given as goal

abbrev pub invariant-loop-slot : goal.invariant-loop-slot
invariant-loop-slot l =
    let caps = l.method.caps.now in
    let heads = l.method.heads.now in
    let code = l.method.code.now in
    record {
      rest : first_in_loops caps heads code (loop_table caps heads code) l.slot (drop l.slot code) ≡ loop_verdict caps heads code;
      fit : FitBelow caps heads code l.slot;
      follows : Follows caps heads code l.slot l.self;
    }
