use Rattle.std.proofs.Common.{inr, rules}
use Rattle.loop_tool.proofs.run.run_by_loops.Goals as goal

pub returns-clause-err : goal.returns-clause-err
returns-clause-err g c =
    inr (record {
      report = c.in_ok-report.report;
      outcome = c.in_ok-outcome.outcome;
      calls = c.in_ok-outcome.ensures.ok;
      said = c.in_ok-report.ensures;
      unsaved = rw c.from.ensures c.in-Err.ensures.err;
    })

pub returns-in_err-outcome-clause-err : goal.returns-in_err-outcome-clause-err
returns-in_err-outcome-clause-err g c = search rules
