use Rattle.std.proofs.Common.{inr}
use Rattle.class_tool.proofs.large_run.run_large.Goals as goal

pub returns-clause-err : goal.returns-clause-err
returns-clause-err g c = inr (record { answer = c.in_ok-answer.answer; calls = c.in_ok-answer.ensures.ok; unsaved = rw c.from.ensures c.in-Err.ensures.err })
