use Rattle.footprint.proofs.Alike.{answers_decide_runs, answers_decide_lists}
use Rattle.footprint.proofs.laws.answers_decide_lists.Goals as goal

pub returns-clause-runs : goal.returns-clause-runs
returns-clause-runs c = answers_decide_runs c.blind_steps.ensures c.decoded.ensures.begins c.decoded.ensures.elsewhere

pub returns-clause-lists : goal.returns-clause-lists
returns-clause-lists c = answers_decide_lists c.blind_steps.ensures c.decoded.ensures.begins c.decoded.ensures.elsewhere
