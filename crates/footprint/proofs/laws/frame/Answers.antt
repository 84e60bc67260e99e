use Rattle.footprint.proofs.Runs.{frames, list_frames}
use Rattle.footprint.proofs.laws.frame.Goals as goal

pub returns-clause-outcome : goal.returns-clause-outcome
returns-clause-outcome c = frames c.blind_steps.ensures c.edits_lead.ensures c.chains.ensures c.decoded.ensures.begins c.decoded.ensures.elsewhere c.layouts.ensures

pub returns-clause-list : goal.returns-clause-list
returns-clause-list c = list_frames c.blind_steps.ensures c.edits_lead.ensures c.chains.ensures c.decoded.ensures.begins c.decoded.ensures.elsewhere c.layouts.ensures
