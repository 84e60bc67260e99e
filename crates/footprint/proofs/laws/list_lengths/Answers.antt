use Rattle.footprint.proofs.Bounded.{lists_are_bounded, lists_are_short}
use Rattle.footprint.proofs.EditBytes.{edits_are_short}
use Rattle.footprint.proofs.Quiet.{no_change_leaves_nothing, readers_leave_nothing}
use Rattle.footprint.proofs.laws.list_lengths.Goals as goal

pub returns-clause-edits : goal.returns-clause-edits
returns-clause-edits c = edits_are_short

pub returns-clause-unchanged : goal.returns-clause-unchanged
returns-clause-unchanged c = no_change_leaves_nothing c.blind_steps.ensures c.decoded.ensures.begins c.decoded.ensures.elsewhere

pub returns-clause-readers : goal.returns-clause-readers
returns-clause-readers c = readers_leave_nothing c.blind_steps.ensures c.decoded.ensures.begins c.decoded.ensures.elsewhere c.layouts.ensures

pub returns-clause-bounded : goal.returns-clause-bounded
returns-clause-bounded c = lists_are_bounded c.blind_steps.ensures c.decoded.ensures.begins c.decoded.ensures.elsewhere

pub returns-clause-short : goal.returns-clause-short
returns-clause-short c = lists_are_short c.blind_steps.ensures c.decoded.ensures.begins c.decoded.ensures.elsewhere c.layouts.ensures
