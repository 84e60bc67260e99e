use Rattle.bpf_machine.proofs.Listed.{ends_have_lists, ends_have_lists_within, lists_are_one}
use Rattle.bpf_machine.proofs.laws.lists.Goals as goal

pub returns-clause-ends : goal.returns-clause-ends
returns-clause-ends c = ends_have_lists c.edits_lead.ensures

pub returns-clause-within : goal.returns-clause-within
returns-clause-within c = ends_have_lists_within c.edits_make.ensures

pub returns-clause-one : goal.returns-clause-one
returns-clause-one c = lists_are_one
