use Rattle.abstract_regs.proofs.LinkJoins.{joins_keep_links, joins_keep_names}
use Rattle.abstract_regs.proofs.Names.{flows_keep_links, flows_keep_names}
use Rattle.abstract_regs.proofs.laws.links_stay.Goals as goal

pub returns-clause-flows : goal.returns-clause-flows
returns-clause-flows c = flows_keep_links

pub returns-clause-joins : goal.returns-clause-joins
returns-clause-joins c = joins_keep_links

pub returns-clause-flow_names : goal.returns-clause-flow_names
returns-clause-flow_names c = flows_keep_names

pub returns-clause-join_names : goal.returns-clause-join_names
returns-clause-join_names c = joins_keep_names
