use Rattle.std.proofs.Common.{refl}
use Rattle.group_world.proofs.runs.worked_runs.Goals as goal

pub returns-clause-one_node : goal.returns-clause-one_node
returns-clause-one_node c = refl

pub returns-clause-repeated_request : goal.returns-clause-repeated_request
returns-clause-repeated_request c = (refl, refl)

pub returns-clause-lost_acknowledgements : goal.returns-clause-lost_acknowledgements
returns-clause-lost_acknowledgements c = refl

pub returns-clause-repeated_install : goal.returns-clause-repeated_install
returns-clause-repeated_install c = (refl, refl)

pub returns-clause-all_stopped : goal.returns-clause-all_stopped
returns-clause-all_stopped c = (refl, refl)

pub returns-clause-divergent_end : goal.returns-clause-divergent_end
returns-clause-divergent_end c = (refl, refl)

pub returns-clause-one_silent : goal.returns-clause-one_silent
returns-clause-one_silent c = (refl, refl)

pub returns-clause-kept_interval : goal.returns-clause-kept_interval
returns-clause-kept_interval c = (refl, refl)
