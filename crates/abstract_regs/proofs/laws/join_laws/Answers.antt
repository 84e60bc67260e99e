use Rattle.abstract_regs.proofs.Joins.{commutes, associates, of_same, is_above}
use Rattle.abstract_regs.proofs.LinkJoins.{links_commute, links_associate, links_of_same, links_above}
use Rattle.abstract_regs.proofs.laws.join_laws.Goals as goal

pub returns-clause-commutes : goal.returns-clause-commutes
returns-clause-commutes c = commutes c.join_laws.ensures.commutes

pub returns-clause-associates : goal.returns-clause-associates
returns-clause-associates c = associates c.join_laws.ensures.associates

pub returns-clause-of_same : goal.returns-clause-of_same
returns-clause-of_same c = of_same c.join_laws.ensures.of_same

pub returns-clause-is_above : goal.returns-clause-is_above
returns-clause-is_above c = is_above c.join_laws.ensures.is_above

pub returns-clause-links_commute : goal.returns-clause-links_commute
returns-clause-links_commute c = links_commute

pub returns-clause-links_associate : goal.returns-clause-links_associate
returns-clause-links_associate c = links_associate

pub returns-clause-links_of_same : goal.returns-clause-links_of_same
returns-clause-links_of_same c = links_of_same

pub returns-clause-links_are_above : goal.returns-clause-links_are_above
returns-clause-links_are_above c = links_above
