use Rattle.group_world.proofs.LogFacts.{LogLaws}
use Rattle.group_world.proofs.Agreeing.{all_agreed}
use Rattle.group_world.proofs.Growing.{all_uncut}
use Rattle.group_world.proofs.Resending.{all_resent}
use Rattle.group_world.proofs.laws.agreement.Goals as goal

log_laws : goal.After-refusals → LogLaws
log_laws c = record {
  empty = c.legal_lists.ensures.empty;
  append = c.legal_lists.ensures.append;
  replies = c.replies.ensures.stay;
  there = c.replies.ensures.there;
  requests = c.refusals.ensures.requests;
  lists = c.refusals.ensures.lists;
  pairs = c.pairs.ensures.there;
}

pub returns-clause-agreed : goal.returns-clause-agreed
returns-clause-agreed c = all_agreed (log_laws c) all_resent

pub returns-clause-kept : goal.returns-clause-kept
returns-clause-kept c = all_uncut (log_laws c)
