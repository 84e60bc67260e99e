use Rattle.group_world.proofs.Answering.{all_committed}
use Rattle.group_world.proofs.laws.replies_are_committed.Goals as goal

pub returns : goal.returns
returns c = all_committed (record {
  empty = c.legal_lists.ensures.empty;
  append = c.legal_lists.ensures.append;
  replies = c.replies.ensures.stay;
  there = c.replies.ensures.there;
  requests = c.refusals.ensures.requests;
  lists = c.refusals.ensures.lists;
  pairs = c.pairs.ensures.there;
})
