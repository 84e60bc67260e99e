use Rattle.loop_frames.proofs.Heads.{heads_keep}
use Rattle.loop_frames.proofs.Order.{greater_keeps}
use Rattle.loop_frames.proofs.Pairs.{pairs_step}
use Rattle.loop_frames.proofs.laws.loop_laws.Goals as goal

pub returns-clause-heads : goal.returns-clause-heads
returns-clause-heads c = heads_keep c.holding_laws.ensures.joins

pub returns-clause-greater : goal.returns-clause-greater
returns-clause-greater c = greater_keeps

pub returns-clause-pairs : goal.returns-clause-pairs
returns-clause-pairs c =
    pairs_step c.keeping_laws.ensures.arithmetic c.keeping_laws.ensures.tighten c.keeping_laws.ensures.edges
