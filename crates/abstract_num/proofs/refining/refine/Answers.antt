use Rattle.abstract_num.specs.Plain.{view}
use Rattle.abstract_num.specs.Edges.{along}
use Rattle.abstract_num.proofs.Pairs.{from_tables, along_keeps}
use Rattle.abstract_num.proofs.refining.refine.Goals as goal

pub returns-clause-keeps : goal.returns-clause-keeps
returns-clause-keeps c = λ m n h k t.
    from_tables (along c.args.precision c.args.bits c.args.comparison c.args.taken (view c.args.x) (view c.args.y)) c.along.result m n c.along.ensures
    (along_keeps c.args.precision c.args.bits c.args.comparison c.args.taken (view c.args.x) (view c.args.y) m n h k t)
