use Rattle.abstract_num.specs.Plain.{view}
use Rattle.abstract_num.specs.Tighten.{tighten}
use Rattle.abstract_num.proofs.Tight.{from_table, tighten_sound}
use Rattle.abstract_num.proofs.tightening.tighten.Goals as goal

pub returns-clause-keeps : goal.returns-clause-keeps
returns-clause-keeps c = λ n h. from_table (tighten c.args.precision (view c.args.x)) c.tightened.result n c.tightened.ensures (tighten_sound c.args.precision (view c.args.x) n h)
