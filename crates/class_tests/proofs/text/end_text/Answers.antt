use Rattle.std.proofs.lemmas.Result.{IfOk-weaker}
use Rattle.class_tests.proofs.text.end_text.Goals as goal

pub returns-in_ok-there-in-DiffersAt : goal.returns-in_ok-there-in-DiffersAt
returns-in_ok-there-in-DiffersAt c = rw c.in-DiffersAt.is (IfOk-weaker c.differs_text.result _ _ (λ text h. (_, _, h)) c.differs_text.ensures)
