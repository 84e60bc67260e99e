use Rattle.rados_client.proofs.MethodRuns.{answers_have_run}
use Rattle.rados_client.proofs.laws.answers_have_run.Goals as goal

pub returns : goal.returns
returns c = answers_have_run c.replies_run.ensures
