use Rattle.std.proofs.Common.{inr}
use Rattle.rados_client.proofs.Asking.{asked_in, grew_more, grew_self}
use Rattle.rados_client.proofs.connection.Connection.submit_again.Goals as goal

pub returns-in-Ok-clause-grew : goal.returns-in-Ok-clause-grew
returns-in-Ok-clause-grew g c = grew_more c.args.self.now.sends c.nudge.new.self.sends c.submit.new.self.sends c.nudge.ensures.grew c.submit.ensures.grew

pub returns-in-Ok-clause-taken : goal.returns-in-Ok-clause-taken
returns-in-Ok-clause-taken g c now =
    let end = c.submit.new.self.sends in
    inr (asked_in c.args.self.now.sends c.nudge.new.self.sends end end c.args.request.now c.nudge.ensures.grew c.in-Ok.ensures.taken (grew_self end))

pub returns-in-Err-clause-grew : goal.returns-in-Err-clause-grew
returns-in-Err-clause-grew g c = grew_more c.args.self.now.sends c.nudge.new.self.sends c.submit.new.self.sends c.nudge.ensures.grew c.submit.ensures.grew
