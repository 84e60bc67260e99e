use Rattle.tests_thread.proofs.queues.is_sent_within.Goals as goal

pub returns-in-Ok-clause-sent : goal.returns-in-Ok-clause-sent
returns-in-Ok-clause-sent g c ok =
    let law = c.sending_goes_on.ensures in
    let sent = law.property _ _ _ c.in-Ok.ensures.sent c.request-in-loop.ensures in
    law.further _ _ _ _ sent (law.several _ _ _ c.loop.invariant.grew c.submit.ensures.grew) (law.none _)
