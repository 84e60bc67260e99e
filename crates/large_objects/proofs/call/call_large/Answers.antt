use Rattle.std.proofs.Common.{◌∙◌, None, Some, sym}
use Rattle.large_objects.proofs.Answered.{answers_here}
use Rattle.large_objects.proofs.call.call_large.Goals as goal
use Rattle.large_objects.proofs.call.call_large.Goals.{in-Some+in_ok-answer-in-Some, in-None+in_ok-answer-in-None}

pub returns-in-Ok-clause-answered : goal.returns-in-Ok-clause-answered
returns-in-Ok-clause-answered c =
    elim c.match-object.branch [
      | in-Some+in_ok-answer-in-Some w ↦
          answers_here c.blind_steps.ensures c.decoded.ensures.begins c.decoded.ensures.elsewhere c.layouts.ensures _ _ c.args.object (Some w.in-Some.object) _ _ c.match-object.answer w.in_ok-answer-in-Some.answer c.in-Ok.after
          w.in-Some.is w.answer-is w.in_ok-answer-in-Some.ensures.answered (λ list f e. c.in-Ok.ensures.made list f (e ∙ sym c.deref.ensures.value))
      | in-None+in_ok-answer-in-None w ↦
          answers_here c.blind_steps.ensures c.decoded.ensures.begins c.decoded.ensures.elsewhere c.layouts.ensures _ _ c.args.object None _ _ c.match-object.answer w.in_ok-answer-in-None.answer c.in-Ok.after
          w.in-None.is w.answer-is w.in_ok-answer-in-None.ensures.answered (λ list f e. c.in-Ok.ensures.made list f (e ∙ sym c.deref.ensures.value))
    ]
