use Rattle.std.proofs.Common.{sym, ap, ◌∙◌}
use Rattle.std.proofs.lemmas.Bool.{true≢false}
use Rattle.rados_client.specs.declared.patience.Patience.{Patience}
use Rattle.rados_client.proofs.Asking.{grew_more, knows_more, knows_same, is_asked, not_asked_same, taken_in, untaken_in}
use Rattle.rados_client.proofs.connection.Connection.ask.Goals.{in-Ok, in-Err-NoRoom}
use Rattle.rados_client.proofs.connection.Connection.ask.Goals as goal

pub returns-in-Some-clause-some : goal.returns-in-Some-clause-some
returns-in-Some-clause-some g c =
    let before = c.loop.invariant in
    let now = c.try_once.ensures in
    is_asked g.N.Classes.classes c.args.self.now c.loop.self c.try_once.new.self c.args.request.now c.in-Some.answer before.seen now.seen before.grew now.grew c.in-Some.ensures.some

pub loop-preserved : goal.loop-preserved
loop-preserved g c =
    let old = c.args.self.now in
    let mid = c.loop.self in
    let new = c.try_once.new.self in
    let before = c.loop.invariant in
    let now = c.try_once.ensures in record {
      seen = knows_more old.seen mid.seen new.seen before.seen now.seen;
      grew = grew_more old.sends mid.sends new.sends before.grew now.grew;
      taken = taken_in old.sends mid.sends new.sends c.args.request.now c.loop.patience.taken c.try_once.new.patience.taken before.taken before.grew now.grew now.taken;
      untaken = untaken_in old.sends mid.sends new.sends c.args.request.now c.loop.patience.taken c.try_once.new.patience.taken before.untaken now.grew now.untaken;
    }

pub loop-init : goal.loop-init
loop-init g c =
    let old = c.args.self.now in
    let new = c.submit.new.self in
    let seen = knows_same old.seen new.seen c.submit.ensures.seen in
    let grew = c.submit.ensures.grew in
    elim c.match-submit.branch [
      | in-Ok w ↦ record {
        seen = seen;
        grew = grew;
        taken = λ _. w.in-Ok.ensures.taken;
        untaken = λ not. absurd (true≢false (sym (ap (λ (p : Patience). p.taken) w.patience-is ∙ w.after_taken-patience.ensures) ∙ not));
      }
      | in-Err-NoRoom w ↦ record {
        seen = seen;
        grew = grew;
        taken = λ is. absurd (true≢false (sym is ∙ (ap (λ (p : Patience). p.taken) w.patience-is ∙ w.after_no_room-patience.ensures)));
        untaken = λ _. not_asked_same old.sends new.sends c.args.request.now w.in-Err-NoRoom.ensures.kept;
      }
    ]
