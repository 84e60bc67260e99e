use Rattle.std.proofs.Common.{◌+◌, sym, subst, arith, ◌<◌}
use Rattle.std.specs.Prelude.{All, IfSome}
use Rattle.std.proofs.lemmas.List.Elements.{All-push}
use Rattle.loop_finder.specs.Found.{IsBackTarget}
use Rattle.loop_finder.proofs.Jumps.{some_of, not_empty, Has, Between, has_more}
use Rattle.loop_finder.proofs.targets.back_targets.Goals as goal

pub loop-preserved : goal.loop-preserved
loop-preserved c =
    let code = c.args.code.now in
    let jump = c.in-Some.jump in
    let target = c.in-Ok.target in
    let targets = c.loop.targets.items in
    let same = sym c.in-Ok.ensures.1 in
    let found = some_of c.least_target.result jump _ _ c.in-Some.is c.least_target.ensures.found in
    let it : IsBackTarget code target = subst (IsBackTarget code) same found in
    let between : Between code c.loop.least target = λ p i q is le lt.
    c.least_target.ensures.least p i q is le (subst (λ o. IfSome o (λ jump. q < jump.target)) (sym c.in-Some.is) (omega (arith, same, lt))) in
    let more = has_more code c.loop.least target targets between c.loop.invariant.each in
    record {
      targets = subst (All (IsBackTarget code)) (sym c.in_ok-push.ensures.items) (All-push (IsBackTarget code) targets target c.loop.invariant.targets it);
      none = λ none. absurd (not_empty targets c.push.new.self.items target c.in_ok-push.ensures.items none);
      each = subst (λ n. Has code (n + 1) c.push.new.self.items) (sym c.from-least.ensures) (subst (Has code (target + 1)) (sym c.in_ok-push.ensures.items) more);
    }
