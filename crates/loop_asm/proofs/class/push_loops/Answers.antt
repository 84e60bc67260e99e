use Rattle.std.proofs.Common.{◌≡◌, ◌++◌, ◌∷◌, [], sym, ◌∙◌}
use Rattle.loop_asm.proofs.Methods.{loops_go_on, loops_stop}
use Rattle.loop_asm.proofs.class.push_loops.Goals as goal

pub returns-in-Err : goal.returns-in-Err
returns-in-Err c =
    loops_stop c.args.all.now.items c.args.line c.args.text.now c.args.below.now c.lines_of_method.result c.in-Err.error (sym c.is_method.ensures ∙ c.if-is_method.true) c.lines_of_method.ensures.place c.in-Err.ensures

pub returns-in_ok-push-in-Ok : goal.returns-in_ok-push-in-Ok
returns-in_ok-push-in-Ok c =
    let pushed : c.push.new.self.items ≡ c.args.all.now.items ++ (c.in-Ok.loops ∷ []) = c.in_ok-push-in-Ok.ensures.items in
    rw pushed (loops_go_on c.args.all.now.items c.args.line c.args.text.now c.args.below.now c.lines_of_method.result c.in-Ok.loops (sym c.is_method.ensures ∙ c.if-is_method.true) c.lines_of_method.ensures.place c.in-Ok.ensures)
