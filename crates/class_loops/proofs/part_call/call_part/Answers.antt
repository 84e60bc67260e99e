use Rattle.std.proofs.Common.{◌≡◌, ◌∙◌, List, ap, sym, subst, Some, get_or}
use Rattle.bpf_decode.specs.Class.{ClassMethod, IsMethod}
use Rattle.class_calls.specs.Parts.{IsAnsweredByPart, RefusesPart}
use Rattle.loop_classes.specs.declared.method.MethodRun.TheVariants.{Plain, Looped}
use Rattle.class_loops.specs.Parts.{IsAnsweredByPartAndBudget, IsAnsweredByPartAndLoops, RefusesPartByLoops}
use Rattle.class_loops.proofs.Methods.{looped_part_answers, named_by, named_has, on_err, on_ok, plain_part_answers, plain_part_refuses, run_of, some_loops}
use Rattle.class_loops.proofs.part_call.call_part.Goals as goal

pub call_looped_part-requires-clause-method : goal.call_looped_part-requires-clause-method
call_looped_part-requires-clause-method c =
    let class = c.args.class.now in
    let m = c.index-methods-place.result in
    let at : m ≡ get_or class c.in-Some.place m = c.index-methods-place.is ∙ ap (λ (xs : List ClassMethod). get_or xs c.in-Some.place m) c.methods.ensures.methods in
    let which = run_of m c.run.result.now (Looped c.in-Looped.method c.in-Looped.run') c.in-Looped.is c.run.ensures.method c.run.ensures.runs in
    subst IsMethod (sym which.0) (named_has IsMethod class c.args.request.method.now m c.methods.ensures.class.methods (named_by class c.args.request.method.now c.in-Some.place m c.in-Some.ensures.found at))

pub call_looped_part-requires-clause-runs : goal.call_looped_part-requires-clause-runs
call_looped_part-requires-clause-runs c =
    let which = run_of c.index-methods-place.result c.run.result.now (Looped c.in-Looped.method c.in-Looped.run') c.in-Looped.is c.run.ensures.method c.run.ensures.runs in
    which.1

pub returns-in-Plain-clause-ok : goal.returns-in-Plain-clause-ok
returns-in-Plain-clause-ok c =
    let class = c.args.class.now in
    let asked = c.args.request in
    let m = c.index-methods-place.result in
    let at : m ≡ get_or class c.in-Some.place m = c.index-methods-place.is ∙ ap (λ (xs : List ClassMethod). get_or xs c.in-Some.place m) c.methods.ensures.methods in
    let which = run_of m c.run.result.now (Plain c.in-Plain.method) c.in-Plain.is c.run.ensures.method c.run.ensures.runs in
    let named = named_by class asked.method.now c.in-Some.place m c.in-Some.ensures.found at ∙ ap Some (sym which.0) in
    on_ok c.call_method_part.result (IsAnsweredByPart class asked.method.now asked.part.now asked.caller asked.limits asked.input.now) (IsAnsweredByPartAndLoops class asked.method.now asked.part.now asked.caller asked.limits asked.input.now)
    (plain_part_answers class asked.method.now asked.part.now asked.caller asked.limits asked.input.now c.in-Plain.method named which.1.0) (c.call_method_part.ensures.ok class named)

pub returns-in-Plain-clause-refused : goal.returns-in-Plain-clause-refused
returns-in-Plain-clause-refused c =
    let class = c.args.class.now in
    let asked = c.args.request in
    let m = c.index-methods-place.result in
    let at : m ≡ get_or class c.in-Some.place m = c.index-methods-place.is ∙ ap (λ (xs : List ClassMethod). get_or xs c.in-Some.place m) c.methods.ensures.methods in
    let which = run_of m c.run.result.now (Plain c.in-Plain.method) c.in-Plain.is c.run.ensures.method c.run.ensures.runs in
    let named = named_by class asked.method.now c.in-Some.place m c.in-Some.ensures.found at ∙ ap Some (sym which.0) in
    on_err c.call_method_part.result (RefusesPart class asked.method.now asked.part.now asked.caller asked.limits asked.input.now) (RefusesPartByLoops class asked.method.now asked.part.now asked.caller asked.limits asked.input.now)
    (plain_part_refuses class asked.method.now asked.part.now asked.caller asked.limits asked.input.now c.in-Plain.method named which.1.0) (c.call_method_part.ensures.refused class named)

pub returns-in-Looped-clause-ok : goal.returns-in-Looped-clause-ok
returns-in-Looped-clause-ok c =
    let class = c.args.class.now in
    let asked = c.args.request in
    let m = c.index-methods-place.result in
    let at : m ≡ get_or class c.in-Some.place m = c.index-methods-place.is ∙ ap (λ (xs : List ClassMethod). get_or xs c.in-Some.place m) c.methods.ensures.methods in
    let which = run_of m c.run.result.now (Looped c.in-Looped.method c.in-Looped.run') c.in-Looped.is c.run.ensures.method c.run.ensures.runs in
    let named = named_by class asked.method.now c.in-Some.place m c.in-Some.ensures.found at ∙ ap Some (sym which.0) in
    let loops = some_loops c.in-Looped.method c.in-Looped.run' c.in-Looped.method.loops which.1 in
    on_ok c.call_looped_part.result (IsAnsweredByPartAndBudget c.in-Looped.method loops.0.budget asked.part.now asked.caller asked.limits asked.input.now) (IsAnsweredByPartAndLoops class asked.method.now asked.part.now asked.caller asked.limits asked.input.now)
    (looped_part_answers class asked.method.now asked.part.now asked.caller asked.limits asked.input.now c.in-Looped.method named loops.0 loops.1) (c.call_looped_part.ensures.ok loops.0 loops.1)

pub returns-in-Looped-clause-refused : goal.returns-in-Looped-clause-refused
returns-in-Looped-clause-refused c =
    let class = c.args.class.now in
    let asked = c.args.request in
    let m = c.index-methods-place.result in
    let at : m ≡ get_or class c.in-Some.place m = c.index-methods-place.is ∙ ap (λ (xs : List ClassMethod). get_or xs c.in-Some.place m) c.methods.ensures.methods in
    let which = run_of m c.run.result.now (Looped c.in-Looped.method c.in-Looped.run') c.in-Looped.is c.run.ensures.method c.run.ensures.runs in
    let named = named_by class asked.method.now c.in-Some.place m c.in-Some.ensures.found at ∙ ap Some (sym which.0) in
    c.call_looped_part.ensures.refused class named
