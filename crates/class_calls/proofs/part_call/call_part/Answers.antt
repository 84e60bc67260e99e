use Rattle.std.proofs.Common.{◌≡◌, ◌∙◌, List, ap, Some, get_or}
use Rattle.bpf_decode.specs.Class.{ClassMethod}
use Rattle.class_calls.proofs.Place.{is_that}
use Rattle.class_calls.proofs.part_call.call_part.Goals as goal

pub returns-clause-ok : goal.returns-clause-ok
returns-clause-ok c =
    let m = c.index-methods-place.result in
    let place = c.in-Some.ensures.found in
    let at : m ≡ get_or c.args.class.now c.in-Some.place m = c.index-methods-place.is ∙ ap (λ (xs : List ClassMethod). get_or xs c.in-Some.place m) c.methods.ensures.methods in
    c.call_method_part.ensures.ok c.args.class.now (place.named ∙ ap Some (is_that c.args.class.now c.in-Some.place place.method m place.at at))

pub returns-clause-refused : goal.returns-clause-refused
returns-clause-refused c =
    let m = c.index-methods-place.result in
    let place = c.in-Some.ensures.found in
    let at : m ≡ get_or c.args.class.now c.in-Some.place m = c.index-methods-place.is ∙ ap (λ (xs : List ClassMethod). get_or xs c.in-Some.place m) c.methods.ensures.methods in
    c.call_method_part.ensures.refused c.args.class.now (place.named ∙ ap Some (is_that c.args.class.now c.in-Some.place place.method m place.at at))
