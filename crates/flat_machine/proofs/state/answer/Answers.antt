use Rattle.std.proofs.Common.{◌≡◌, List, [], ◌∷◌, Some, None, ap, ◌∙◌, sym, arith, length, drop, get_or}
use Rattle.std.proofs.lemmas.List.{drop_more, drop_all}
use Rattle.flat_machine.proofs.state.answer.Goals as goal

tail_is : {A : Type 0} (f : List A) (d : A) → length f ≡ 11 → drop 6 f ≡ get_or f 6 d ∷ get_or f 7 d ∷ get_or f 8 d ∷ get_or f 9 d ∷ get_or f 10 d ∷ []
tail_is f d n =
    drop_more f 6 d (omega arith)
    ∙ ap (λ t. get_or f 6 d ∷ t) (drop_more f 7 d (omega arith)
    ∙ ap (λ t. get_or f 7 d ∷ t) (drop_more f 8 d (omega arith)
    ∙ ap (λ t. get_or f 8 d ∷ t) (drop_more f 9 d (omega arith)
    ∙ ap (λ t. get_or f 9 d ∷ t) (drop_more f 10 d (omega arith)
    ∙ ap (λ t. get_or f 10 d ∷ t) (drop_all 11 f (omega arith))))))

pub returns : goal.returns
returns c =
    let n : length c.args.regs ≡ 11 = omega arith in
    ap (λ t. Some c.args.value ∷ None ∷ None ∷ None ∷ None ∷ None ∷ t) (sym (tail_is c.args.regs None n))
