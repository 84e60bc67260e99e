use Rattle.std.proofs.Common.{ap, ◌∙◌, arith, rules, length, take, drop, ◌++◌, ◌+◌}
use Rattle.std.proofs.lemmas.List.{take_at}
use Rattle.large_objects.proofs.Splice.{splices}
use Rattle.large_objects.proofs.slices.splice.Goals as goal

pub returns-clause-ok : goal.returns-clause-ok
returns-clause-ok c =
    let at = c.args.at in
    let text = c.args.text.now in
    take_at c.overlay.new.bytes _ c.lengthen.new.bytes.len (omega arith)
    ∙ c.overlay.ensures
    ∙ ap (λ l. take at l ++ text ++ drop (at + length text) l) (c.deref_mut.ensures.value ∙ c.in_ok-lengthen.ensures.lengthened)
    ∙ splices c.args.content.now.items at text (search rules)
