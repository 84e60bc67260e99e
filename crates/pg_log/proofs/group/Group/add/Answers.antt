use Rattle.std.proofs.Common.{◌∙◌, ap, sym, subst, List, ◌++◌, ◌∷◌, [], arith}
use Rattle.std.proofs.lemmas.Grind.{common_steps}
use Rattle.pg_log.specs.declared.entry.Entry.{Entry}
use Rattle.pg_log.specs.Entries.{Keeps}
use Rattle.pg_log.proofs.group.Group.add.Goals as goal

pub returns-clause-kept : goal.returns-clause-kept
returns-clause-kept g c =
    let R : List Entry → Type 0 = λ w. Keeps g.C.Classes.classes w c.admit.new.log.objects c.admit.new.log.places in
    subst R (sym (c.push_reserved.ensures.items ∙ ap (λ w. w ++ c.args.entry ∷ []) c.admit.ensures.entries)) c.in_ok-admit.ensures.ok

pub returns-clause-ok : goal.returns-clause-ok
returns-clause-ok c = grind (arith, common_steps)

pub returns-clause-room : goal.returns-clause-room
returns-clause-room c = grind (arith, common_steps)
