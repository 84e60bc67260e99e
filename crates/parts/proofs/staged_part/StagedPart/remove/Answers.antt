use Rattle.std.proofs.Common.{sym, subst, rules}
use Rattle.std.specs.Prelude.{IsTrue}
use Rattle.part_names.specs.Known.{PlainNames}
use Rattle.part_names.specs.Order.{is_held}
use Rattle.parts.proofs.Standing.{all_held}
use Rattle.parts.proofs.staged_part.StagedPart.remove.Goals as goal

pub returns-clause-done : goal.returns-clause-done
returns-clause-done c =
    record {
      number = search rules;
      object = search rules;
      list = search rules;
      xattrs = λ all name. subst (λ (n : PlainNames). IsTrue (is_held n.intervals name)) (sym c.clear-2.ensures.value) (all_held c.self.inside.xattrs.most name);
      keys = λ all name. subst (λ (n : PlainNames). IsTrue (is_held n.intervals name)) (sym c.clear-3.ensures.value) (all_held c.self.inside.keys.most name);
    }
