use Rattle.std.proofs.Common.{rules, ◌≡◌, sym, ap, ◌∙◌}
use Rattle.abstract_regs.specs.Kind.{join_kind}
use Rattle.abstract_regs.specs.Seen.{seen}
use Rattle.abstract_regs.proofs.Joins.{kind_of_same}
use Rattle.abstract_regs.proofs.slots.join_one.Goals as goal

-- the kinds are the same
pub returns-then-is_same : goal.returns-then-is_same
returns-then-is_same c =
    let same : seen c.args.kind.now ≡ seen c.args.other.now = search rules in
    sym (kind_of_same c.join_laws.ensures.of_same c.args.kind.now) ∙ ap (join_kind (seen c.args.kind.now)) same
