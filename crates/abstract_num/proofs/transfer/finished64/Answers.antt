use Rattle.std.proofs.Common.{rules, ◌^◌, ◌<◌, Some, ap, sym, ◌∙◌}
use Rattle.abstract_num.specs.Plain.{view}
use Rattle.abstract_num.specs.Transfer.{finished64}
use Rattle.abstract_num.proofs.Settled.{tighten-any, tighten-constant}
use Rattle.abstract_num.proofs.transfer.finished64.Goals as goal

pub returns-in-Exact : goal.returns-in-Exact
returns-in-Exact c =
    let small : c.in-Exact.n < 2 ^ 64 = search rules in
    ap (λ a. finished64 c.args.precision a (view c.args.x) (view c.args.y)) c.in-Exact.is ∙ tighten-constant c.args.precision c.in-Exact.n small ∙ ap Some (sym c.known.ensures)

pub returns-in-All : goal.returns-in-All
returns-in-All c = ap (λ a. finished64 c.args.precision a (view c.args.x) (view c.args.y)) c.in-All.is ∙ tighten-any c.args.precision ∙ ap Some (sym c.any.ensures.table)
