use Rattle.std.proofs.Common.{◌*◌, ap, arith}
use Rattle.osd.proofs.Parting.{writers_fit}
use Rattle.osd.proofs.cluster_parts.rows_of.Goals as goal

pub returns : goal.returns
returns c =
    let rows = c.args.config.now.nodes * c.args.config.now.groups in
    let fit = writers_fit c.in_ok-board.board rows c.in_ok-board.writers.items c.in_ok-board.ensures.writers in
    (omega (arith, c.in_ok-board.writers.ok.0, fit.0), fit.1, ap (λ s. s.board) c.in_ok-board.ensures.seen)
