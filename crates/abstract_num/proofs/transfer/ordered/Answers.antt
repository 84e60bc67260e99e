use Rattle.bpf_decode.specs.Arithmetic.{end_value}
use Rattle.abstract_num.specs.Plain.{view}
use Rattle.abstract_num.specs.Transfer.{ordered}
use Rattle.abstract_num.proofs.Tight.{from_table}
use Rattle.abstract_num.proofs.Transfers.{ordered_keeps}
use Rattle.abstract_num.proofs.transfer.ordered.Goals as goal

pub returns-clause-keeps : goal.returns-clause-keeps
returns-clause-keeps c = λ n h.
    from_table (ordered c.args.precision c.args.order c.args.width (view c.args.x)) c.reordered.result (end_value c.args.order c.args.width n) c.reordered.ensures
    (ordered_keeps c.args.precision c.args.order c.args.width (view c.args.x) n h)
