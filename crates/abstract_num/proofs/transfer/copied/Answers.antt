use Rattle.bpf_decode.specs.Arithmetic.{mov_value}
use Rattle.abstract_num.specs.Plain.{view}
use Rattle.abstract_num.specs.Transfer.{copied}
use Rattle.abstract_num.proofs.Tight.{from_table}
use Rattle.abstract_num.proofs.Transfers.{copied_keeps}
use Rattle.abstract_num.proofs.transfer.copied.Goals as goal

pub returns-clause-keeps : goal.returns-clause-keeps
returns-clause-keeps c = λ n h.
    from_table (copied c.args.precision c.args.bits (view c.args.x)) c.copy.result (mov_value c.args.bits n) c.copy.ensures (copied_keeps c.args.precision c.args.bits (view c.args.x) n h)
