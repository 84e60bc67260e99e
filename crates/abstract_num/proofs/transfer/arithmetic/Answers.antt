use Rattle.bpf_decode.specs.Arithmetic.{alu_value}
use Rattle.abstract_num.specs.Plain.{view}
use Rattle.abstract_num.specs.Transfer.{transferred}
use Rattle.abstract_num.proofs.Tight.{from_table}
use Rattle.abstract_num.proofs.Transfers.{view_fits, transferred_keeps}
use Rattle.abstract_num.proofs.transfer.arithmetic.Goals as goal

pub returns-clause-keeps : goal.returns-clause-keeps
returns-clause-keeps c = λ m n h k.
    let x = view c.args.x in
    let y = view c.args.y in
    from_table (transferred c.args.precision c.args.bits c.args.operation x y) c.transferred.result (alu_value c.args.bits c.args.operation m n) c.transferred.ensures
    (transferred_keeps c.args.precision c.args.bits c.args.operation x y (view_fits c.args.x) (view_fits c.args.y) m n h k)
