use Rattle.bpf_decode.specs.Arithmetic.{signed_move_value}
use Rattle.abstract_num.specs.Plain.{view}
use Rattle.abstract_num.specs.Transfer.{sign_extended}
use Rattle.abstract_num.proofs.Tight.{from_table}
use Rattle.abstract_num.proofs.Transfers.{sign_extended_keeps}
use Rattle.abstract_num.proofs.transfer.sign_extended.Goals as goal

pub returns-clause-keeps : goal.returns-clause-keeps
returns-clause-keeps c = λ n h.
    from_table (sign_extended c.args.precision c.args.extension (view c.args.x)) c.extended.result (signed_move_value c.args.extension n) c.extended.ensures
    (sign_extended_keeps c.args.precision c.args.extension (view c.args.x) n h)
