use Rattle.std.proofs.Common.{◌^◌, ◌<◌, Some, ap, sym, ◌∙◌, rules}
use Rattle.bpf_decode.specs.Arithmetic.{alu_value}
use Rattle.bpf_decode.specs.declared.operation.OpWidth.TheVariants.{Bits64}
use Rattle.bpf_decode.specs.declared.operation.Arithmetic.TheVariants.{Add}
use Rattle.abstract_num.specs.Plain.{view}
use Rattle.abstract_num.specs.declared.urange.URange.{URange}
use Rattle.abstract_num.proofs.Settled.{offset-constant}
use Rattle.abstract_num.proofs.transfer.offset_by.Goals as goal

pub returns-then-is_constant : goal.returns-then-is_constant
returns-then-is_constant c =
    let small : c.alu-moved.result < 2 ^ 64 = search rules in
    offset-constant c.args.precision (view c.args.x.now) c.args.distance c.alu-moved.result (sym c.is_constant.ensures ∙ c.if-is_constant.true)
    (c.alu-moved.ensures ∙ ap (λ (u : URange). alu_value Bits64 Add u.low c.args.distance) c.unsigned.ensures) small
    ∙ ap Some (sym c.known.ensures)
