use Rattle.std.proofs.Common.{◌≡◌, ◌+◌, ap, ◌∙◌, sym, rules}
use Rattle.std.specs.Prelude.{true, slice_index}
use Rattle.bpf_decode.specs.Arithmetic.{is_taken}
use Rattle.bpf_machine.specs.Jump.{branch_to}
use Rattle.bpf_machine.specs.Typed.{extended}
use Rattle.interp.specs.inner.Run.{with_registers}
use Rattle.interp.proofs.Steps.{branches}
use Rattle.interp.proofs.registers.Registers.branch.Goals as goal

pub returns-then-taken : goal.returns-then-taken
returns-then-taken c = λ bytes run given.
    let registers = c.args.self.now in
    let fork = c.args.fork.now in
    let test = is_taken c.args.bits c.args.comparison in
    let jumped : c.jump.result ≡ branch_to true c.args.slot (extended fork.slots) = search rules in
    let taken =
    c.taken.ensures ∙ ap (λ x. test x c.operand-number.result) c.get.ensures ∙ ap (test (slice_index registers fork.dst)) c.operand-number.ensures in
    branches run.caps given (with_registers run registers) bytes c.args.slot fork.dst fork.source test (extended fork.slots) c.jump.result
    (jumped ∙ ap (λ t. branch_to t c.args.slot (extended fork.slots)) (sym c.if-taken.true ∙ taken))

pub returns-else-taken : goal.returns-else-taken
returns-else-taken c = λ bytes run given.
    let registers = c.args.self.now in
    let fork = c.args.fork.now in
    let test = is_taken c.args.bits c.args.comparison in
    let taken =
    c.taken.ensures ∙ ap (λ x. test x c.operand-number.result) c.get.ensures ∙ ap (test (slice_index registers fork.dst)) c.operand-number.ensures in
    branches run.caps given (with_registers run registers) bytes c.args.slot fork.dst fork.source test (extended fork.slots) (c.args.slot + 1)
    (ap (λ t. branch_to t c.args.slot (extended fork.slots)) (sym c.if-taken.false ∙ taken))
