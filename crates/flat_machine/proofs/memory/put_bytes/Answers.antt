use Rattle.std.proofs.Common.{ℕ, List, ap, ◌∙◌, sym}
use Rattle.bpf_machine.specs.State.{Memory, put}
use Rattle.flat_machine.specs.StateView.{memory_of}
use Rattle.flat_machine.proofs.memory.put_bytes.Goals as goal

abbrev memory : List ℕ → List ℕ → List ℕ → Memory
memory input output stack = record { input = input; output = output; stack = stack }

pub returns-in-Input-clause-put : goal.returns-in-Input-clause-put
returns-in-Input-clause-put c =
    let m = c.args.memory.now in
    let e = c.overwrite.ensures.bytes in
    ap (λ xs. memory xs m.output.items m.stack.items) e ∙ ap (λ r. put (memory_of m) r c.args.at c.args.bytes.now) (sym c.in-Input.is)

pub returns-in-Output-clause-put : goal.returns-in-Output-clause-put
returns-in-Output-clause-put c =
    let m = c.args.memory.now in
    let e = c.overwrite-in-Output.ensures.bytes in
    ap (λ xs. memory m.input.items xs m.stack.items) e ∙ ap (λ r. put (memory_of m) r c.args.at c.args.bytes.now) (sym c.in-Output.is)

pub returns-in-Stack-clause-put : goal.returns-in-Stack-clause-put
returns-in-Stack-clause-put c =
    let m = c.args.memory.now in
    let e = c.overwrite-in-Stack.ensures.bytes in
    ap (λ xs. memory m.input.items m.output.items xs) e ∙ ap (λ r. put (memory_of m) r c.args.at c.args.bytes.now) (sym c.in-Stack.is)
