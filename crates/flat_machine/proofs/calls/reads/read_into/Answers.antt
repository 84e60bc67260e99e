use Rattle.std.proofs.Common.{ℕ, List, ap, ◌∙◌, sym}
use Rattle.helpers.specs.Table.{read_answer}
use Rattle.bpf_machine.specs.State.{Memory, put}
use Rattle.flat_machine.specs.StateView.{memory_of}
use Rattle.flat_machine.proofs.calls.reads.read_into.Goals as goal

abbrev memory : List ℕ → List ℕ → List ℕ → Memory
memory input output stack = record { input = input; output = output; stack = stack }

pub returns-in-Input-clause-bytes : goal.returns-in-Input-clause-bytes
returns-in-Input-clause-bytes c =
    let m = c.args.memory.now in
    let found = (read_answer c.args.staged.now.after c.args.at c.args.room.len).bytes in
    ap (λ xs. memory xs m.output.items m.stack.items) c.read_over.ensures.bytes ∙ ap (λ r. put (memory_of m) r c.args.room.at found) (sym c.in-Input.is)

pub returns-in-Output-clause-bytes : goal.returns-in-Output-clause-bytes
returns-in-Output-clause-bytes c =
    let m = c.args.memory.now in
    let found = (read_answer c.args.staged.now.after c.args.at c.args.room.len).bytes in
    ap (λ xs. memory m.input.items xs m.stack.items) c.read_over-in-Output.ensures.bytes ∙ ap (λ r. put (memory_of m) r c.args.room.at found) (sym c.in-Output.is)

pub returns-in-Stack-clause-bytes : goal.returns-in-Stack-clause-bytes
returns-in-Stack-clause-bytes c =
    let m = c.args.memory.now in
    let found = (read_answer c.args.staged.now.after c.args.at c.args.room.len).bytes in
    ap (λ xs. memory m.input.items m.output.items xs) c.read_over-in-Stack.ensures.bytes ∙ ap (λ r. put (memory_of m) r c.args.room.at found) (sym c.in-Stack.is)
