use Rattle.std.proofs.Common.{◌≡◌, ℕ, ◌-◌, List, ◌++◌, length, ap, ◌∙◌}
use Rattle.std.specs.Prelude.{replicate}
use Rattle.bpf_machine.specs.State.{Memory}
use Rattle.flat_machine.proofs.entry.opening.Goals as goal

abbrev memory : List ℕ → List ℕ → List ℕ → Memory
memory input output stack = record { input = input; output = output; stack = stack }

same_memory : (i j o p s t : List ℕ) → i ≡ j → o ≡ p → s ≡ t → memory i o s ≡ memory j p t
same_memory i j o p s t e f g =
    ap (λ x. memory x o s) e ∙ (ap (λ y. memory j y s) f ∙ ap (λ z. memory j p z) g)

pub returns-clause-memory : goal.returns-clause-memory
returns-clause-memory c =
    let input = c.in_ok-input.ensures.items ∙ ap (λ n. c.args.input.now ++ replicate (n - length c.args.input.now) 0) c.from.ensures in
    let output = c.in_ok-output.ensures.items ∙ ap (λ n. replicate n 0) c.from-2.ensures in
    same_memory _ _ _ _ _ _ input output c.in_ok-stack.ensures.items
