use Rattle.std.proofs.Common.{ap, ◌∙◌, sym, subst}
use Rattle.std.specs.Prelude.{All, Contains, ℕ}
use Rattle.bpf_decode.specs.Instruction.{slots}
use Rattle.loop_finder.specs.Found.{IsBackTarget, head_slots}
use Rattle.loop_finder.proofs.finder.find_heads.Goals as goal

pub returns-in-Ok-clause-found : goal.returns-in-Ok-clause-found
returns-in-Ok-clause-found c =
    let l = c.in-Ok.loops in
    let code = c.deref.ensures.value ∙ c.in_ok-code.ensures ∙ ap slots c.instructions.ensures in
    let heads = ap (λ l. head_slots l.heads) c.in-Ok.ensures.value ∙ c.in_ok-heads-in-Three.ensures ∙ c.deref-in-Three-2.ensures.value in
    record {
      budget = ap (λ l. l.budget) c.in-Ok.ensures.value;
      heads = subst (λ code. All (IsBackTarget code) (head_slots l.heads)) code (subst (All (IsBackTarget c.deref.result.now)) (sym heads) c.in_ok-targets.ensures.targets);
      each = subst (λ code. (q : ℕ) → IsBackTarget code q → Contains (head_slots l.heads) q) code (subst (λ slots. (q : ℕ) → IsBackTarget c.deref.result.now q → Contains slots q) (sym heads) c.in_ok-targets.ensures.each);
    }
