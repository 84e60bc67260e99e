-- Of a class without loops the verdict is the one that all have.
use Rattle.std.proofs.Common.{◌≡◌, ◌∙◌, ℕ, ◌+◌, List, [], ◌∷◌, Option, None, refl, ap}
use Rattle.std.specs.List.{AllByRecursion}
use Rattle.bpf_decode.specs.declared.rule_set.RuleSet.{RuleSet}
use Rattle.bpf_decode.specs.Class.{ClassMethod}
use Rattle.loop_heads.specs.Loops.{PlainLoops}
use Rattle.verifier.specs.Verdict.{method_verdict, or_later, verdict_from}
use Rattle.loop_classes.specs.Verdict.{by_loops, loops_verdict_from, WithoutLoopsIsOne}

same_from : (rules : RuleSet) (k : ℕ) (ms : List ClassMethod) → AllByRecursion (λ m. m.loops ≡ None) ms → loops_verdict_from rules k ms ≡ verdict_from rules k ms
same_from rules k [] h = refl
same_from rules k (m ∷ ms) h =
    ap (λ (l : Option PlainLoops). or_later k (by_loops rules m l) (loops_verdict_from rules (k + 1) ms)) h.0
    ∙ ap (or_later k (method_verdict rules m)) (same_from rules (k + 1) ms h.1)

pub without : WithoutLoopsIsOne
without c h = same_from c.rules 0 c.methods h
