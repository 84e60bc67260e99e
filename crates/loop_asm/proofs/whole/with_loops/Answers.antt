use Rattle.std.proofs.Common.{List, sym, subst}
use Rattle.bpf_decode.specs.Class.{ClassMethod, IsClass, AreWithinSet}
use Rattle.bpf_decode.specs.declared.rule_set.RuleSet.TheVariants.{Three}
use Rattle.loop_asm.proofs.Classes.{class_with}
use Rattle.loop_asm.proofs.whole.with_loops.Goals as goal

pub unreachable-requires : goal.unreachable-requires
unreachable-requires c =
    let both = class_with c.args.methods.now c.args.loops.now c.requires.class c.requires.within c.requires.stand c.all_hold.ensures.hold in
    let never = c.in-Err.ensures.accepts.1 (subst (λ (ms : List ClassMethod). IsClass ms × AreWithinSet Three ms) (sym c.in_ok-methods.ensures) both) in
    cc
