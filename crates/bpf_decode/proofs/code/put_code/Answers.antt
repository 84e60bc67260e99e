use Rattle.std.proofs.Common.{◌≡◌, ◌+◌, ◌++◌, ◌∷◌, [], take, sym, ap, ◌∙◌, append_assoc, arith}
use Rattle.std.proofs.lemmas.Grind.{common_steps}
use Rattle.std.proofs.lemmas.List.{take_more}
use Rattle.bpf_decode.specs.Instruction.{spelling, bytes_of}
use Rattle.bpf_decode.proofs.CodeLaws.{spelling-push, AllFit-push}
use Rattle.bpf_decode.proofs.code.put_code.Goals as goal

pub loop-insn-preserved : goal.loop-insn-preserved
loop-insn-preserved c =
    let i = c.insn-item.result in
    let n = c.loop-insn.insn-index in
    let more : take (n + 1) c.args.insns.now ≡ take n c.args.insns.now ++ i ∷ [] = take_more c.args.insns.now n i c.loop-insn-test.true ∙ ap (λ x. take n c.args.insns.now ++ x ∷ []) (sym c.insn-item.is) in
    record {
      spelled = c.in_ok-put_insn.ensures.spelled ∙ ap (λ x. x ++ bytes_of i) c.loop-insn.invariant.spelled ∙ append_assoc c.args.out.now.items (spelling (take n c.args.insns.now)) (bytes_of i) ∙ ap (λ x. c.args.out.now.items ++ x) (sym (spelling-push (take n c.args.insns.now) i) ∙ ap spelling (sym more));
      fit = rw more (AllFit-push (take n c.args.insns.now) i c.loop-insn.invariant.fit c.put_insn.ensures.fit);
    }

pub returns-clause-fit : goal.returns-clause-fit
returns-clause-fit c = grind (arith, common_steps)

pub returns-clause-spelled : goal.returns-clause-spelled
returns-clause-spelled c = grind (arith, common_steps)
