use Rattle.std.proofs.Common.{◌≡◌, ◌+◌, ◌++◌, ◌∷◌, [], take, sym, ap, ◌∙◌, arith}
use Rattle.std.proofs.lemmas.List.{take_more}
use Rattle.bpf_decode.specs.Instruction.{AllFit, slot_total}
use Rattle.bpf_decode.proofs.CodeLaws.{slot_total-push, few_slots, AllFit-push}
use Rattle.bpf_decode.proofs.code.slots.Goals as goal

pub loop-insn-preserved : goal.loop-insn-preserved
loop-insn-preserved c =
    let i = c.insn-item.result in
    let n = c.loop-insn.insn-index in
    let front = take n c.args.insns.now in
    let more : take (n + 1) c.args.insns.now ≡ front ++ i ∷ [] = take_more c.args.insns.now n i c.loop-insn-test.true ∙ ap (λ x. front ++ x ∷ []) (sym c.insn-item.is) in
    let fit : AllFit (take (n + 1) c.args.insns.now) = rw more (AllFit-push front i c.loop-insn.invariant.fit c.fits.ensures.fit) in
    record {
      total = omega (arith, c.loop-insn.invariant.total, c.width-total.ensures, slot_total-push front i, ap slot_total more);
      few = omega (arith, c.loop-insn.invariant.few, c.width-total.ensures, few_slots i);
      fit = fit;
    }
