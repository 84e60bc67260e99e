use Rattle.std.proofs.Common.{◌≡◌, ℕ, ◌+◌, ◌<◌, ◌≤◌, List, ◌∷◌, ◌++◌, length, get_or, drop, sym, ap, ◌∙◌, arith, codes}
use Rattle.std.proofs.lemmas.Grind.{common_steps}
use Rattle.std.proofs.lemmas.List.{at_drop_more}
use Rattle.bpf_decode.specs.declared.insn.Insn.{Insn}
use Rattle.bpf_decode.specs.declared.insn.Insn.TheVariants.{Alu, Neg, Mov, MovSigned, End, LoadWide, Load, LoadSigned, Store, Jump, JumpLong, Branch, Call, CallLocal, Exit}
use Rattle.bpf_decode.specs.Instruction.{slot_count}
use Rattle.asm_lines.specs.Canonical.{slot_line, code_with_slots}
use Rattle.asm_lines.proofs.print.push_code_with_slots.Goals as goal

few_slots : (i : Insn) → slot_count i ≤ 2
few_slots (Alu bits operation dst source) = omega arith
few_slots (Neg bits dst) = omega arith
few_slots (Mov bits dst source) = omega arith
few_slots (MovSigned extension dst src) = omega arith
few_slots (End order width dst) = omega arith
few_slots (LoadWide dst value) = omega arith
few_slots (Load width dst base offset) = omega arith
few_slots (LoadSigned width dst base offset) = omega arith
few_slots (Store width base offset source) = omega arith
few_slots (Jump offset) = omega arith
few_slots (JumpLong distance) = omega arith
few_slots (Branch bits comparison dst source offset) = omega arith
few_slots (Call helper) = omega arith
few_slots (CallLocal distance) = omega arith
few_slots Exit = omega arith

-- the text from an instruction on begins with its line
code_at : (is : List Insn) (n slot : ℕ) (i : Insn) → n < length is → i ≡ get_or is n i → code_with_slots slot (drop n is) ≡ slot_line slot i ++ codes "\n" ++ code_with_slots (slot + slot_count i) (drop (n + 1) is)
code_at is n slot i lt same = at_drop_more (code_with_slots slot) is n i lt ∙ ap (λ x. code_with_slots slot (x ∷ drop (n + 1) is)) (sym same)

pub loop-insn-preserved : goal.loop-insn-preserved
loop-insn-preserved c =
    let i = c.insn-item.result in
    let here = code_at c.args.insns.now c.loop-insn.insn-index c.loop-insn.slot i c.loop-insn-test.true c.insn-item.is in
    record {
      text = grind (arith, common_steps, here, c.loop-insn.invariant.text);
      few = omega (arith, c.loop-insn.invariant.few, c.width-slot.ensures, few_slots i);
    }
