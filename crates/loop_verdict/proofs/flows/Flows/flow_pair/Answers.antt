use Rattle.std.proofs.Common.{◌≡◌, ℕ, ◌+◌, ◌++◌, true, false, refl, ap, ◌∙◌, sym, subst, rules}
use Rattle.std.specs.Prelude.{ℤ}
use Rattle.std.proofs.lemmas.Option.{none-some}
use Rattle.bpf_decode.specs.declared.insn.Insn.{Insn}
use Rattle.bpf_decode.specs.declared.insn.Insn.TheVariants.{Branch}
use Rattle.bpf_decode.specs.declared.insn.Operand.TheVariants.{Register}
use Rattle.bpf_decode.specs.declared.operation.Comparison.{Comparison}
use Rattle.bpf_decode.specs.declared.operation.OpWidth.{OpWidth}
use Rattle.bpf_decode.specs.declared.operation.OpWidth.TheVariants.{Bits32, Bits64}
use Rattle.bpf_decode.specs.Instruction.{slot_count}
use Rattle.abstract_num.specs.declared.precision.Precision.TheVariants.{Halves}
use Rattle.abstract_regs.specs.Flow.{edge_to, target}
use Rattle.abstract_regs.specs.Frame.{PlainFrame}
use Rattle.verifier.specs.inner.Kept.{unbox}
use Rattle.loop_frames.specs.Pairs.{PointerPair, pair_edge, pair_edges, pair_of}
use Rattle.loop_frames.specs.Seen.{seen_pair}
use Rattle.loop_verdict.specs.inner.Pass.{HasGone, HasPair, HasSent}
use Rattle.loop_verdict.proofs.Sends.{gone, goes_past}
use Rattle.loop_verdict.proofs.flows.Flows.flow_pair.Goals as goal

-- both edges of a comparison of two pointers, which is one of 64 bits
both : (i : Insn) (p : ℕ) (f : PlainFrame) (pair : PointerPair) (bits : OpWidth) (c : Comparison) (dst src : ℕ) (offset : ℤ) → HasPair i f pair → i ≡ Branch bits c dst (Register src) offset → pair_edges Halves i p f pair ≡ edge_to (target p offset) (pair_edge Halves c true dst src f pair) ++ edge_to (p + slot_count i) (pair_edge Halves c false dst src f pair)
both i p f pair Bits64 c dst src offset has is = subst (λ i. pair_edges Halves i p f pair ≡ edge_to (target p offset) (pair_edge Halves c true dst src f pair) ++ edge_to (p + slot_count i) (pair_edge Halves c false dst src f pair)) (sym is) refl
both i p f pair Bits32 c dst src offset has is = absurd (none-some pair (sym (ap (pair_of has.0 f) is) ∙ has.1))

pub returns-in_ok-taken-in-Branch-default-default-default-Register-default-clause-gone : goal.returns-in_ok-taken-in-Branch-default-default-default-Register-default-clause-gone
returns-in_ok-taken-in-Branch-default-default-default-Register-default-clause-gone c =
    let i = c.args.insn.now in
    let p = c.args.slot in
    let f = c.args.frame.value in
    let pair = seen_pair c.args.pair.now in
    let old = c.args.self.now.pending in
    let arm = c.in-Branch-default-default-default-Register-default in
    let taken = c.in_ok-taken-in-Branch-default-default-default-Register-default.ensures in
    let new = c.send-back.new.pending in
    let back = c.send-back.result in
    let at = target p arm.offset in
    let x = pair_edge Halves arm.comparison true arm.dst arm.src f pair in
    let y = pair_edge Halves arm.comparison false arm.dst arm.src f pair in
    let next = p + slot_count i in
    let edges = pair_edges Halves i p f pair in
    let to : c.jump_target-target.result ≡ at = search rules in
    let is : i ≡ Branch arm.bits arm.comparison arm.dst (Register arm.src) arm.offset = search rules in
    let first : unbox c.refined.result ≡ x = c.refined.ensures ∙ ap (λ g. pair_edge Halves arm.comparison true arm.dst arm.src g pair) (taken.copied ∙ c.deref.ensures) in
    let second : unbox c.refined-in-Branch-default-default-default-Register-default.result ≡ y = c.refined-in-Branch-default-default-default-Register-default.ensures in
    let sent : HasSent old p at x new back =
    subst (λ t. HasSent t p at x new back) taken.left
    (subst (λ q. HasSent c.copy.new.self p q x new back) to
    (subst (λ o. HasSent c.copy.new.self p c.jump_target-target.result o new back) first c.send-back.ensures)) in
    subst (λ o. HasGone old p next edges o new back) (sym second)
    (gone old new p at next x y edges back (goes_past p i) (both i p f pair arm.bits arm.comparison arm.dst arm.src arm.offset c.requires.pair is) sent)
