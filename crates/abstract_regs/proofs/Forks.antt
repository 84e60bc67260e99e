-- Comparisons whose registers aren't linked tell nothing.
use Rattle.std.proofs.Common.{◌≡◌, ℕ, Option, Some, false, refl, ap, ◌∙◌}
use Rattle.std.specs.Prelude.{◌==◌}
use Rattle.std.specs.Option.{option_and_then}
use Rattle.std.proofs.lemmas.Bool.{or_parts, cond_both, cond-false}
use Rattle.bpf_decode.specs.declared.insn.Operand.{Operand}
use Rattle.bpf_decode.specs.declared.insn.Operand.TheVariants.{Immediate, Register}
use Rattle.abstract_num.specs.declared.precision.Precision.{Precision}
use Rattle.abstract_regs.specs.Kind.{PlainKind, Unset, Num, Ptr}
use Rattle.abstract_regs.specs.Link.{is_linked, link_in}
use Rattle.abstract_regs.specs.Links.{tell_all, tell_kind, tell, told}
use Rattle.abstract_regs.specs.Frame.{PlainFrame, kind_at}
use Rattle.abstract_regs.specs.Flow.{with_both}
use Rattle.abstract_regs.specs.Edged.{is_told}

pub is_told_both : (f : PlainFrame) (dst : ℕ) (source : Operand) (s : PlainKind × PlainKind) → is_told (with_both f dst source s) dst source ≡ is_told f dst source
is_told_both f dst (Immediate imm) s = refl
is_told_both f dst (Register src) s = refl

untold_kind : (precision : Precision) (x : PlainKind) (r : ℕ) (f : PlainFrame) → is_linked (link_in f.links r).form ≡ false → tell_kind precision x r f ≡ Some f
untold_kind precision Unset r f e = refl
untold_kind precision (Num z) r f e = cond-false (is_linked (link_in f.links r).form) (tell_all precision z (link_in f.links r) r f) (Some f) e
untold_kind precision (Ptr q k) r f e = refl

pub untold : (precision : Precision) (f : PlainFrame) (dst : ℕ) (source : Operand) → is_told f dst source ≡ false → told precision dst source f ≡ Some f
unfolding told tell
untold precision f dst (Immediate imm) e = untold_kind precision (kind_at f dst) dst f e
untold precision f dst (Register src) e =
    let both = or_parts (is_linked (link_in f.links dst).form) (is_linked (link_in f.links src).form) e in
    let first : tell precision dst f ≡ Some f = untold_kind precision (kind_at f dst) dst f both.0 in
    let second : tell precision src f ≡ Some f = untold_kind precision (kind_at f src) src f both.1 in
    cond_both (dst == src) (tell precision dst f) (option_and_then (tell precision src) (tell precision dst f)) (λ (o : Option PlainFrame). o ≡ Some f) (λ _. first) (λ _. ap (option_and_then (tell precision src)) first ∙ second)
