-- Of a comparison with an immediate, what an edge leaves of the register alone is kept.
use Rattle.std.proofs.Common.{◌≡◌, ℕ, ℤ, Bool, false, Option, Some, None, refl, ap, ◌∙◌, sym}
use Rattle.std.specs.Option.{option_map, option_and_then}
use Rattle.bpf_decode.specs.declared.operation.OpWidth.{OpWidth}
use Rattle.bpf_decode.specs.declared.operation.Comparison.{Comparison}
use Rattle.bpf_decode.specs.declared.insn.Operand.TheVariants.{Immediate}
use Rattle.abstract_num.specs.declared.precision.Precision.{Precision}
use Rattle.abstract_num.specs.Plain.{Plain, Number, Gives, view}
use Rattle.abstract_num.specs.Edges.{Pair, along, first_of}
use Rattle.abstract_regs.specs.Kind.{Num, both_nums, along_kinds}
use Rattle.abstract_regs.specs.Frame.{PlainFrame, kind_at, with_kind, compared_kind}
use Rattle.abstract_regs.specs.Links.{told}
use Rattle.abstract_regs.specs.Flow.{with_both, along_edge}

given : (table : Option Plain) (r : Option Number) → Gives table r → option_map view r ≡ table
given table None g = sym g
given table (Some n) g = sym g

firsts : (f : PlainFrame) (d : ℕ) (imm : ℤ) (e : Option Pair) →
    option_map (with_kind f d) (option_map Num (option_map first_of e)) ≡ option_map (with_both f d (Immediate imm)) (option_map both_nums e)
firsts f d imm None = refl
firsts f d imm (Some s) = refl

-- the edge, by the number that is left of the register
pub first_edge : (precision : Precision) (bits : OpWidth) (comparison : Comparison) (taken : Bool) (d : ℕ) (imm : ℤ) (f : PlainFrame)
    (x y : Plain) (r : Option Number) → kind_at f d ≡ Num x → compared_kind bits f (Immediate imm) ≡ Num y →
    Gives (option_map first_of (along precision bits comparison taken x y)) r →
    along_edge precision bits comparison taken d (Immediate imm) f
    ≡ option_and_then (told precision d (Immediate imm)) (option_map (with_kind f d) (option_map Num (option_map view r)))
first_edge precision bits comparison taken d imm f x y r k l g =
    let tell = option_and_then (told precision d (Immediate imm)) in
    ap (λ z. tell (option_map (with_both f d (Immediate imm)) (along_kinds precision bits comparison taken false z (compared_kind bits f (Immediate imm))))) k
    ∙ ap (λ z. tell (option_map (with_both f d (Immediate imm)) (along_kinds precision bits comparison taken false (Num x) z))) l
    ∙ ap tell (sym (firsts f d imm (along precision bits comparison taken x y)))
    ∙ ap (λ o. tell (option_map (with_kind f d) (option_map Num o))) (sym (given (option_map first_of (along precision bits comparison taken x y)) r g))
