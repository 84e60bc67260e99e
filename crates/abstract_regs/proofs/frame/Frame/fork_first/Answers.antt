use Rattle.std.proofs.Common.{◌≡◌, ℕ, [], ◌∷◌, ◌++◌, Option, false, ap, ◌∙◌, sym}
use Rattle.std.specs.Option.{option_map, option_and_then}
use Rattle.bpf_decode.specs.declared.insn.Operand.{Operand}
use Rattle.bpf_decode.specs.declared.insn.Operand.TheVariants.{Immediate}
use Rattle.abstract_num.specs.Plain.{Number, view}
use Rattle.abstract_regs.specs.Kind.{PlainKind, Num, Unset}
use Rattle.abstract_regs.specs.Frame.{PlainFrame, with_kind}
use Rattle.abstract_regs.specs.Links.{told}
use Rattle.abstract_regs.specs.Flow.{edge_to, with_both}
use Rattle.abstract_regs.specs.Edged.{is_told}
use Rattle.abstract_regs.proofs.SlotLists.{both_again}
use Rattle.abstract_regs.proofs.Forks.{is_told_both, untold}
use Rattle.abstract_regs.proofs.frame.Frame.fork_first.Goals as goal

pub returns-then-is_told : goal.returns-then-is_told
unfolding told
returns-then-is_told c = λ next.
    let f = c.args.self.now in
    let p = c.args.branch.precision in
    let d = c.args.dst in
    let x : Operand = Immediate c.args.imm in
    let t = c.args.branch.target in
    let a : PlainKind × PlainKind = (Num (view c.in-Some-Some.number), Unset) in
    let b : PlainKind × PlainKind = (Num (view c.in-Some-Some.other), Unset) in
    ap (λ (o : Option Number). edge_to t (option_and_then (told p d x) (option_map (with_kind f d) (option_map Num (option_map view o)))) ++ edge_to next (option_and_then (told p d x) (option_map (with_kind f d) (option_map Num (option_map view c.args.left.1))))) c.in-Some-Some.is-0
    ∙ ap (λ (o : Option Number). edge_to t (told p d x (with_both f d x a)) ++ edge_to next (option_and_then (told p d x) (option_map (with_kind f d) (option_map Num (option_map view o))))) c.in-Some-Some.is-1
    ∙ ap (λ (h : PlainFrame). edge_to t (told p d x (with_both f d x a)) ++ edge_to next (told p d x h)) (sym (both_again f d x a b))
    ∙ ap (λ (h : PlainFrame). edge_to t (told p d x h) ++ edge_to next (told p d x (with_both h d x b))) (sym c.set-in-Some-Some.ensures)

pub returns-else-is_told : goal.returns-else-is_told
returns-else-is_told c = λ next.
    let f = c.args.self.now in
    let p = c.args.branch.precision in
    let d = c.args.dst in
    let x : Operand = Immediate c.args.imm in
    let t = c.args.branch.target in
    let a : PlainKind × PlainKind = (Num (view c.in-Some-Some.number), Unset) in
    let b : PlainKind × PlainKind = (Num (view c.in-Some-Some.other), Unset) in
    let pair : ℕ → PlainFrame → ℕ × PlainFrame = λ q g. (q, g) in
    let free : is_told f d x ≡ false = sym (ap (λ g. is_told g d x) c.set-in-Some-Some.ensures ∙ is_told_both f d x a) ∙ sym c.is_told.ensures ∙ c.if-is_told.false in
    ap (λ (o : Option Number). edge_to t (option_and_then (told p d x) (option_map (with_kind f d) (option_map Num (option_map view o)))) ++ edge_to next (option_and_then (told p d x) (option_map (with_kind f d) (option_map Num (option_map view c.args.left.1))))) c.in-Some-Some.is-0
    ∙ ap (λ (o : Option Number). edge_to t (told p d x (with_both f d x a)) ++ edge_to next (option_and_then (told p d x) (option_map (with_kind f d) (option_map Num (option_map view o))))) c.in-Some-Some.is-1
    ∙ ap (λ (o : Option PlainFrame). edge_to t o ++ edge_to next (told p d x (with_both f d x b))) (untold p (with_both f d x a) d x (is_told_both f d x a ∙ free))
    ∙ ap (λ (o : Option PlainFrame). pair t (with_both f d x a) ∷ edge_to next o) (untold p (with_both f d x b) d x (is_told_both f d x b ∙ free))
    ∙ ap (λ (h : PlainFrame). pair t (with_both f d x a) ∷ pair next h ∷ []) (sym (both_again f d x a b))
    ∙ ap (λ (h : PlainFrame). pair t h ∷ pair next (with_both h d x b) ∷ []) (sym c.set-in-Some-Some.ensures)
