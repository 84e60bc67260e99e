-- An edge keeps the number of registers, eleven.
use Rattle.std.proofs.Common.{◌≡◌, ℕ, ◌+◌, List, Option, Some, None, true, false, refl, ◌∙◌, arith, length}
use Rattle.std.specs.Prelude.{◌==◌}
use Rattle.std.specs.Option.{option_map, option_and_then}
use Rattle.std.proofs.lemmas.Bool.{cond_both}
use Rattle.std.proofs.lemmas.List.{length-set, length-drop}
use Rattle.bpf_decode.specs.declared.insn.Operand.{Operand}
use Rattle.bpf_decode.specs.declared.insn.Operand.TheVariants.{Immediate, Register}
use Rattle.bpf_decode.specs.declared.insn.Insn.{Insn}
use Rattle.bpf_decode.specs.declared.insn.Insn.TheVariants.{Alu, Neg, Mov, MovSigned, End, LoadWide, Load, LoadSigned, Store, Jump, JumpLong, Branch, Call, CallLocal, Exit}
use Rattle.bpf_decode.specs.Instruction.{byte_count}
use Rattle.bpf_decode.specs.Values.{extended}
use Rattle.abstract_num.specs.declared.precision.Precision.{Precision}
use Rattle.abstract_num.specs.Plain.{Plain, constant}
use Rattle.abstract_regs.specs.Kind.{PlainKind, Unset, Num, Ptr}
use Rattle.abstract_regs.specs.Frame.{PlainFrame, kind_at, with_kind, after_store, after_call, operand_kind}
use Rattle.abstract_regs.specs.Link.{is_linked, link_in}
use Rattle.abstract_regs.specs.Links.{relinked, told_kinds, tell_all, tell_kind, tell, told}
use Rattle.abstract_regs.specs.Flow.{target, with_both, along_edge, edges_of, flow}
use Rattle.abstract_regs.specs.Moves.{Among}
use Rattle.abstract_regs.proofs.Heard.{told_long}
use Rattle.loop_tables.proofs.Pairs.{Each, one, two}

-- eleven registers
abbrev pub Eleven : PlainFrame → Type 0
Eleven f = length f.registers ≡ 11

each_computed : (f : PlainFrame) (d : ℕ) (o : Option PlainKind) → Eleven f → Each Eleven (option_map (with_kind f d) o)
each_computed f d None h = tt
each_computed f d (Some x) h = length-set f.registers d x ∙ h

each_both : (f : PlainFrame) (d : ℕ) (source : Operand) (o : Option (PlainKind × PlainKind)) → Eleven f → Each Eleven (option_map (with_both f d source) o)
each_both f d source None h = tt
each_both f d (Immediate imm) (Some s) h = length-set f.registers d _ ∙ h
each_both f d (Register r) (Some s) h = length-set _ r _ ∙ length-set f.registers d _ ∙ h

all_eleven : (g : PlainFrame) (o u : Option (List PlainKind)) → ((ys : List PlainKind) → o ≡ Some ys → length ys ≡ 11) → Each Eleven (option_and_then (λ xs. option_map (λ ys. record { registers = xs; slots = ys; links = g.links }) u) o)
all_eleven g None u h = tt
all_eleven g (Some xs) None h = tt
all_eleven g (Some xs) (Some ys) h = h xs refl

kind_eleven : (precision : Precision) (g : PlainFrame) (x : PlainKind) (r : ℕ) → Eleven g → Each Eleven (tell_kind precision x r g)
kind_eleven precision g Unset r h = h
kind_eleven precision g (Num z) r h =
    cond_both (is_linked (link_in g.links r).form) (tell_all precision z (link_in g.links r) r g) (Some g) (Each Eleven)
    (λ _. all_eleven g (told_kinds precision z (link_in g.links r) r g.links 0 g.registers) (told_kinds precision z (link_in g.links r) r g.links 11 g.slots)
    (λ ys e. told_long precision z (link_in g.links r) r g.links 0 g.registers ys e ∙ h)) (λ _. h)
kind_eleven precision g (Ptr q k) r h = h

tell_eleven : (precision : Precision) (g : PlainFrame) (r : ℕ) → Eleven g → Each Eleven (tell precision r g)
unfolding tell
tell_eleven precision g r h = kind_eleven precision g (kind_at g r) r h

then_eleven : (precision : Precision) (r : ℕ) (o : Option PlainFrame) → Each Eleven o → Each Eleven (option_and_then (tell precision r) o)
then_eleven precision r None h = tt
then_eleven precision r (Some g) h = tell_eleven precision g r h

told_eleven : (precision : Precision) (g : PlainFrame) (d : ℕ) (source : Operand) → Eleven g → Each Eleven (told precision d source g)
unfolding told
told_eleven precision g d (Immediate imm) h = tell_eleven precision g d h
told_eleven precision g d (Register r) h =
    cond_both (d == r) (tell precision d g) (option_and_then (tell precision r) (tell precision d g)) (Each Eleven) (λ _. tell_eleven precision g d h) (λ _. then_eleven precision r (tell precision d g) (tell_eleven precision g d h))

each_told : (precision : Precision) (d : ℕ) (source : Operand) (o : Option PlainFrame) → Each Eleven o → Each Eleven (option_and_then (told precision d source) o)
each_told precision d source None h = tt
each_told precision d source (Some g) h = told_eleven precision g d source h

edges_eleven : (precision : Precision) (room : Option ℕ) (answer : Plain) (i : Insn) (p q : ℕ) (f g : PlainFrame) → Eleven f → Among q g (edges_of precision room answer i p f) → Eleven g
edges_eleven precision room answer (Alu bits operation d x) p q f g h e = one Eleven q (p + 1) g _ (each_computed f d _ h) e
edges_eleven precision room answer (Neg bits d) p q f g h e = one Eleven q (p + 1) g _ (each_computed f d _ h) e
edges_eleven precision room answer (Mov bits d x) p q f g h e = one Eleven q (p + 1) g _ (each_computed f d _ h) e
edges_eleven precision room answer (MovSigned extension d src) p q f g h e = one Eleven q (p + 1) g _ (each_computed f d _ h) e
edges_eleven precision room answer (End order width d) p q f g h e = one Eleven q (p + 1) g _ (each_computed f d _ h) e
edges_eleven precision room answer (LoadWide d value) p q f g h e = one Eleven q (p + 2) g (option_map (with_kind f d) (Some (Num (constant value)))) (each_computed f d (Some (Num (constant value))) h) e
edges_eleven precision room answer (Load width d from offset) p q f g h e = one Eleven q (p + 1) g _ (each_computed f d _ h) e
edges_eleven precision room answer (LoadSigned width d from offset) p q f g h e = one Eleven q (p + 1) g _ (each_computed f d _ h) e
edges_eleven precision room answer (Store width to offset x) p q f g h e =
    one Eleven q (p + 1) g (Some (after_store precision f (kind_at f to) (extended offset) (byte_count width) (operand_kind f x))) h e
edges_eleven precision room answer (Jump offset) p q f g h e = one Eleven q (target p offset) g (Some f) h e
edges_eleven precision room answer (JumpLong distance) p q f g h e = one Eleven q (target p distance) g (Some f) h e
edges_eleven precision room answer (Branch bits comparison d x offset) p q f g h e =
    two Eleven q (target p offset) (p + 1) g (along_edge precision bits comparison true d x f) (along_edge precision bits comparison false d x f)
    (each_told precision d x _ (each_both f d x _ h)) (each_told precision d x _ (each_both f d x _ h)) e
edges_eleven precision room answer (Call helper) p q f g h e =
    let dropped = length-drop 6 f.registers in
    one Eleven q (p + 1) g (Some (after_call room answer f)) (omega (arith, dropped, h)) e
edges_eleven precision room answer (CallLocal distance) p q f g h e = absurd e
edges_eleven precision room answer Exit p q f g h e = absurd e

pub flow_eleven : (precision : Precision) (room : Option ℕ) (answer : Plain) (i : Insn) (p q : ℕ) (f g : PlainFrame) → Eleven f → Among q g (flow precision room answer i p f) → Eleven g
flow_eleven precision room answer i p q f g h e = edges_eleven precision room answer i p q (relinked precision room i p f) g h e
