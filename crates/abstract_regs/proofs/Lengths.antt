-- Instructions and joins keep the number of slots, and edges the links.
use Rattle.std.proofs.Common.{◌≡◌, ℕ, suc, ◌+◌, List, [], ◌∷◌, ◌++◌, Option, Some, None, true, false, refl, ap, ◌∙◌, sym, subst, arith, length, ⊎_elim}
use Rattle.std.specs.Prelude.{◌==◌}
use Rattle.std.specs.Option.{option_map, option_and_then}
use Rattle.std.proofs.lemmas.Bool.{cond_both}
use Rattle.std.proofs.lemmas.List.{length-set}
use Rattle.bpf_decode.specs.declared.insn.Operand.{Operand}
use Rattle.bpf_decode.specs.declared.insn.Operand.TheVariants.{Immediate, Register}
use Rattle.bpf_decode.specs.declared.insn.Insn.{Insn}
use Rattle.bpf_decode.specs.declared.insn.Insn.TheVariants.{Alu, Neg, Mov, MovSigned, End, LoadWide, Load, LoadSigned, Store, Jump, JumpLong, Branch, Call, CallLocal, Exit}
use Rattle.bpf_decode.specs.Instruction.{byte_count}
use Rattle.bpf_decode.specs.Values.{extended}
use Rattle.abstract_num.specs.declared.precision.Precision.{Precision}
use Rattle.abstract_num.specs.Plain.{Plain, constant}
use Rattle.abstract_regs.specs.Kind.{PlainKind, Unset, Num, Ptr}
use Rattle.abstract_regs.specs.Slots.{Span, stack_place, access_span, whole_slot, spoiled, stored}
use Rattle.abstract_regs.specs.Frame.{PlainFrame, kind_at, with_kind, room_span, after_store, after_call, operand_kind, join_each}
use Rattle.abstract_regs.specs.Link.{is_linked, link_in}
use Rattle.abstract_regs.specs.Links.{links_after, relinked, told_kinds, tell_all, tell_kind, tell, told}
use Rattle.abstract_regs.specs.Flow.{target, edge_to, with_both, along_edge, edges_of, flow}
use Rattle.abstract_regs.specs.Moves.{Among}
use Rattle.abstract_regs.specs.Laws.{FlowsKeepSlots, JoinsKeepSlots}
use Rattle.abstract_regs.proofs.Heard.{told_long}

length_spoiled : (span : Option Span) (j : ℕ) (xs : List PlainKind) → length (spoiled span j xs) ≡ length xs
length_spoiled span j [] = refl
length_spoiled span j (x ∷ xs) = ap suc (length_spoiled span (j + 1) xs)

length_stored : (xs : List PlainKind) (o : Option ℕ) (span : Option Span) (x : PlainKind) → length (stored xs o span x) ≡ length xs
length_stored xs None span x = length_spoiled span 0 xs
length_stored xs (Some j) span x = length-set xs j x

-- ---- what edges leave as it is

-- the number of slots, and the links
pub record Same (f g : PlainFrame) : Type 0 where
  pub slots : length g.slots ≡ length f.slots
  pub links : g.links ≡ f.links

-- of a frame that goes along an edge, which may be dead
abbrev Each : (PlainFrame → Type 0) → Option PlainFrame → Type 0
Each P None = Unit {0}
Each P (Some h) = P h

one : (P : PlainFrame → Type 0) (q a : ℕ) (g : PlainFrame) (o : Option PlainFrame) → Each P o → Among q g (edge_to a o) → P g
one P q a g None h e = absurd e
one P q a g (Some f) h e = ⊎_elim (λ (here : (q ≡ a) × (g ≡ f)). subst P (sym here.1) h) (λ (x : ⊥). absurd x) e

two : (P : PlainFrame → Type 0) (q a b : ℕ) (g : PlainFrame) (o u : Option PlainFrame) → Each P o → Each P u → Among q g (edge_to a o ++ edge_to b u) → P g
two P q a b g None u h k e = one P q b g u k e
two P q a b g (Some f) u h k e =
    ⊎_elim (λ (here : (q ≡ a) × (g ≡ f)). subst P (sym here.1) h) (λ (later : Among q g (edge_to b u)). one P q b g u k later) e

each_computed : (f : PlainFrame) (d : ℕ) (o : Option PlainKind) → Each (Same f) (option_map (with_kind f d) o)
each_computed f d None = tt
each_computed f d (Some x) = record { slots = refl; links = refl }

each_both : (f : PlainFrame) (d : ℕ) (source : Operand) (o : Option (PlainKind × PlainKind)) → Each (Same f) (option_map (with_both f d source) o)
each_both f d source None = tt
each_both f d (Immediate imm) (Some s) = record { slots = refl; links = refl }
each_both f d (Register r) (Some s) = record { slots = refl; links = refl }

all_same : (f g : PlainFrame) (o u : Option (List PlainKind)) → Same f g → ((ys : List PlainKind) → u ≡ Some ys → length ys ≡ length g.slots) → Each (Same f) (option_and_then (λ xs. option_map (λ ys. record { registers = xs; slots = ys; links = g.links }) u) o)
all_same f g None u h e = tt
all_same f g (Some xs) None h e = tt
all_same f g (Some xs) (Some ys) h e = record { slots = e ys refl ∙ h.slots; links = h.links }

kind_same : (precision : Precision) (f g : PlainFrame) (x : PlainKind) (r : ℕ) → Same f g → Each (Same f) (tell_kind precision x r g)
kind_same precision f g Unset r h = h
kind_same precision f g (Num z) r h =
    cond_both (is_linked (link_in g.links r).form) (tell_all precision z (link_in g.links r) r g) (Some g) (Each (Same f))
    (λ _. all_same f g (told_kinds precision z (link_in g.links r) r g.links 0 g.registers) (told_kinds precision z (link_in g.links r) r g.links 11 g.slots) h
    (λ ys e. told_long precision z (link_in g.links r) r g.links 11 g.slots ys e)) (λ _. h)
kind_same precision f g (Ptr q k) r h = h

tell_same : (precision : Precision) (f g : PlainFrame) (r : ℕ) → Same f g → Each (Same f) (tell precision r g)
unfolding tell
tell_same precision f g r h = kind_same precision f g (kind_at g r) r h

then_same : (precision : Precision) (f : PlainFrame) (r : ℕ) (o : Option PlainFrame) → Each (Same f) o → Each (Same f) (option_and_then (tell precision r) o)
then_same precision f r None h = tt
then_same precision f r (Some g) h = tell_same precision f g r h

told_same : (precision : Precision) (f g : PlainFrame) (d : ℕ) (source : Operand) → Same f g → Each (Same f) (told precision d source g)
unfolding told
told_same precision f g d (Immediate imm) h = tell_same precision f g d h
told_same precision f g d (Register r) h =
    cond_both (d == r) (tell precision d g) (option_and_then (tell precision r) (tell precision d g)) (Each (Same f)) (λ _. tell_same precision f g d h) (λ _. then_same precision f r (tell precision d g) (tell_same precision f g d h))

each_told : (precision : Precision) (f : PlainFrame) (d : ℕ) (source : Operand) (o : Option PlainFrame) → Each (Same f) o → Each (Same f) (option_and_then (told precision d source) o)
each_told precision f d source None h = tt
each_told precision f d source (Some g) h = told_same precision f g d source h

edges_same : (precision : Precision) (room : Option ℕ) (answer : Plain) (i : Insn) (p q : ℕ) (f g : PlainFrame) → Among q g (edges_of precision room answer i p f) → Same f g
edges_same precision room answer (Alu bits operation d x) p q f g e = one (Same f) q (p + 1) g _ (each_computed f d _) e
edges_same precision room answer (Neg bits d) p q f g e = one (Same f) q (p + 1) g _ (each_computed f d _) e
edges_same precision room answer (Mov bits d x) p q f g e = one (Same f) q (p + 1) g _ (each_computed f d _) e
edges_same precision room answer (MovSigned extension d src) p q f g e = one (Same f) q (p + 1) g _ (each_computed f d _) e
edges_same precision room answer (End order width d) p q f g e = one (Same f) q (p + 1) g _ (each_computed f d _) e
edges_same precision room answer (LoadWide d value) p q f g e = one (Same f) q (p + 2) g (option_map (with_kind f d) (Some (Num (constant value)))) (each_computed f d (Some (Num (constant value)))) e
edges_same precision room answer (Load width d from offset) p q f g e = one (Same f) q (p + 1) g _ (each_computed f d _) e
edges_same precision room answer (LoadSigned width d from offset) p q f g e = one (Same f) q (p + 1) g _ (each_computed f d _) e
edges_same precision room answer (Store width to offset x) p q f g e =
    let place = stack_place precision (kind_at f to) (extended offset) in
    one (Same f) q (p + 1) g (Some (after_store precision f (kind_at f to) (extended offset) (byte_count width) (operand_kind f x)))
    (record { slots = length_stored f.slots (whole_slot place (byte_count width)) (access_span place (byte_count width)) (operand_kind f x); links = refl }) e
edges_same precision room answer (Jump offset) p q f g e = one (Same f) q (target p offset) g (Some f) (record { slots = refl; links = refl }) e
edges_same precision room answer (JumpLong distance) p q f g e = one (Same f) q (target p distance) g (Some f) (record { slots = refl; links = refl }) e
edges_same precision room answer (Branch bits comparison d x offset) p q f g e =
    two (Same f) q (target p offset) (p + 1) g (along_edge precision bits comparison true d x f) (along_edge precision bits comparison false d x f)
    (each_told precision f d x _ (each_both f d x _)) (each_told precision f d x _ (each_both f d x _)) e
edges_same precision room answer (Call helper) p q f g e =
    one (Same f) q (p + 1) g (Some (after_call room answer f)) (record { slots = length_spoiled (room_span f room) 0 f.slots; links = refl }) e
edges_same precision room answer (CallLocal distance) p q f g e = absurd e
edges_same precision room answer Exit p q f g e = absurd e

pub flows_keep : FlowsKeepSlots
flows_keep precision room answer i p q f g e = let same = edges_same precision room answer i p q (relinked precision room i p f) g e in same.slots

pub flow_links : (precision : Precision) (room : Option ℕ) (answer : Plain) (i : Insn) (p q : ℕ) (f g : PlainFrame) → Among q g (flow precision room answer i p f) → g.links ≡ links_after precision room i p f
flow_links precision room answer i p q f g e = let same = edges_same precision room answer i p q (relinked precision room i p f) g e in same.links

length_join : (xs ys : List PlainKind) → length ys ≡ length xs → length (join_each xs ys) ≡ length xs
length_join [] ys e = refl
length_join (x ∷ xs) [] e = absurd (omega (arith, e))
length_join (x ∷ xs) (y ∷ ys) e = ap suc (length_join xs ys (omega (arith, e)))

pub joins_keep : JoinsKeepSlots
joins_keep f g e = length_join f.slots g.slots e
