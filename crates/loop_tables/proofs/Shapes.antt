-- What is known of an instruction that no rule of a method with heads refuses: each edge goes to where one begins.
use Rattle.std.proofs.Common.{◌≡◌, ℕ, ◌+◌, List, ◌++◌, ◌⊎◌, Option, Some, None, Bool, true, false, refl, inl, inr, ap, ◌∙◌, sym, ⊎_elim}
use Rattle.std.specs.Prelude.{if◌then◌else◌}
use Rattle.std.specs.Option.{option_map}
use Rattle.std.proofs.lemmas.Option.{none-some}
use Rattle.bpf_decode.specs.declared.insn.Insn.{Insn}
use Rattle.bpf_decode.specs.declared.insn.Insn.TheVariants.{Alu, Neg, Mov, MovSigned, End, LoadWide, Load, LoadSigned, Store, Jump, JumpLong, Branch, Call, CallLocal, Exit}
use Rattle.bpf_decode.specs.Instruction.{byte_count}
use Rattle.bpf_decode.specs.Values.{extended}
use Rattle.bpf_decode.specs.declared.rule_set.RuleSet.TheVariants.{Three}
use Rattle.bpf_machine.specs.declared.caps.Caps.{Caps}
use Rattle.abstract_num.specs.declared.precision.Precision.{Precision}
use Rattle.abstract_num.specs.Plain.{Plain, constant}
use Rattle.abstract_regs.specs.Kind.{Num}
use Rattle.abstract_regs.specs.Frame.{PlainFrame, kind_at, with_kind, operand_kind, after_call, after_store}
use Rattle.abstract_regs.specs.Flow.{target, edge_to, along_edge, edges_of, flow}
use Rattle.abstract_regs.specs.Links.{relinked}
use Rattle.abstract_regs.specs.Moves.{Among}
use Rattle.verifier.specs.declared.rule.Rule.{Rule}
use Rattle.verifier.specs.declared.rule.Rule.TheVariants.{Backward, Target, FallsOff, LocalCall}
use Rattle.verifier.specs.Rules.{begins_at, misses, falls_off, is_local_call, shape_rule, frame_rule, else_under, rule_at}
use Rattle.verifier.proofs.Holding.{not_false}
use Rattle.loop_heads.specs.Loops.{PlainHead}
use Rattle.loop_frames.specs.Pairs.{pair_of}
use Rattle.loop_tables.specs.Rules.{misses_head, shape_below, frame_below, or_frame, rule_below}

pub tested : (t : Bool) (rule : Rule) (rest : Option Rule) → (if t then Some rule else rest) ≡ None → (t ≡ false) × (rest ≡ None)
tested true rule rest h = absurd (none-some rule (sym h))
tested false rule rest h = (refl, h)

-- no rule of the shape refuses it
pub record Shaped (heads : List PlainHead) (code : List (Option Insn)) (p : ℕ) (i : Insn) : Type 0 where
  pub head : misses_head heads p i ≡ false
  pub target : misses code p i ≡ false
  pub falls : falls_off code p i ≡ false
  pub local : is_local_call i ≡ false

pub shaped : (heads : List PlainHead) (code : List (Option Insn)) (p : ℕ) (i : Insn) → shape_below heads code p i ≡ None → Shaped heads code p i
shaped heads code p i h =
    let a = tested (misses_head heads p i) Backward _ h in
    let b = tested (misses code p i) Target _ a.1 in
    let c = tested (falls_off code p i) FallsOff _ b.1 in
    let d = tested (is_local_call i) LocalCall None c.1 in
    record { head = a.0; target = b.0; falls = c.0; local = d.0 }

-- neither the shape nor the frame
pub neither : (o : Option Rule) (f : PlainFrame) (rule_of : PlainFrame → Option Rule) → or_frame o (Some f) rule_of ≡ None → (o ≡ None) × (rule_of f ≡ None)
neither None f rule_of h = (refl, h)
neither (Some rule) f rule_of h = absurd (none-some rule (sym h))

pub shape_and_frame : (caps : Caps) (heads : List PlainHead) (code : List (Option Insn)) (p : ℕ) (i : Insn) (f : PlainFrame) → rule_below caps heads code p i (Some f) ≡ None → (shape_below heads code p i ≡ None) × (frame_below caps f i (pair_of caps f i) ≡ None)
shape_and_frame caps heads code p i f h = neither (shape_below heads code p i) f (λ f. frame_below caps f i (pair_of caps f i)) h

both_under : (o : Option Rule) (f : PlainFrame) (rule_of : PlainFrame → Option Rule) → o ≡ None → rule_of f ≡ None → else_under o (Some f) rule_of ≡ None
both_under None f rule_of e h = h
both_under (Some rule) f rule_of e h = absurd (none-some rule (sym e))

-- so it is by the rules of a method without heads, if it doesn't go back
pub plain_rule : (caps : Caps) (code : List (Option Insn)) (p : ℕ) (i : Insn) (f : PlainFrame) → shape_rule code p i ≡ None → frame_rule Three caps f i ≡ None → rule_at Three caps code p i (Some f) ≡ None
plain_rule caps code p i f shape frame = both_under (shape_rule code p i) f (λ f. frame_rule Three caps f i) shape frame

-- ---- edges

-- an edge that may be dead goes to its slot
pub only : (q a : ℕ) (g : PlainFrame) (o : Option PlainFrame) → Among q g (edge_to a o) → q ≡ a
only q a g None e = absurd e
only q a g (Some h) e = ⊎_elim (λ (here : (q ≡ a) × (g ≡ h)). here.0) (λ (x : ⊥). absurd x) e

pub either : (q a b : ℕ) (g : PlainFrame) (x y : Option PlainFrame) → Among q g (edge_to a x ++ edge_to b y) → (q ≡ a) ⊎ (q ≡ b)
either q a b g None y e = inr (only q b g y e)
either q a b g (Some h) y e = ⊎_elim (λ (here : (q ≡ a) × (g ≡ h)). inl here.0) (λ (later : Among q g (edge_to b y)). inr (only q b g y later)) e

module _ (heads : List PlainHead) (code : List (Option Insn)) (p : ℕ) (precision : Precision) (room : Option ℕ) (answer : Plain) where
  -- one edge to where an instruction begins
  pub goes_to : (q a : ℕ) (g : PlainFrame) (o : Option PlainFrame) → begins_at code a ≡ true → Among q g (edge_to a o) → begins_at code q ≡ true
  goes_to q a g o begins e = ap (begins_at code) (only q a g o e) ∙ begins

  pub goes_either : (q a b : ℕ) (g : PlainFrame) (x y : Option PlainFrame) → begins_at code a ≡ true → begins_at code b ≡ true → Among q g (edge_to a x ++ edge_to b y) → begins_at code q ≡ true
  goes_either q a b g x y first second e = ⊎_elim (λ (is : q ≡ a). ap (begins_at code) is ∙ first) (λ (is : q ≡ b). ap (begins_at code) is ∙ second) (either q a b g x y e)

  begins_of : (i : Insn) (q : ℕ) (h g : PlainFrame) → Shaped heads code p i → Among q g (edges_of precision room answer i p h) → begins_at code q ≡ true
  begins_of (Alu bits operation d x) q h g ok e = goes_to q (p + 1) g (option_map (with_kind h d) _) (not_false _ ok.falls) e
  begins_of (Neg bits d) q h g ok e = goes_to q (p + 1) g (option_map (with_kind h d) _) (not_false _ ok.falls) e
  begins_of (Mov bits d x) q h g ok e = goes_to q (p + 1) g (option_map (with_kind h d) _) (not_false _ ok.falls) e
  begins_of (MovSigned extension d src) q h g ok e = goes_to q (p + 1) g (option_map (with_kind h d) _) (not_false _ ok.falls) e
  begins_of (End order width d) q h g ok e = goes_to q (p + 1) g (option_map (with_kind h d) _) (not_false _ ok.falls) e
  begins_of (LoadWide d value) q h g ok e = goes_to q (p + 2) g (option_map (with_kind h d) (Some (Num (constant value)))) (not_false _ ok.falls) e
  begins_of (Load width d from offset) q h g ok e = goes_to q (p + 1) g (option_map (with_kind h d) _) (not_false _ ok.falls) e
  begins_of (LoadSigned width d from offset) q h g ok e = goes_to q (p + 1) g (option_map (with_kind h d) _) (not_false _ ok.falls) e
  begins_of (Store width to offset x) q h g ok e = goes_to q (p + 1) g (Some (after_store precision h (kind_at h to) (extended offset) (byte_count width) (operand_kind h x))) (not_false _ ok.falls) e
  begins_of (Call helper) q h g ok e = goes_to q (p + 1) g (Some (after_call room answer h)) (not_false _ ok.falls) e
  begins_of (Jump offset) q h g ok e = goes_to q (target p offset) g (Some h) (not_false _ ok.target) e
  begins_of (JumpLong distance) q h g ok e = goes_to q (target p distance) g (Some h) (not_false _ ok.target) e
  begins_of (Branch bits comparison d x offset) q h g ok e =
      goes_either q (target p offset) (p + 1) g (along_edge precision bits comparison true d x h) (along_edge precision bits comparison false d x h) (not_false _ ok.target) (not_false _ ok.falls) e
  begins_of (CallLocal distance) q h g ok e = absurd e
  begins_of Exit q h g ok e = absurd e

  -- an edge of an instruction without a pair of pointers goes to where one begins
  pub flow_begins : (i : Insn) (q : ℕ) (f g : PlainFrame) → Shaped heads code p i → Among q g (flow precision room answer i p f) → begins_at code q ≡ true
  flow_begins i q f g ok e = begins_of i q (relinked precision room i p f) g ok e
