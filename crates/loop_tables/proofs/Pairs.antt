-- The instructions that have a pair of pointers: what their edges keep, and that the typed machine has no other step of them.
use Rattle.std.proofs.Common.{◌≡◌, ℕ, ℤ, ◌+◌, List, ◌++◌, ◌⊎◌, Option, Some, None, true, false, refl, inl, inr, ap, ◌∙◌, sym, subst, length, ⊎_elim}
use Rattle.std.specs.Prelude.{slice_set}
use Rattle.std.specs.Option.{option_map}
use Rattle.std.proofs.lemmas.Bool.{cases_eq}
use Rattle.std.proofs.lemmas.List.{length-set}
use Rattle.std.proofs.lemmas.Option.{none-some}
use Rattle.bpf_decode.specs.declared.insn.Operand.TheVariants.{Immediate, Register}
use Rattle.bpf_decode.specs.declared.insn.Insn.{Insn}
use Rattle.bpf_decode.specs.declared.insn.Insn.TheVariants.{Alu, Neg, Mov, MovSigned, End, LoadWide, Load, LoadSigned, Store, Jump, JumpLong, Branch, Call, CallLocal, Exit}
use Rattle.bpf_decode.specs.declared.operation.OpWidth.TheVariants.{Bits32, Bits64}
use Rattle.bpf_decode.specs.declared.operation.Arithmetic.TheVariants.{Add, Sub, Mul, Div, SignedDiv, Or, And, Lsh, Rsh, Mod, SignedMod, Xor, Arsh}
use Rattle.bpf_decode.specs.declared.operation.Comparison.{Comparison}
use Rattle.bpf_decode.specs.declared.value.Value.{Value}
use Rattle.bpf_decode.specs.declared.value.Value.TheVariants as values
use Rattle.bpf_decode.specs.declared.region.Region.{Region}
use Rattle.bpf_decode.specs.Arithmetic.{is_taken}
use Rattle.bpf_decode.specs.Jump.{branch_to}
use Rattle.bpf_machine.specs.declared.caps.Caps.{Caps}
use Rattle.bpf_machine.specs.State.{◌>>=◌, reg, set_reg, go}
use Rattle.bpf_machine.specs.Typed.{Typed, number, extended, alu_values, typed_after, typed_act}
use Rattle.abstract_num.specs.declared.precision.Precision.{Precision}
use Rattle.abstract_regs.specs.Kind.{PlainKind}
use Rattle.abstract_regs.specs.Link.{no_link, link_in, NameBelow}
use Rattle.abstract_regs.specs.Frame.{PlainFrame, with_kind, with_links}
use Rattle.abstract_regs.specs.Flow.{target, edge_to, with_both}
use Rattle.abstract_regs.specs.Moves.{Among, NamesBelow}
use Rattle.abstract_regs.proofs.LinkLists.{link_set_other, link_set_same}
use Rattle.verifier.specs.Rules.{begins_at}
use Rattle.verifier.proofs.Holding.{not_false}
use Rattle.loop_heads.specs.Loops.{PlainHead}
use Rattle.loop_machine.specs.Typed.{places, pair_act, or_else, loop_act}
use Rattle.loop_frames.specs.Pairs.{PointerPair, pair_of, pair_edge, pair_edges, as_pointers}
use Rattle.loop_tables.proofs.Shapes.{Shaped, only, either}

-- a difference of two registers, and a comparison of two, in 64 bits
pub record IsDifference (i : Insn) : Type 0 where
  pub dst : ℕ
  pub src : ℕ
  pub is : i ≡ Alu Bits64 Sub dst (Register src)

pub record IsComparison (i : Insn) : Type 0 where
  pub comparison : Comparison
  pub dst : ℕ
  pub src : ℕ
  pub offset : ℤ
  pub is : i ≡ Branch Bits64 comparison dst (Register src) offset

abbrev pub PairForm : Insn → Type 0
PairForm i = IsDifference i ⊎ IsComparison i

-- no other instruction has a pair
pub pair_form : (caps : Caps) (f : PlainFrame) (i : Insn) (pair : PointerPair) → pair_of caps f i ≡ Some pair → PairForm i
pair_form caps f (Alu Bits64 Sub d (Register src)) pair h = inl (record { dst = d; src = src; is = refl })
pair_form caps f (Alu Bits64 Sub d (Immediate imm)) pair h = absurd (none-some pair h)
pair_form caps f (Alu Bits64 Add d x) pair h = absurd (none-some pair h)
pair_form caps f (Alu Bits64 Mul d x) pair h = absurd (none-some pair h)
pair_form caps f (Alu Bits64 Div d x) pair h = absurd (none-some pair h)
pair_form caps f (Alu Bits64 SignedDiv d x) pair h = absurd (none-some pair h)
pair_form caps f (Alu Bits64 Or d x) pair h = absurd (none-some pair h)
pair_form caps f (Alu Bits64 And d x) pair h = absurd (none-some pair h)
pair_form caps f (Alu Bits64 Lsh d x) pair h = absurd (none-some pair h)
pair_form caps f (Alu Bits64 Rsh d x) pair h = absurd (none-some pair h)
pair_form caps f (Alu Bits64 Mod d x) pair h = absurd (none-some pair h)
pair_form caps f (Alu Bits64 SignedMod d x) pair h = absurd (none-some pair h)
pair_form caps f (Alu Bits64 Xor d x) pair h = absurd (none-some pair h)
pair_form caps f (Alu Bits64 Arsh d x) pair h = absurd (none-some pair h)
pair_form caps f (Alu Bits32 operation d x) pair h = absurd (none-some pair h)
pair_form caps f (Neg bits d) pair h = absurd (none-some pair h)
pair_form caps f (Mov bits d x) pair h = absurd (none-some pair h)
pair_form caps f (MovSigned extension d src) pair h = absurd (none-some pair h)
pair_form caps f (End order width d) pair h = absurd (none-some pair h)
pair_form caps f (LoadWide d value) pair h = absurd (none-some pair h)
pair_form caps f (Load width d from offset) pair h = absurd (none-some pair h)
pair_form caps f (LoadSigned width d from offset) pair h = absurd (none-some pair h)
pair_form caps f (Store width to offset x) pair h = absurd (none-some pair h)
pair_form caps f (Jump offset) pair h = absurd (none-some pair h)
pair_form caps f (JumpLong distance) pair h = absurd (none-some pair h)
pair_form caps f (Branch Bits64 c d (Register src) offset) pair h = inr (record { comparison = c; dst = d; src = src; offset = offset; is = refl })
pair_form caps f (Branch Bits64 c d (Immediate imm) offset) pair h = absurd (none-some pair h)
pair_form caps f (Branch Bits32 c d x offset) pair h = absurd (none-some pair h)
pair_form caps f (Call helper) pair h = absurd (none-some pair h)
pair_form caps f (CallLocal distance) pair h = absurd (none-some pair h)
pair_form caps f Exit pair h = absurd (none-some pair h)

-- ---- edges

-- a frame along an edge that may be dead
abbrev pub Each : (PlainFrame → Type 0) → Option PlainFrame → Type 0
Each P None = Unit {0}
Each P (Some h) = P h

pub one : (P : PlainFrame → Type 0) (q a : ℕ) (g : PlainFrame) (o : Option PlainFrame) → Each P o → Among q g (edge_to a o) → P g
one P q a g None h e = absurd e
one P q a g (Some f) h e = ⊎_elim (λ (here : (q ≡ a) × (g ≡ f)). subst P (sym here.1) h) (λ (x : ⊥). absurd x) e

pub two : (P : PlainFrame → Type 0) (q a b : ℕ) (g : PlainFrame) (o u : Option PlainFrame) → Each P o → Each P u → Among q g (edge_to a o ++ edge_to b u) → P g
two P q a b g None u h k e = one P q b g u k e
two P q a b g (Some f) u h k e =
    ⊎_elim (λ (here : (q ≡ a) × (g ≡ f)). subst P (sym here.1) h) (λ (later : Among q g (edge_to b u)). one P q b g u k later) e

-- the links without that of a register have no more names
freed : (n : ℕ) (f : PlainFrame) (d : ℕ) → NamesBelow n f → (place : ℕ) → NameBelow n (link_in (slice_set f.links d no_link) place)
freed n f d all place = ⊎_elim
    (λ (e : place ≡ d). ⊎_elim
    (λ (same : link_in (slice_set f.links d no_link) d ≡ no_link). subst (NameBelow n) (sym (ap (link_in (slice_set f.links d no_link)) e ∙ same)) (inl refl))
    (λ (none : link_in (slice_set f.links d no_link) d ≡ no_link). subst (NameBelow n) (sym (ap (link_in (slice_set f.links d no_link)) e ∙ none)) (inl refl)) (link_set_same f.links d no_link))
    (λ (ne : place ≡ d → ⊥). subst (NameBelow n) (sym (link_set_other f.links d place no_link ne)) (all place)) (cases_eq place d)

-- What the edges of such an instruction keep of a frame: how many places it has, and names.
pub record PairKept (f g : PlainFrame) : Type 0 where
  pub slots : length g.slots ≡ length f.slots
  pub registers : length g.registers ≡ length f.registers
  pub links : length g.links ≡ length f.links
  pub names : (n : ℕ) → NamesBelow n f → NamesBelow n g

module _ (precision : Precision) (p : ℕ) (f : PlainFrame) (pair : PointerPair) where
  difference_kept : (d : ℕ) (o : Option PlainKind) → Each (PairKept f) (option_map (with_kind (with_links f (slice_set f.links d no_link)) d) o)
  difference_kept d None = tt
  difference_kept d (Some x) = record { slots = refl; registers = length-set f.registers d x; links = length-set f.links d no_link; names = λ n all. freed n f d all }

  comparison_kept : (d src : ℕ) (o : Option (PlainKind × PlainKind)) → Each (PairKept f) (option_map (λ s. with_both f d (Register src) (as_pointers pair.region s)) o)
  comparison_kept d src None = tt
  comparison_kept d src (Some s) = record {
    slots = refl;
    registers = length-set (slice_set f.registers d _) src _ ∙ length-set f.registers d _;
    links = refl;
    names = λ n all. all;
  }

  kept_by : (i : Insn) → PairForm i → (q : ℕ) (g : PlainFrame) → Among q g (pair_edges precision i p f pair) → PairKept f g
  kept_by i (inl is) q g e =
      one (PairKept f) q (p + 1) g _ (difference_kept is.dst _) (subst (λ i. Among q g (pair_edges precision i p f pair)) is.is e)
  kept_by i (inr is) q g e =
      two (PairKept f) q (target p is.offset) (p + 1) g (pair_edge precision is.comparison true is.dst is.src f pair) (pair_edge precision is.comparison false is.dst is.src f pair)
      (comparison_kept is.dst is.src _) (comparison_kept is.dst is.src _) (subst (λ i. Among q g (pair_edges precision i p f pair)) is.is e)

  pub pair_kept : (caps : Caps) (i : Insn) → pair_of caps f i ≡ Some pair → (q : ℕ) (g : PlainFrame) → Among q g (pair_edges precision i p f pair) → PairKept f g
  pair_kept caps i h q g e = kept_by i (pair_form caps f i pair h) q g e

  begins_by : (heads : List PlainHead) (code : List (Option Insn)) (i : Insn) → PairForm i → Shaped heads code p i → (q : ℕ) (g : PlainFrame) → Among q g (pair_edges precision i p f pair) → begins_at code q ≡ true
  begins_by heads code i (inl is) ok q g e =
      let k = subst (Shaped heads code p) is.is ok in
      ap (begins_at code) (only_next is q g e) ∙ not_false _ k.falls
    where
      only_next : (is : IsDifference i) (q : ℕ) (g : PlainFrame) → Among q g (pair_edges precision i p f pair) → q ≡ p + 1
      only_next is q g e = only q (p + 1) g _ (subst (λ i. Among q g (pair_edges precision i p f pair)) is.is e)
  begins_by heads code i (inr is) ok q g e =
      let k = subst (Shaped heads code p) is.is ok in
      ⊎_elim (λ (at : q ≡ target p is.offset). ap (begins_at code) at ∙ not_false _ k.target) (λ (at : q ≡ p + 1). ap (begins_at code) at ∙ not_false _ k.falls)
      (either q (target p is.offset) (p + 1) g (pair_edge precision is.comparison true is.dst is.src f pair) (pair_edge precision is.comparison false is.dst is.src f pair) (subst (λ i. Among q g (pair_edges precision i p f pair)) is.is e))

  -- its edges go to where instructions begin
  pub pair_begins : (caps : Caps) (heads : List PlainHead) (code : List (Option Insn)) (i : Insn) → pair_of caps f i ≡ Some pair → Shaped heads code p i → (q : ℕ) (g : PlainFrame) → Among q g (pair_edges precision i p f pair) → begins_at code q ≡ true
  pair_begins caps heads code i h ok q g e = begins_by heads code i (pair_form caps f i pair h) ok q g e

-- ---- steps

-- if two values are places of one region, the typed machine doesn't compute with them
no_difference : (s t : Typed) (d : ℕ) (a b : Option Value) (then : Region × ℕ × ℕ → Option Typed) → ((a >>= λ x. b >>= λ y. places x y) >>= then) ≡ Some t → (b >>= λ y. a >>= λ x. typed_after s (alu_values Bits64 Sub x y >>= λ v. set_reg s d v)) ≡ None
no_difference s t d None b then h = absurd (none-some t h)
no_difference s t d (Some x) None then h = refl
no_difference s t d (Some (values.Num n)) (Some y) then h = absurd (none-some t h)
no_difference s t d (Some (values.Ptr r m)) (Some (values.Num n)) then h = absurd (none-some t h)
no_difference s t d (Some (values.Ptr r m)) (Some (values.Ptr q n)) then h = refl

no_comparison : (s t : Typed) (c : Comparison) (offset : ℤ) (a b : Option Value) (then : Region × ℕ × ℕ → Option Typed) → ((a >>= λ x. b >>= λ y. places x y) >>= then) ≡ Some t →
    (a >>= λ x. number x >>= λ m. b >>= λ y. number y >>= λ n. Some (go (branch_to (is_taken Bits64 c m n) s.slot (extended offset)) s)) ≡ None
no_comparison s t c offset None b then h = absurd (none-some t h)
no_comparison s t c offset (Some (values.Num n)) None then h = absurd (none-some t h)
no_comparison s t c offset (Some (values.Num n)) (Some y) then h = absurd (none-some t h)
no_comparison s t c offset (Some (values.Ptr r m)) b then h = refl

no_other : (caps : Caps) (i : Insn) (s t : Typed) → PairForm i → pair_act caps i s ≡ Some t → typed_act caps i s ≡ None
no_other caps i s t (inl is) h = ap (λ i. typed_act caps i s) is.is ∙ no_difference s t is.dst (reg s is.dst) (reg s is.src) _ (sym (ap (λ i. pair_act caps i s) is.is) ∙ h)
no_other caps i s t (inr is) h = ap (λ i. typed_act caps i s) is.is ∙ no_comparison s t is.comparison is.offset (reg s is.dst) (reg s is.src) _ (sym (ap (λ i. pair_act caps i s) is.is) ∙ h)

-- so its step is that of its places
pub pair_step : (caps : Caps) (f : PlainFrame) (i : Insn) (s t : Typed) (pair : PointerPair) → pair_of caps f i ≡ Some pair → pair_act caps i s ≡ Some t → loop_act caps i s ≡ Some t
pair_step caps f i s t pair h act = ap (λ o. or_else o (pair_act caps i s)) (no_other caps i s t (pair_form caps f i pair h) act) ∙ act

-- and that of another instruction is the typed machine's
pub plain_step : (caps : Caps) (i : Insn) (s t : Typed) → typed_act caps i s ≡ Some t → loop_act caps i s ≡ Some t
plain_step caps i s t act = ap (λ o. or_else o (pair_act caps i s)) act
