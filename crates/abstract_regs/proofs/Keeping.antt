-- What a frame holds before an instruction, a frame along an edge holds after it, where its links
-- are those after it already.
use Rattle.std.proofs.Common.{◌≡◌, ℕ, ℤ, pos, negsuc, zero, suc, ◌+◌, ◌*◌, ◌%◌, ◌^◌, ◌<◌, ◌≤◌, List, [], ◌∷◌, ◌++◌, length, Option, Some, None, Bool, true, false, refl, inl, inr, ap, ◌∙◌, sym, subst, arith, drop, IsSomeAnd}
use Rattle.std.specs.Prelude.{slice_get, slice_set, ◌==◌, FitsSigned, if◌then◌else◌}
use Rattle.std.specs.Int.{w16, w32}
use Rattle.std.specs.Option.{option_map}
use Rattle.std.proofs.lemmas.Bool.{false≢true, eqb-true}
use Rattle.std.proofs.lemmas.Option.{none-some, same_Some}
use Rattle.std.proofs.lemmas.List.{length-set}
use Rattle.bpf_decode.specs.declared.insn.Operand.{Operand}
use Rattle.bpf_decode.specs.declared.insn.Operand.TheVariants.{Immediate, Register}
use Rattle.bpf_decode.specs.declared.insn.Insn.{Insn}
use Rattle.bpf_decode.specs.declared.insn.Insn.TheVariants.{Alu, Neg, Mov, MovSigned, End, LoadWide, Load, LoadSigned, Store, Jump, JumpLong, Branch, Call, CallLocal, Exit}
use Rattle.bpf_decode.specs.declared.access.Width.{Width}
use Rattle.bpf_decode.specs.declared.region.Region.{Region}
use Rattle.bpf_decode.specs.declared.region.Region.TheVariants.{Input, Output, Stack}
use Rattle.bpf_decode.specs.declared.value.Value.{Value}
use Rattle.bpf_decode.specs.declared.value.Value.TheVariants as values
use Rattle.bpf_decode.specs.declared.operation.OpWidth.{OpWidth}
use Rattle.bpf_decode.specs.declared.operation.OpWidth.TheVariants.{Bits32, Bits64}
use Rattle.bpf_decode.specs.declared.operation.Arithmetic.{Arithmetic}
use Rattle.bpf_decode.specs.declared.operation.SignedMove.{SignedMove}
use Rattle.bpf_decode.specs.declared.operation.ByteOrder.{ByteOrder}
use Rattle.bpf_decode.specs.declared.operation.EndWidth.{EndWidth}
use Rattle.bpf_decode.specs.declared.operation.Comparison.{Comparison}
use Rattle.bpf_decode.specs.Arithmetic.{alu_value, neg_value, mov_value, signed_move_value, end_value, is_taken, compared}
use Rattle.bpf_decode.specs.declared.operation.OpWidth.TheVariants.{Bits64}
use Rattle.bpf_decode.specs.declared.operation.Arithmetic.TheVariants.{Add}
use Rattle.bpf_decode.specs.Instruction.{byte_count, signed_byte_count, Fits, OperandFits}
use Rattle.bpf_decode.specs.Jump.{branch_to}
use Rattle.bpf_decode.specs.Values.{extended, moves_pointer, is_addition, alu_values, mov_values}
use Rattle.abstract_num.specs.declared.precision.Precision.{Precision}
use Rattle.abstract_num.specs.Plain.{Plain, Holds, constant}
use Rattle.abstract_num.specs.Tighten.{tighten}
use Rattle.abstract_num.specs.Transfer.{transferred, ranged, load_high}
use Rattle.abstract_num.specs.Edges.{along}
use Rattle.abstract_num.specs.Keeping.{HeldIn, HeldInBoth, NumbersFit, ConstantsFit, AnyHolds, ConstantHolds, ArithmeticKeeps, NegativeKeeps, CopyKeeps, ExtensionKeeps, OrderKeeps, LoadKeeps, SignedLoadKeeps, TightenKeeps, EdgeKeeps}
use Rattle.abstract_regs.specs.declared.kind.Kind.{Kind}
use Rattle.abstract_regs.specs.declared.kind.Kind.TheVariants as code
use Rattle.abstract_regs.specs.Kind.{PlainKind, Unset, Num, Ptr, HoldsKind, alu_kind, neg_kind, mov_kind, signed_move_kind, end_kind, both_nums, same_num, along_kinds, last_place, is_unset, is_num, is_ptr}
use Rattle.abstract_regs.specs.declared.content.Content.TheVariants.{Nothing, Pointer}
use Rattle.abstract_regs.specs.Slots.{stack_place, stack_range, touches, access_span, range_span, whole_slot, slot_kind, spoiled, stored, meets}
use Rattle.abstract_regs.specs.Frame.{PlainFrame, or_unset, kind_at, with_kind, room_span, after_store, after_call, operand_kind, HoldsEach}
use Rattle.abstract_regs.specs.Flow.{target, edge_to, computed, with_both, along_edge, loaded_kind, edges_of}
use Rattle.abstract_regs.specs.Moves.{value_at, operand_in, with_value, Touched, Reached, IsNumber, HoldsLinks, Loads, Stores, Overwrites, Overwritten, Reaches, KindFits, EachFits, AllowsRoom, Allows, Moves}
use Rattle.abstract_regs.proofs.SlotLemmas.{at_start, spoiled_holds, set_holds, inside_of, held_slot, all_numbers, access_touches, range_touches, whole_is, one_place}
use Rattle.abstract_regs.specs.Seen.{seen, seen_each}
use Rattle.abstract_regs.proofs.Heard.{Stands, IsLeft, NumberLaws, both_told}

-- the laws of numbers
pub record Laws : Type 0 where
  pub constants_fit : ConstantsFit
  pub any : AnyHolds
  pub constant : ConstantHolds
  pub arithmetic : ArithmeticKeeps
  pub negative : NegativeKeeps
  pub copies : CopyKeeps
  pub extensions : ExtensionKeeps
  pub orders : OrderKeeps
  pub loads : LoadKeeps
  pub signed_loads : SignedLoadKeeps
  pub tighten : TightenKeeps
  pub edges : EdgeKeeps

kind_fits : NumbersFit → (k : Kind) → KindFits (seen k)
kind_fits fit code.Unset = tt
kind_fits fit (code.Num n) = fit n
kind_fits fit (code.Ptr r n) = fit n

pub each_fits : NumbersFit → (ks : List Kind) → EachFits (seen_each ks)
each_fits fit [] = tt
each_fits fit (k ∷ ks) = (kind_fits fit k, each_fits fit ks)

pub fits_at : (xs : List PlainKind) (r : ℕ) → EachFits xs → KindFits (or_unset (slice_get xs r))
fits_at [] r h = tt
fits_at (x ∷ xs) zero h = h.0
fits_at (x ∷ xs) (suc r) h = fits_at xs r h.1

-- a register that is set has a value of its kind
pub held_at : (xs : List PlainKind) (cs : List (Option Value)) (r : ℕ) (v : Value) → HoldsEach xs cs → value_at cs r ≡ Some v → HoldsKind (or_unset (slice_get xs r)) (Some v)
held_at [] cs r v h e = tt
held_at (x ∷ xs) [] r v h e = absurd h
held_at (x ∷ xs) (c ∷ cs) zero v h e = subst (HoldsKind x) e h.0
held_at (x ∷ xs) (c ∷ cs) (suc r) v h e = held_at xs cs r v h.1 e

set_each : (xs : List PlainKind) (cs : List (Option Value)) (d : ℕ) (x : PlainKind) (v : Value) → HoldsEach xs cs → HoldsKind x (Some v) → HoldsEach (slice_set xs d x) (slice_set cs d (Some v))
set_each [] cs d x v h i = tt
set_each (y ∷ xs) [] d x v h i = absurd h
set_each (y ∷ xs) (c ∷ cs) zero x v h i = (i, h.1)
set_each (y ∷ xs) (c ∷ cs) (suc d) x v h i = (h.0, set_each xs cs d x v h.1 i)

-- another kind of what a register has
keep_each : (xs : List PlainKind) (cs : List (Option Value)) (d : ℕ) (x : PlainKind) (v : Value) → HoldsEach xs cs → value_at cs d ≡ Some v → HoldsKind x (Some v) → HoldsEach (slice_set xs d x) cs
keep_each [] cs d x v h e i = tt
keep_each (y ∷ xs) [] d x v h e i = absurd h
keep_each (y ∷ xs) (c ∷ cs) zero x v h e i = (subst (HoldsKind x) (sym e) i, h.1)
keep_each (y ∷ xs) (c ∷ cs) (suc d) x v h e i = (h.0, keep_each xs cs d x v h.1 e i)

drop_each : (n : ℕ) (xs : List PlainKind) (cs : List (Option Value)) → HoldsEach xs cs → HoldsEach (drop n xs) (drop n cs)
drop_each zero xs cs h = h
drop_each (suc n) [] cs h = tt
drop_each (suc n) (x ∷ xs) [] h = absurd h
drop_each (suc n) (x ∷ xs) (c ∷ cs) h = drop_each n xs cs h.1

extended_small : (z : ℤ) → FitsSigned w32 z → extended z < 2 ^ 64
extended_small (pos n) h = let s = h.sfits in omega arith
extended_small (negsuc n) h = omega arith

mov_small : (bits : OpWidth) (n : ℕ) → n < 2 ^ 64 → mov_value bits n < 2 ^ 64
mov_small Bits64 n h = h
mov_small Bits32 n h = omega arith

-- the kind that is left is true of the value
abbrev Left : Option PlainKind → Value → Type 0
Left o v = IsSomeAnd o (λ x. HoldsKind x (Some v))

left_num : (o : Option Plain) (n : ℕ) → HeldIn o n → Left (option_map Num o) (values.Num n)
left_num None n h = h
left_num (Some k) n h = h

left_ptr : (o : Option Plain) (r q : Region) (at : ℕ) → r ≡ q → HeldIn o at → Left (option_map (Ptr r) o) (values.Ptr q at)
left_ptr None r q at e h = absurd h
left_ptr (Some k) r q at e h = (e, h)

chosen : {A : Type 0} (b : Bool) (x y : A) → (if b then Some x else None) ≡ Some y → x ≡ y
chosen true x y e = same_Some x y e
chosen false x y e = absurd (none-some y e)

module _ (law : Laws) (precision : Precision) where
  pub operand_fits : (f : PlainFrame) (source : Operand) → OperandFits source → EachFits f.registers → KindFits (operand_kind f source)
  operand_fits f (Immediate imm) fit h = law.constants_fit (extended imm) (extended_small imm fit)
  operand_fits f (Register r) fit h = fits_at f.registers r h

  pub operand_held : (f : PlainFrame) (cs : List (Option Value)) (source : Operand) (v : Value) → OperandFits source → HoldsEach f.registers cs → operand_in cs source ≡ Some v → HoldsKind (operand_kind f source) (Some v)
  operand_held f cs (Immediate imm) v fit h e =
      subst (λ (u : Value). HoldsKind (Num (constant (extended imm))) (Some u)) (same_Some _ v e) (law.constant (extended imm) (extended_small imm fit))
  operand_held f cs (Register r) v fit h e = held_at f.registers cs r v h e

  alu_left : (bits : OpWidth) (operation : Arithmetic) (x y : PlainKind) (u v w : Value) → KindFits x → KindFits y → HoldsKind x (Some u) → HoldsKind y (Some v) → alu_values bits operation u v ≡ Some w → Left (alu_kind precision bits operation x y) w
  alu_left bits operation Unset y u v w f g h i e = tt
  alu_left bits operation (Num k) Unset u v w f g h i e = tt
  alu_left bits operation (Ptr r k) Unset u v w f g h i e = tt
  alu_left bits operation (Ptr r k) (Ptr q l) u v w f g h i e = tt
  alu_left bits operation (Num k) (Num l) (values.Ptr p m) v w f g h i e = absurd h
  alu_left bits operation (Num k) (Num l) (values.Num m) (values.Ptr p n) w f g h i e = absurd i
  alu_left bits operation (Num k) (Num l) (values.Num m) (values.Num n) w f g h i e =
      subst (Left (option_map Num (transferred precision bits operation k l))) (same_Some _ w e)
      (left_num (transferred precision bits operation k l) (alu_value bits operation m n) (law.arithmetic precision bits operation k l f g m n h i))
  alu_left bits operation (Ptr r k) (Num l) (values.Num m) v w f g h i e = absurd h
  alu_left bits operation (Ptr r k) (Num l) (values.Ptr p m) (values.Ptr o n) w f g h i e = absurd i
  alu_left bits operation (Ptr r k) (Num l) (values.Ptr p m) (values.Num n) w f g h i e =
      subst (Left (option_map (Ptr r) (transferred precision bits operation k l))) (chosen (moves_pointer bits operation) _ w e)
      (left_ptr (transferred precision bits operation k l) r p (alu_value bits operation m n) h.0 (law.arithmetic precision bits operation k l f g m n h.1 i))
  alu_left bits operation (Num k) (Ptr r l) (values.Ptr p m) v w f g h i e = absurd h
  alu_left bits operation (Num k) (Ptr r l) (values.Num m) (values.Num n) w f g h i e = absurd i
  alu_left bits operation (Num k) (Ptr r l) (values.Num m) (values.Ptr p n) w f g h i e =
      subst (Left (option_map (Ptr r) (transferred precision bits operation k l))) (chosen (is_addition bits operation) _ w e)
      (left_ptr (transferred precision bits operation k l) r p (alu_value bits operation m n) i.0 (law.arithmetic precision bits operation k l f g m n h i.1))

  neg_left : (bits : OpWidth) (x : PlainKind) (n : ℕ) → KindFits x → HoldsKind x (Some (values.Num n)) → Left (neg_kind precision bits x) (values.Num (neg_value bits n))
  neg_left bits Unset n f h = tt
  neg_left bits (Num k) n f h = left_num _ (neg_value bits n) (law.negative precision bits k f n h)
  neg_left bits (Ptr r k) n f h = tt

  mov_left : (bits : OpWidth) (x : PlainKind) (v w : Value) → HoldsKind x (Some v) → mov_values bits v ≡ Some w → Left (mov_kind precision bits x) w
  mov_left bits Unset v w h e = tt
  mov_left bits (Num k) (values.Ptr q n) w h e = absurd h
  mov_left bits (Num k) (values.Num n) w h e = subst (Left (mov_kind precision bits (Num k))) (same_Some _ w e) (left_num _ (mov_value bits n) (law.copies precision bits k n h))
  mov_left Bits64 (Ptr r k) (values.Num n) w h e = absurd h
  mov_left Bits64 (Ptr r k) (values.Ptr q n) w h e = subst (λ (u : Value). HoldsKind (Ptr r k) (Some u)) (same_Some _ w e) h
  mov_left Bits32 (Ptr r k) v w h e = tt

  signed_move_left : (extension : SignedMove) (x : PlainKind) (n : ℕ) → HoldsKind x (Some (values.Num n)) → Left (signed_move_kind precision extension x) (values.Num (signed_move_value extension n))
  signed_move_left extension Unset n h = tt
  signed_move_left extension (Num k) n h = left_num _ (signed_move_value extension n) (law.extensions precision extension k n h)
  signed_move_left extension (Ptr r k) n h = tt

  end_left : (order : ByteOrder) (width : EndWidth) (x : PlainKind) (n : ℕ) → HoldsKind x (Some (values.Num n)) → Left (end_kind precision order width x) (values.Num (end_value order width n))
  end_left order width Unset n h = tt
  end_left order width (Num k) n h = left_num _ (end_value order width n) (law.orders precision order width k n h)
  end_left order width (Ptr r k) n h = tt

  -- both kinds that an edge leaves are true of both numbers
  abbrev LeftBoth : Option (PlainKind × PlainKind) → ℕ → ℕ → Type 0
  LeftBoth o m n = IsSomeAnd o (λ s. HoldsKind s.0 (Some (values.Num m)) × HoldsKind s.1 (Some (values.Num n)))

  left_twice : (o : Option Plain) (m n : ℕ) → m ≡ n → HeldIn o m → LeftBoth (option_map same_num o) m n
  left_twice None m n e h = h
  left_twice (Some k) m n e h = (h, subst (Holds k) e h)

  left_both : (o : Option (Plain × Plain)) (m n : ℕ) → HeldInBoth o m n → LeftBoth (option_map both_nums o) m n
  left_both None m n h = h
  left_both (Some s) m n h = h

  along_left : (bits : OpWidth) (comparison : Comparison) (taken same : Bool) (x y : PlainKind) (m n : ℕ) → (same ≡ true → m ≡ n) → HoldsKind x (Some (values.Num m)) → HoldsKind y (Some (values.Num n)) → is_taken bits comparison m n ≡ taken → LeftBoth (along_kinds precision bits comparison taken same x y) m n
  along_left bits comparison taken true (Num k) (Num l) m n s h i e = left_twice (tighten precision k) m n (s refl) (law.tighten precision k m h)
  along_left bits comparison taken false (Num k) (Num l) m n s h i e = left_both (along precision bits comparison taken k l) m n (law.edges precision bits comparison taken k l m n h i e)
  along_left bits comparison taken true Unset y m n s h i e = (h, i)
  along_left bits comparison taken false Unset y m n s h i e = (h, i)
  along_left bits comparison taken true (Num k) Unset m n s h i e = (h, i)
  along_left bits comparison taken false (Num k) Unset m n s h i e = (h, i)
  along_left bits comparison taken true (Num k) (Ptr q l) m n s h i e = absurd i
  along_left bits comparison taken false (Num k) (Ptr q l) m n s h i e = absurd i
  along_left bits comparison taken true (Ptr r k) y m n s h i e = absurd h
  along_left bits comparison taken false (Ptr r k) y m n s h i e = absurd h

  -- a frame along the edge is true of the registers and the slots
  abbrev LeftFrame : Option PlainFrame → List (Option Value) → List (Option Value) → Type 0
  LeftFrame o cs vs = IsLeft o cs vs

  number_laws : NumberLaws
  number_laws = record { constants_fit = law.constants_fit; constant = law.constant; arithmetic = law.arithmetic; tighten = law.tighten; edges = law.edges }

  with_immediate : (f : PlainFrame) (dst : ℕ) (imm : ℤ) (o : Option (PlainKind × PlainKind)) (cs vs : List (Option Value)) (m n : ℕ) → Stands cs vs f → value_at cs dst ≡ Some (values.Num m) → LeftBoth o m n → LeftFrame (option_map (with_both f dst (Immediate imm)) o) cs vs
  with_immediate f dst imm None cs vs m n h e l = absurd l
  with_immediate f dst imm (Some s) cs vs m n h e l =
      record { holds = keep_each f.registers cs dst s.0 (values.Num m) h.holds e l.0; slots = h.slots; links = h.links; eleven = length-set f.registers dst s.0 ∙ h.eleven }

  with_register : (f : PlainFrame) (dst r : ℕ) (o : Option (PlainKind × PlainKind)) (cs vs : List (Option Value)) (m n : ℕ) → Stands cs vs f → value_at cs dst ≡ Some (values.Num m) → value_at cs r ≡ Some (values.Num n) → LeftBoth o m n → LeftFrame (option_map (with_both f dst (Register r)) o) cs vs
  with_register f dst r None cs vs m n h e g l = absurd l
  with_register f dst r (Some s) cs vs m n h e g l =
      record {
        holds = keep_each (slice_set f.registers dst s.0) cs r s.1 (values.Num n) (keep_each f.registers cs dst s.0 (values.Num m) h.holds e l.0) g l.1;
        slots = h.slots;
        links = h.links;
        eleven = length-set (slice_set f.registers dst s.0) r s.1 ∙ length-set f.registers dst s.0 ∙ h.eleven;
      }

  low_same : (n : ℕ) → n % 2 ^ 32 % 2 ^ 32 ≡ n % 2 ^ 32
  low_same n = omega arith

  -- a comparison of 32 bits takes the immediate modulo 2 ^ 32
  low_taken : (bits : OpWidth) (comparison : Comparison) (m n : ℕ) → is_taken bits comparison m (mov_value bits n) ≡ is_taken bits comparison m n
  low_taken Bits64 comparison m n = refl
  low_taken Bits32 comparison m n = ap (compared comparison w32 (m % 2 ^ 32)) (low_same n)

  num_same : (m n : ℕ) → values.Num m ≡ values.Num n → m ≡ n
  num_same m n e = cc

  edge_left : (bits : OpWidth) (comparison : Comparison) (taken : Bool) (dst : ℕ) (source : Operand) (f : PlainFrame) (cs vs : List (Option Value)) (m n : ℕ) → dst ≤ 10 → OperandFits source → Stands cs vs f → value_at cs dst ≡ Some (values.Num m) → operand_in cs source ≡ Some (values.Num n) → is_taken bits comparison m n ≡ taken → LeftFrame (along_edge precision bits comparison taken dst source f) cs vs
  edge_left bits comparison taken dst (Immediate imm) f cs vs m n le fit h e g t =
      let same : extended imm ≡ n = num_same (extended imm) n (same_Some _ _ g) in
      let k = mov_value bits (extended imm) in
      let small = mov_small bits (extended imm) (extended_small imm fit) in
      let t' : is_taken bits comparison m k ≡ taken = low_taken bits comparison m (extended imm) ∙ ap (is_taken bits comparison m) same ∙ t in
      both_told number_laws precision _ cs vs dst (Immediate imm) m n
      (with_immediate f dst imm _ cs vs m k h e
      (along_left bits comparison taken false (kind_at f dst) (Num (constant k)) m k (λ s. absurd (false≢true s)) (held_at f.registers cs dst _ h.holds e) (law.constant k small) t')) le fit e g
  edge_left bits comparison taken dst (Register r) f cs vs m n le fit h e g t =
      both_told number_laws precision _ cs vs dst (Register r) m n
      (with_register f dst r _ cs vs m n h e g
      (along_left bits comparison taken (dst == r) (kind_at f dst) (kind_at f r) m n
      (λ s. num_same m n (same_Some _ _ (sym e ∙ ap (value_at cs) (eqb-true dst r s) ∙ g))) (held_at f.registers cs dst _ h.holds e) (held_at f.registers cs r _ h.holds g) t)) le fit e g

  reach_first : (a b : Option PlainFrame) (t s q : ℕ) (cs vs : List (Option Value)) → q ≡ t → LeftFrame a cs vs → Reaches (edge_to t a ++ edge_to s b) q cs vs
  reach_first None b t s q cs vs e l = absurd l
  reach_first (Some g) b t s q cs vs e l = record { frame = g; there = inl (e, refl); holds = l.holds; slots = l.slots; links = l.links }

  reach_second : (a b : Option PlainFrame) (t s q : ℕ) (cs vs : List (Option Value)) → q ≡ s → LeftFrame b cs vs → Reaches (edge_to t a ++ edge_to s b) q cs vs
  reach_second a None t s q cs vs e l = absurd l
  reach_second None (Some g) t s q cs vs e l = record { frame = g; there = inl (e, refl); holds = l.holds; slots = l.slots; links = l.links }
  reach_second (Some f) (Some g) t s q cs vs e l = record { frame = g; there = inr (inl (e, refl)); holds = l.holds; slots = l.slots; links = l.links }

  reach_edge : (taken : Bool) (a b : Option PlainFrame) (p q distance : ℕ) (t : ℕ) (cs vs : List (Option Value)) → branch_to true p distance ≡ t → q ≡ branch_to taken p distance → (taken ≡ true → LeftFrame a cs vs) → (taken ≡ false → LeftFrame b cs vs) → Reaches (edge_to t a ++ edge_to (p + 1) b) q cs vs
  reach_edge true a b p q distance t cs vs s e f g = reach_first a b t (p + 1) q cs vs (e ∙ s) (f refl)
  reach_edge false a b p q distance t cs vs s e f g = reach_second a b t (p + 1) q cs vs e (g refl)

  arrives : (o : Option PlainKind) (next q : ℕ) (f : PlainFrame) (dst : ℕ) (cs ds vs ws : List (Option Value)) (v : Value) → HoldsEach f.registers cs → HoldsEach f.slots vs → HoldsLinks f ds ws → Left o v → q ≡ next → ds ≡ with_value cs dst v → ws ≡ vs → Reaches (computed next f dst o) q ds ws
  arrives None next q f dst cs ds vs ws v h k n l e d u = absurd l
  arrives (Some x) next q f dst cs ds vs ws v h k n l e d u =
      record { frame = with_kind f dst x; there = inl (e, refl); holds = subst (HoldsEach (slice_set f.registers dst x)) (sym d) (set_each f.registers cs dst x v h l); slots = subst (HoldsEach f.slots) (sym u) k; links = n }

  stays : (f : PlainFrame) (a q : ℕ) (cs ds vs ws : List (Option Value)) → HoldsEach f.registers cs → HoldsEach f.slots ws → HoldsLinks f ds ws → q ≡ a → ds ≡ cs → Reaches ((a, f) ∷ []) q ds ws
  stays f a q cs ds vs ws h k n e d = record { frame = f; there = inl (e, refl); holds = subst (HoldsEach f.registers) (sym d) h; slots = k; links = n }

  -- ---- the stack

  pub extended_small16 : (z : ℤ) → FitsSigned w16 z → extended z < 2 ^ 64
  extended_small16 (pos n) h = let b = h.sfits in omega arith
  extended_small16 (negsuc n) h = omega arith

  -- what a load gives: the kind of a slot is true of its value, a number of that many bytes of a
  -- number
  slot_or_number : (o number : Option PlainKind) (v : Value) → ((x : PlainKind) → o ≡ Some x → HoldsKind x (Some v)) → (o ≡ None → Left number v) → Left (loaded_kind o number) v
  slot_or_number None number v whole other = other refl
  slot_or_number (Some x) number v whole other = whole x refl

  -- where an access through a pointer is
  pub place_held : (k : Plain) (o distance : ℕ) → KindFits (Ptr Stack k) → distance < 2 ^ 64 → Holds k o → HeldIn (last_place precision k distance) ((o + distance) % 2 ^ 64)
  place_held k o distance fit small h =
      law.arithmetic precision Bits64 Add k (constant distance) fit (law.constants_fit distance small) o distance h (law.constant distance small)

  -- the slots that an access reaches, where it is in the stack
  pub reaches_some : (P : Option Plain) (at w : ℕ) → HeldIn P at → (j : ℕ) → Touched at w j → touches (access_span P w) j ≡ true
  reaches_some None at w h j t = absurd h
  reaches_some (Some place) at w h j t = access_touches place at w j h t

  pub whole_place : (P : Option Plain) (at w j : ℕ) → HeldIn P at → whole_slot P w ≡ Some j → (w ≡ 8) × (at ≡ 8 * j)
  whole_place None at w j h e = absurd h
  whole_place (Some place) at w j h e = let whole = whole_is place w j e in (whole.width, one_place place at w j h whole)

  pub not_stack : (r q : Region) (at w j : ℕ) → r ≡ q → (q ≡ Stack → ⊥) → Reached r at w j → ⊥
  not_stack r q at w j same other reached = let region = reached.region in other (sym same ∙ region)

  module _ (slots : List PlainKind) (vs : List (Option Value)) (long : length slots ≡ length vs) (held : HoldsEach slots vs) where
    -- of a load in the stack
    slot_value : (P : Option Plain) (at w : ℕ) (r : Region) (v : Value) → r ≡ Stack → HeldIn P at → Loads vs r at w v → (o : Option ℕ) → o ≡ whole_slot P w → (x : PlainKind) → slot_kind slots o ≡ Some x → HoldsKind x (Some v)
    slot_value P at w r v region h loads None e x there = absurd (none-some x there)
    slot_value P at w r v region h loads (Some j) e x there =
        let place = whole_place P at w j h (sym e) in
        let inside = inside_of slots j x there in
        let is = loads.whole j (record { region = region; width = place.0; place = place.1; inside = omega (arith, long, inside) }) in
        subst (HoldsKind x) is (held_slot slots vs j x held there)

    a_number : (P : Option Plain) (at w : ℕ) (r : Region) (v : Value) → HeldIn P at → Loads vs r at w v → meets Nothing (access_span P w) 0 slots ≡ false → meets Pointer (access_span P w) 0 slots ≡ false → (n : ℕ) × (v ≡ values.Num n) × (n < 256 ^ w)
    a_number P at w r v h loads unset ptr =
        loads.number (λ j lt reached. all_numbers (access_span P w) slots vs long held unset ptr j lt (reaches_some P at w h j reached.touched))

    elsewhere : (at w : ℕ) (r q : Region) (v : Value) → r ≡ q → (q ≡ Stack → ⊥) → Loads vs r at w v → (n : ℕ) × (v ≡ values.Num n) × (n < 256 ^ w)
    elsewhere at w r q v same other loads = loads.number (λ j lt reached. absurd (not_stack r q at w j same other reached))

    -- of a store in the stack
    store_slot : (P : Option Plain) (at w : ℕ) (r : Region) (x : Value) (y : PlainKind) (ws : List (Option Value)) → r ≡ Stack → HeldIn P at → HoldsKind y (Some x) → Stores vs r at w x ws → (slot_kind slots (whole_slot P w) ≡ None → IsNumber (Some x)) → (o : Option ℕ) → o ≡ whole_slot P w → HoldsEach (stored slots o (access_span P w) y) ws
    store_slot P at w r x y ws region h k stores number None e =
        spoiled_holds law.any (access_span P w) 0 slots vs ws held stores.long
        (λ i out. stores.others i (λ reached. false≢true (sym out ∙ at_start (access_span P w) i ∙ reaches_some P at w h i reached.touched)))
        (stores.numbers (number (ap (slot_kind slots) (sym e))))
    store_slot P at w r x y ws region h k stores number (Some j) e =
        let place = whole_place P at w j h (sym e) in
        set_holds slots vs ws j y x held k stores.long
        (λ lt. stores.whole j (record { region = region; width = place.0; place = place.1; inside = lt }))
        (λ i ne. stores.others i (λ reached. let t = reached.touched in let a = t.below in let b = t.above in ne (omega (arith, place.0, place.1))))

    -- and of one elsewhere, or of a range elsewhere
    untouched : (ws : List (Option Value)) → length ws ≡ length vs → ((i : ℕ) → value_at ws i ≡ value_at vs i) → ((i : ℕ) → IsNumber (value_at vs i) → IsNumber (value_at ws i)) → HoldsEach (spoiled None 0 slots) ws
    untouched ws e same n = spoiled_holds law.any None 0 slots vs ws held e (λ i out. same i) n

  pub is_input : Input ≡ Stack → ⊥
  is_input e = absurd cc

  pub is_output : Output ≡ Stack → ⊥
  is_output e = absurd cc

  load_left : (slots : List PlainKind) (vs : List (Option Value)) → length slots ≡ length vs → HoldsEach slots vs → (width : Width) (x : PlainKind) (distance : ℕ) (r : Region) (o : ℕ) (v : Value) → distance < 2 ^ 64 → KindFits x → HoldsKind x (Some (values.Ptr r o)) → Loads vs r ((o + distance) % 2 ^ 64) (byte_count width) v
      → (is_ptr x ≡ true) × (meets Nothing (access_span (stack_place precision x distance) (byte_count width)) 0 slots ≡ false) × (slot_kind slots (whole_slot (stack_place precision x distance) (byte_count width)) ≡ None → meets Pointer (access_span (stack_place precision x distance) (byte_count width)) 0 slots ≡ false)
      → Left (loaded_kind (slot_kind slots (whole_slot (stack_place precision x distance) (byte_count width))) (option_map Num (tighten precision (ranged 0 (load_high width))))) v
  load_left slots vs long sl width Unset distance r o v small fit h loads ok = absurd cc
  load_left slots vs long sl width (Num k) distance r o v small fit h loads ok = absurd h
  load_left slots vs long sl width (Ptr Input k) distance r o v small fit h loads ok =
      let n = elsewhere slots vs long sl ((o + distance) % 2 ^ 64) (byte_count width) r Input v (sym h.0) is_input loads in
      subst (Left (option_map Num (tighten precision (ranged 0 (load_high width))))) (sym n.1) (left_num _ n.0 (law.loads precision width n.0 n.2))
  load_left slots vs long sl width (Ptr Output k) distance r o v small fit h loads ok =
      let n = elsewhere slots vs long sl ((o + distance) % 2 ^ 64) (byte_count width) r Output v (sym h.0) is_output loads in
      subst (Left (option_map Num (tighten precision (ranged 0 (load_high width))))) (sym n.1) (left_num _ n.0 (law.loads precision width n.0 n.2))
  load_left slots vs long sl width (Ptr Stack k) distance r o v small fit h loads ok =
      let at = (o + distance) % 2 ^ 64 in
      let P = last_place precision k distance in
      let held = place_held k o distance fit small h.1 in
      slot_or_number (slot_kind slots (whole_slot P (byte_count width))) _ v
      (slot_value slots vs long sl P at (byte_count width) r v (sym h.0) held loads (whole_slot P (byte_count width)) refl)
      (λ none.
      let n = a_number slots vs long sl P at (byte_count width) r v held loads ok.1 (ok.2 none) in
      subst (Left (option_map Num (tighten precision (ranged 0 (load_high width))))) (sym n.1) (left_num _ n.0 (law.loads precision width n.0 n.2)))

  num_is : (m n : ℕ) → values.Num m ≡ values.Num n → m ≡ n
  num_is m n e = cc

  signed_small : (slots : List PlainKind) (vs : List (Option Value)) → length slots ≡ length vs → HoldsEach slots vs → (w : ℕ) (x : PlainKind) (distance : ℕ) (r : Region) (o n : ℕ) → distance < 2 ^ 64 → KindFits x → HoldsKind x (Some (values.Ptr r o)) → Loads vs r ((o + distance) % 2 ^ 64) w (values.Num n)
      → is_ptr x ≡ true → meets Nothing (access_span (stack_place precision x distance) w) 0 slots ≡ false → meets Pointer (access_span (stack_place precision x distance) w) 0 slots ≡ false → n < 256 ^ w
  signed_small slots vs long sl w Unset distance r o n small fit h loads a b c = absurd cc
  signed_small slots vs long sl w (Num k) distance r o n small fit h loads a b c = absurd h
  signed_small slots vs long sl w (Ptr Input k) distance r o n small fit h loads a b c =
      let m = elsewhere slots vs long sl ((o + distance) % 2 ^ 64) w r Input (values.Num n) (sym h.0) is_input loads in omega (arith, m.2, num_is n m.0 m.1)
  signed_small slots vs long sl w (Ptr Output k) distance r o n small fit h loads a b c =
      let m = elsewhere slots vs long sl ((o + distance) % 2 ^ 64) w r Output (values.Num n) (sym h.0) is_output loads in omega (arith, m.2, num_is n m.0 m.1)
  signed_small slots vs long sl w (Ptr Stack k) distance r o n small fit h loads a b c =
      let m = a_number slots vs long sl (last_place precision k distance) ((o + distance) % 2 ^ 64) w r (values.Num n) (place_held k o distance fit small h.1) loads b c in
      omega (arith, m.2, num_is n m.0 m.1)

  number_value : (y : PlainKind) (x : Value) → HoldsKind y (Some x) → is_unset y ≡ false → is_ptr y ≡ false → IsNumber (Some x)
  number_value Unset x h a b = absurd cc
  number_value (Ptr r k) x h a b = absurd cc
  number_value (Num k) (values.Num n) h a b = h.fits
  number_value (Num k) (values.Ptr r o) h a b = h

  -- what a store elsewhere leaves
  store_elsewhere : (slots : List PlainKind) (vs ws : List (Option Value)) → length slots ≡ length vs → HoldsEach slots vs → (at w : ℕ) (r q : Region) (x : Value) → r ≡ q → (q ≡ Stack → ⊥) → Stores vs r at w x ws → HoldsEach (spoiled None 0 slots) ws
  store_elsewhere slots vs ws long sl at w r q x same other stores =
      let all : (i : ℕ) → value_at ws i ≡ value_at vs i = λ i. stores.others i (λ reached. not_stack r q at w i same other reached) in
      untouched slots vs long sl ws stores.long all (λ i n. subst IsNumber (sym (all i)) n)

  store_left : (slots : List PlainKind) (vs ws : List (Option Value)) → length slots ≡ length vs → HoldsEach slots vs → (w : ℕ) (b y : PlainKind) (distance : ℕ) (r : Region) (o : ℕ) (x : Value) → distance < 2 ^ 64 → KindFits b → HoldsKind b (Some (values.Ptr r o)) → HoldsKind y (Some x) → Stores vs r ((o + distance) % 2 ^ 64) w x ws
      → (is_ptr b ≡ true) × (is_unset y ≡ false) × (slot_kind slots (whole_slot (stack_place precision b distance) w) ≡ None → is_ptr y ≡ false)
      → HoldsEach (stored slots (whole_slot (stack_place precision b distance) w) (access_span (stack_place precision b distance) w) y) ws
  store_left slots vs ws long sl w Unset y distance r o x small fit h k stores ok = absurd cc
  store_left slots vs ws long sl w (Num l) y distance r o x small fit h k stores ok = absurd h
  store_left slots vs ws long sl w (Ptr Input l) y distance r o x small fit h k stores ok = store_elsewhere slots vs ws long sl ((o + distance) % 2 ^ 64) w r Input x (sym h.0) is_input stores
  store_left slots vs ws long sl w (Ptr Output l) y distance r o x small fit h k stores ok = store_elsewhere slots vs ws long sl ((o + distance) % 2 ^ 64) w r Output x (sym h.0) is_output stores
  store_left slots vs ws long sl w (Ptr Stack l) y distance r o x small fit h k stores ok =
      let P = last_place precision l distance in
      store_slot slots vs long sl P ((o + distance) % 2 ^ 64) w r x y ws (sym h.0) (place_held l o distance fit small h.1) k stores (λ none. number_value y x k ok.1 (ok.2 none)) (whole_slot P w) refl

  -- what a helper's range leaves
  range_left : (slots : List PlainKind) (vs ws : List (Option Value)) → length slots ≡ length vs → HoldsEach slots vs → (a b : PlainKind) (r : Region) (at n : ℕ) → HoldsKind a (Some (values.Ptr r at)) → HoldsKind b (Some (values.Num n)) → is_ptr a ≡ true → is_num b ≡ true → Overwrites vs r at n ws → HoldsEach (spoiled (stack_range a b) 0 slots) ws
  range_left slots vs ws long sl Unset b r at n h k p q over = absurd cc
  range_left slots vs ws long sl (Num l) b r at n h k p q over = absurd h
  range_left slots vs ws long sl (Ptr Input l) b r at n h k p q over =
      let all : (i : ℕ) → value_at ws i ≡ value_at vs i = λ i. over.others i (λ reached. not_stack r Input at n i (sym h.0) is_input reached.1) in
      untouched slots vs long sl ws over.long all over.numbers
  range_left slots vs ws long sl (Ptr Output l) b r at n h k p q over =
      let all : (i : ℕ) → value_at ws i ≡ value_at vs i = λ i. over.others i (λ reached. not_stack r Output at n i (sym h.0) is_output reached.1) in
      untouched slots vs long sl ws over.long all over.numbers
  range_left slots vs ws long sl (Ptr Stack l) Unset r at n h k p q over = absurd cc
  range_left slots vs ws long sl (Ptr Stack l) (Ptr s m) r at n h k p q over = absurd k
  range_left slots vs ws long sl (Ptr Stack l) (Num m) r at n h k p q over =
      spoiled_holds law.any (range_span l m) 0 slots vs ws sl over.long
      (λ i out. over.others i (λ reached. let t = reached.1 in false≢true (sym out ∙ at_start (range_span l m) i ∙ range_touches l m at n i h.1 k reached.0 t.touched))) over.numbers

  room_left : (f : PlainFrame) (cs vs ws : List (Option Value)) → length f.slots ≡ length vs → HoldsEach f.registers cs → HoldsEach f.slots vs → (room : Option ℕ) → AllowsRoom room f → Overwritten room cs vs ws → HoldsEach (spoiled (room_span f room) 0 f.slots) ws
  room_left f cs vs ws long h sl None ok over =
      untouched f.slots vs long sl ws (ap length over) (λ i. ap (λ (xs : List (Option Value)). value_at xs i) over) (λ i n. subst (λ (xs : List (Option Value)). IsNumber (value_at xs i)) (sym over) n)
  room_left f cs vs ws long h sl (Some k) ok over =
      range_left f.slots vs ws long sl (kind_at f k) (kind_at f (k + 1)) over.0 over.1 over.2 (held_at f.registers cs k _ h over.3) (held_at f.registers cs (k + 1) _ h over.4) ok.0 ok.1 over.5

  pub edges_keep : (f : PlainFrame) → EachFits f.registers → length f.registers ≡ 11 → (room : Option ℕ) (answer : Plain) (i : Insn) (p : ℕ) → Fits i → Allows precision room i f → (cs ds vs ws : List (Option Value)) (q : ℕ) → length f.slots ≡ length vs → HoldsEach f.registers cs → HoldsEach f.slots vs → HoldsLinks f ds ws → Moves room answer i p cs vs q ds ws → Reaches (edges_of precision room answer i p f) q ds ws
  edges_keep f fits eleven room answer (Alu bits operation dst source) p fit allows cs ds vs ws q long h sl links m =
      arrives _ (p + 1) q f dst cs ds vs ws m.2 h sl links
      (alu_left bits operation (kind_at f dst) (operand_kind f source) m.0 m.1 m.2 (fits_at f.registers dst fits) (operand_fits f source fit.1 fits) (held_at f.registers cs dst m.0 h m.3) (operand_held f cs source m.1 fit.1 h m.4) m.5) m.6 m.7 m.8
  edges_keep f fits eleven room answer (Neg bits dst) p fit allows cs ds vs ws q long h sl links m =
      arrives _ (p + 1) q f dst cs ds vs ws _ h sl links (neg_left bits (kind_at f dst) m.0 (fits_at f.registers dst fits) (held_at f.registers cs dst _ h m.1)) m.2 m.3 m.4
  edges_keep f fits eleven room answer (Mov bits dst source) p fit allows cs ds vs ws q long h sl links m =
      arrives _ (p + 1) q f dst cs ds vs ws m.1 h sl links (mov_left bits (operand_kind f source) m.0 m.1 (operand_held f cs source m.0 fit.1 h m.2) m.3) m.4 m.5 m.6
  edges_keep f fits eleven room answer (MovSigned extension dst src) p fit allows cs ds vs ws q long h sl links m =
      arrives _ (p + 1) q f dst cs ds vs ws _ h sl links (signed_move_left extension (kind_at f src) m.0 (held_at f.registers cs src _ h m.1)) m.2 m.3 m.4
  edges_keep f fits eleven room answer (End order width dst) p fit allows cs ds vs ws q long h sl links m =
      arrives _ (p + 1) q f dst cs ds vs ws _ h sl links (end_left order width (kind_at f dst) m.0 (held_at f.registers cs dst _ h m.1)) m.2 m.3 m.4
  edges_keep f fits eleven room answer (LoadWide dst value) p fit allows cs ds vs ws q long h sl links m =
      arrives (Some (Num (constant value))) (p + 2) q f dst cs ds vs ws (values.Num value) h sl links (law.constant value fit.1) m.0 m.1 m.2
  edges_keep f fits eleven room answer (Load width dst base offset) p fit allows cs ds vs ws q long h sl links m =
      arrives _ (p + 1) q f dst cs ds vs ws m.2 h sl links
      (load_left f.slots vs long sl width (kind_at f base) (extended offset) m.0 m.1 m.2 (extended_small16 offset fit.2) (fits_at f.registers base fits) (held_at f.registers cs base _ h m.3) m.4 allows) m.5 m.6 m.7
  edges_keep f fits eleven room answer (LoadSigned width dst base offset) p fit allows cs ds vs ws q long h sl links m =
      arrives _ (p + 1) q f dst cs ds vs ws _ h sl links
      (left_num _ _ (law.signed_loads precision width m.2 (signed_small f.slots vs long sl (signed_byte_count width) (kind_at f base) (extended offset) m.0 m.1 m.2 (extended_small16 offset fit.2) (fits_at f.registers base fits) (held_at f.registers cs base _ h m.3) m.4 allows.0.0 allows.0.1 allows.1))) m.5 m.6 m.7
  edges_keep f fits eleven room answer (Store width base offset source) p fit allows cs ds vs ws q long h sl links m =
      stays (after_store precision f (kind_at f base) (extended offset) (byte_count width) (operand_kind f source)) (p + 1) q cs ds vs ws h
      (store_left f.slots vs ws long sl (byte_count width) (kind_at f base) (operand_kind f source) (extended offset) m.0 m.1 m.2 (extended_small16 offset fit.1) (fits_at f.registers base fits) (held_at f.registers cs base _ h m.3) (operand_held f cs source m.2 fit.2 h m.4) m.5 allows) links m.6 m.7
  edges_keep f fits eleven room answer (Jump offset) p fit allows cs ds vs ws q long h sl links m = stays f (target p offset) q cs ds vs ws h (subst (HoldsEach f.slots) (sym m.2) sl) links m.0 m.1
  edges_keep f fits eleven room answer (JumpLong distance) p fit allows cs ds vs ws q long h sl links m = stays f (target p distance) q cs ds vs ws h (subst (HoldsEach f.slots) (sym m.2) sl) links m.0 m.1
  edges_keep f fits eleven room answer (Branch bits comparison dst source offset) p fit allows cs ds vs ws q long h sl links m =
      let stands : Stands cs ws f = record {
        holds = h;
        slots = subst (HoldsEach f.slots) (sym m.6) sl;
        links = subst (λ (xs : List (Option Value)). HoldsLinks f xs ws) m.5 links;
        eleven = eleven;
      } in
      subst (λ (xs : List (Option Value)). Reaches (edges_of precision room answer (Branch bits comparison dst source offset) p f) q xs ws) (sym m.5)
      (reach_edge (is_taken bits comparison m.0 m.1) (along_edge precision bits comparison true dst source f) (along_edge precision bits comparison false dst source f) p q (extended offset) (target p offset) cs ws refl m.4
      (edge_left bits comparison true dst source f cs ws m.0 m.1 fit.0 fit.2 stands m.2 m.3) (edge_left bits comparison false dst source f cs ws m.0 m.1 fit.0 fit.2 stands m.2 m.3))
  edges_keep f fits eleven room answer (Call helper) p fit allows cs ds vs ws q long h sl links m =
      record {
        frame = after_call room answer f;
        there = inl (m.2, refl);
        holds = subst (HoldsEach (after_call room answer f).registers) (sym m.3) (m.1, (tt, (tt, (tt, (tt, (tt, drop_each 6 f.registers cs h))))));
        slots = room_left f cs vs ws long h sl room allows m.4;
        links = links;
      }
  edges_keep f fits eleven room answer (CallLocal distance) p fit allows cs ds vs ws q long h sl links m = absurd m
  edges_keep f fits eleven room answer Exit p fit allows cs ds vs ws q long h sl links m = absurd m
