-- What goes back from an instruction that no rule of its own refuses goes to a head.
use Rattle.std.proofs.Common.{◌≡◌, ℕ, ℤ, pos, negsuc, ◌+◌, ◌^◌, ◌<◌, ◌≤◌, List, Option, Some, None, true, false, refl, inl, inr, sym, subst, arith, ⊎_elim}
use Rattle.std.specs.Prelude.{FitsSigned, is_some, not, ◌&&◌}
use Rattle.std.specs.Int.{w16, is_negative}
use Rattle.std.specs.Int.Signed.{mag}
use Rattle.std.specs.Option.{option_map}
use Rattle.std.proofs.Math.Nat.{mod-eq_of_lt}
use Rattle.bpf_decode.specs.declared.insn.Insn.{Insn}
use Rattle.bpf_decode.specs.declared.insn.Insn.TheVariants.{Alu, Neg, Mov, MovSigned, End, LoadWide, Load, LoadSigned, Store, Jump, JumpLong, Branch, Call, CallLocal, Exit}
use Rattle.bpf_decode.specs.Instruction.{Fits, byte_count}
use Rattle.bpf_decode.specs.Values.{extended}
use Rattle.bpf_decode.specs.declared.rule_set.RuleSet.TheVariants.{Three}
use Rattle.bpf_machine.specs.declared.caps.Caps.{Caps}
use Rattle.abstract_num.specs.declared.precision.Precision.{Precision}
use Rattle.abstract_num.specs.declared.precision.Precision.TheVariants.{Halves}
use Rattle.abstract_num.specs.Plain.{Plain, constant}
use Rattle.abstract_regs.specs.Kind.{Num}
use Rattle.abstract_regs.specs.Frame.{PlainFrame, kind_at, with_kind, operand_kind, after_call, after_store}
use Rattle.abstract_regs.specs.Flow.{target, edge_to, along_edge, edges_of}
use Rattle.abstract_regs.specs.Links.{relinked}
use Rattle.abstract_regs.specs.Moves.{Among}
use Rattle.verifier.specs.Answers.{answer_of}
use Rattle.verifier.specs.Rules.{room_of}
use Rattle.verifier.proofs.Holding.{not_false}
use Rattle.loop_heads.specs.Loops.{PlainHead, head_at}
use Rattle.loop_frames.specs.Pairs.{PointerPair, pair_of, pair_edge, pair_edges, edges_by}
use Rattle.loop_tables.specs.Rules.{rule_below}
use Rattle.loop_tables.specs.Table.{edges_at}
use Rattle.loop_tables.proofs.Shapes.{Shaped, shaped, shape_and_frame, only, either}
use Rattle.loop_tables.proofs.Pairs.{PairForm, pair_form}

module _ (heads : List PlainHead) (code : List (Option Insn)) (p : ℕ) (small : p < 2 ^ 62) where
  -- the slot is a head
  abbrev IsHeadAt : ℕ → Type 0
  IsHeadAt q = is_some (head_at heads q) ≡ true

  near16 : (z : ℤ) → FitsSigned w16 z → mag z < 2 ^ 31
  near16 z h = let s = h.sfits in omega arith

  -- an edge to a later slot doesn't go back
  later : (q a : ℕ) (g : PlainFrame) (o : Option PlainFrame) → p < a → Among q g (edge_to a o) → q ≤ p → IsHeadAt q
  later q a g o lt e le = let is = only q a g o e in absurd (omega (arith, lt, le, is))

  -- a jump that goes back goes to a head
  jump_back : (distance : ℤ) → mag distance < 2 ^ 31 → (is_negative distance && not (is_some (head_at heads (target p distance)))) ≡ false → target p distance ≤ p → IsHeadAt (target p distance)
  jump_back (pos n) near ok le =
      let whole : p + 1 + n < 2 ^ 64 = omega (arith, small, near) in
      let same : target p (pos n) ≡ p + 1 + n = mod-eq_of_lt whole in
      absurd (omega (arith, le, same))
  jump_back (negsuc n) near ok le = not_false _ ok

  jumps_back : (q : ℕ) (distance : ℤ) → mag distance < 2 ^ 31 → (is_negative distance && not (is_some (head_at heads (target p distance)))) ≡ false → q ≡ target p distance → q ≤ p → IsHeadAt q
  jumps_back q distance near ok is le = subst IsHeadAt (sym is) (jump_back distance near ok (omega (arith, is, le)))

  module _ (precision : Precision) (room : Option ℕ) (answer : Plain) where
    back_of : (i : Insn) (q : ℕ) (h g : PlainFrame) → Fits i → Shaped heads code p i → Among q g (edges_of precision room answer i p h) → q ≤ p → IsHeadAt q
    back_of (Alu bits operation d x) q h g fit ok e le = later q (p + 1) g (option_map (with_kind h d) _) (omega arith) e le
    back_of (Neg bits d) q h g fit ok e le = later q (p + 1) g (option_map (with_kind h d) _) (omega arith) e le
    back_of (Mov bits d x) q h g fit ok e le = later q (p + 1) g (option_map (with_kind h d) _) (omega arith) e le
    back_of (MovSigned extension d src) q h g fit ok e le = later q (p + 1) g (option_map (with_kind h d) _) (omega arith) e le
    back_of (End order width d) q h g fit ok e le = later q (p + 1) g (option_map (with_kind h d) _) (omega arith) e le
    back_of (LoadWide d value) q h g fit ok e le = later q (p + 2) g (option_map (with_kind h d) (Some (Num (constant value)))) (omega arith) e le
    back_of (Load width d from offset) q h g fit ok e le = later q (p + 1) g (option_map (with_kind h d) _) (omega arith) e le
    back_of (LoadSigned width d from offset) q h g fit ok e le = later q (p + 1) g (option_map (with_kind h d) _) (omega arith) e le
    back_of (Store width to offset x) q h g fit ok e le = later q (p + 1) g (Some (after_store precision h (kind_at h to) (extended offset) (byte_count width) (operand_kind h x))) (omega arith) e le
    back_of (Call helper) q h g fit ok e le = later q (p + 1) g (Some (after_call room answer h)) (omega arith) e le
    back_of (Jump offset) q h g fit ok e le = jumps_back q offset (near16 offset fit) ok.head (only q (target p offset) g (Some h) e) le
    back_of (JumpLong distance) q h g fit ok e le = jumps_back q distance fit.sfits ok.head (only q (target p distance) g (Some h) e) le
    back_of (Branch bits comparison d x offset) q h g fit ok e le = ⊎_elim
        (λ (is : q ≡ target p offset). jumps_back q offset (near16 offset fit.1) ok.head is le)
        (λ (is : q ≡ p + 1). absurd (omega (arith, is, le)))
        (either q (target p offset) (p + 1) g (along_edge precision bits comparison true d x h) (along_edge precision bits comparison false d x h) e)
    back_of (CallLocal distance) q h g fit ok e le = absurd e
    back_of Exit q h g fit ok e le = absurd e

  pair_back : (f : PlainFrame) (pair : PointerPair) (i : Insn) → PairForm i → Fits i → Shaped heads code p i → (q : ℕ) (g : PlainFrame) → Among q g (pair_edges Halves i p f pair) → q ≤ p → IsHeadAt q
  pair_back f pair i (inl is) fit ok q g e le = later q (p + 1) g _ (omega arith) (subst (λ i. Among q g (pair_edges Halves i p f pair)) is.is e) le
  pair_back f pair i (inr is) fit ok q g e le =
      let fits = subst Fits is.is fit in
      let shape = subst (Shaped heads code p) is.is ok in
      ⊎_elim
      (λ (at : q ≡ target p is.offset). jumps_back q is.offset (near16 is.offset fits.1) shape.head at le)
      (λ (at : q ≡ p + 1). absurd (omega (arith, at, le)))
      (either q (target p is.offset) (p + 1) g (pair_edge Halves is.comparison true is.dst is.src f pair) (pair_edge Halves is.comparison false is.dst is.src f pair) (subst (λ i. Among q g (pair_edges Halves i p f pair)) is.is e))

  back_by : (caps : Caps) (i : Insn) (f : PlainFrame) (o : Option PointerPair) → pair_of caps f i ≡ o → Fits i → Shaped heads code p i → (q : ℕ) (g : PlainFrame) → Among q g (edges_by Halves (room_of i) (answer_of Three f i) i p f o) → q ≤ p → IsHeadAt q
  back_by caps i f None is fit ok q g e le = back_of Halves (room_of i) (answer_of Three f i) i q (relinked Halves (room_of i) i p f) g fit ok e le
  back_by caps i f (Some pair) is fit ok q g e le = pair_back f pair i (pair_form caps f i pair is) fit ok q g e le

  -- an edge to the slot itself or a lower one goes to a head
  pub back_is_head : (caps : Caps) (i : Insn) (f : PlainFrame) → Fits i → rule_below caps heads code p i (Some f) ≡ None → (q : ℕ) (g : PlainFrame) → Among q g (edges_at caps i p f) → q ≤ p → IsHeadAt q
  back_is_head caps i f fit clear q g e le = back_by caps i f (pair_of caps f i) refl fit (shaped heads code p i (shape_and_frame caps heads code p i f clear).0) q g e le
