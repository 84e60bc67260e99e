-- What a load or a helper's range that the rules leave reads of the stack's slots.
use Rattle.std.proofs.Common.{◌≡◌, ℕ, ◌+◌, ◌*◌, ◌%◌, ◌^◌, List, Option, Some, None, true, false, refl, inl, inr, ap, ◌∙◌, sym, arith, length}
use Rattle.std.specs.Prelude.{is_some}
use Rattle.std.proofs.lemmas.Bool.{false≢true}
use Rattle.std.proofs.lemmas.Option.{none-some}
use Rattle.bpf_decode.specs.declared.region.Region.{Region}
use Rattle.bpf_decode.specs.declared.region.Region.TheVariants.{Input, Output, Stack}
use Rattle.bpf_decode.specs.declared.value.Value.{Value}
use Rattle.abstract_num.specs.Plain.{Plain}
use Rattle.abstract_num.specs.declared.precision.Precision.TheVariants.{Whole}
use Rattle.abstract_num.specs.Keeping.{HeldIn}
use Rattle.abstract_regs.specs.declared.content.Content.TheVariants.{Nothing, Pointer}
use Rattle.abstract_regs.specs.Kind.{PlainKind, Unset, Num, Ptr, HoldsKind, last_place, is_unset}
use Rattle.abstract_regs.specs.Slots.{access_span, range_span, whole_slot, slot_kind, meets}
use Rattle.abstract_regs.specs.Frame.{HoldsEach}
use Rattle.abstract_regs.specs.Moves.{value_at, Touched, Reached, IsSlot, LoadIsKnown}
use Rattle.abstract_regs.specs.Laws.{SlotsAreKnown, LoadsAreKnown, RangesAreKnown}
use Rattle.abstract_regs.proofs.SlotLemmas.{at_start, meets_none, inside_of, held_slot, all_numbers, range_touches}
use Rattle.abstract_regs.proofs.Keeping.{Laws, place_held, reaches_some, whole_place, not_stack, is_input, is_output}

set_value : (x : PlainKind) (c : Option Value) → HoldsKind x c → is_unset x ≡ false → (v : Value) × (c ≡ Some v)
set_value Unset c h e = absurd (false≢true (sym e))
set_value (Num k) None h e = absurd h
set_value (Num k) (Some v) h e = (v, refl)
set_value (Ptr r k) None h e = absurd h
set_value (Ptr r k) (Some v) h e = (v, refl)

module _ (law : Laws) where
  -- in the stack
  stack_load : (slots : List PlainKind) (vs : List (Option Value)) → length slots ≡ length vs → HoldsEach slots vs → (P : Option Plain) (r : Region) (at w : ℕ) → r ≡ Stack → HeldIn P at →
      meets Nothing (access_span P w) 0 slots ≡ false → (slot_kind slots (whole_slot P w) ≡ None → meets Pointer (access_span P w) 0 slots ≡ false) → (o : Option ℕ) → o ≡ whole_slot P w → (u : Option PlainKind) → u ≡ slot_kind slots o → LoadIsKnown vs r at w
  stack_load slots vs long sl P r at w region h unset ptr o e None n =
      let none : slot_kind slots (whole_slot P w) ≡ None = sym (ap (slot_kind slots) e) ∙ sym n in
      inl (λ j lt reached. all_numbers (access_span P w) slots vs long sl unset (ptr none) j lt (reaches_some law Whole P at w h j reached.touched))
  stack_load slots vs long sl P r at w region h unset ptr None e (Some y) n = absurd (none-some y (sym n))
  stack_load slots vs long sl P r at w region h unset ptr (Some j) e (Some y) n =
      let place = whole_place law Whole P at w j h (sym e) in
      let inside = inside_of slots j y (sym n) in
      let width : w ≡ 8 = place.0 in
      let start : at ≡ 8 * j = place.1 in
      let touched : Touched at w j = record { below = omega arith; above = omega arith } in
      let set = meets_none Nothing (access_span P w) 0 slots j y unset (sym n) (at_start (access_span P w) j ∙ reaches_some law Whole P at w h j touched) in
      let value = set_value y (value_at vs j) (held_slot slots vs j y sl (sym n)) set in
      inr (j, record { region = region; width = width; place = start; inside = omega (arith, long, inside) }, value.0, value.1)

  elsewhere : (vs : List (Option Value)) (r q : Region) (at w : ℕ) → r ≡ q → (q ≡ Stack → ⊥) → LoadIsKnown vs r at w
  elsewhere vs r q at w same other = inl (λ j lt reached. absurd (not_stack law Whole r q at w j same other reached))

  slot_there : (slots : List PlainKind) (vs : List (Option Value)) → length slots ≡ length vs → (P : Option Plain) (r : Region) (at w : ℕ) → r ≡ Stack → HeldIn P at → (o : Option ℕ) → o ≡ whole_slot P w → (u : Option PlainKind) → u ≡ slot_kind slots o → is_some u ≡ true → (j : ℕ) × IsSlot vs r at w j
  slot_there slots vs long P r at w region h o e None n t = absurd (false≢true t)
  slot_there slots vs long P r at w region h None e (Some y) n t = absurd (none-some y (sym n))
  slot_there slots vs long P r at w region h (Some j) e (Some y) n t =
      let place = whole_place law Whole P at w j h (sym e) in
      let inside = inside_of slots j y (sym n) in
      (j, record { region = region; width = place.0; place = place.1; inside = omega (arith, long, inside) })

  pub slots_known : SlotsAreKnown
  slots_known precision f Unset distance w fit small t vs long r at h = absurd (false≢true t)
  slots_known precision f (Num k) distance w fit small t vs long r at h = absurd (false≢true t)
  slots_known precision f (Ptr Input k) distance w fit small t vs long r at h = absurd (false≢true t)
  slots_known precision f (Ptr Output k) distance w fit small t vs long r at h = absurd (false≢true t)
  slots_known precision f (Ptr Stack k) distance w fit small t vs long r at h =
      slot_there f.slots vs long (last_place precision k distance) r ((at + distance) % 2 ^ 64) w (sym h.0) (place_held law precision k at distance fit small h.1) (whole_slot (last_place precision k distance) w) refl (slot_kind f.slots (whole_slot (last_place precision k distance) w)) refl t

  pub loads_known : LoadsAreKnown
  loads_known precision f Unset distance w fit small ok vs long sl r at h = absurd (false≢true ok.0)
  loads_known precision f (Num k) distance w fit small ok vs long sl r at h = absurd h
  loads_known precision f (Ptr Input k) distance w fit small ok vs long sl r at h = elsewhere vs r Input ((at + distance) % 2 ^ 64) w (sym h.0) (is_input law Whole)
  loads_known precision f (Ptr Output k) distance w fit small ok vs long sl r at h = elsewhere vs r Output ((at + distance) % 2 ^ 64) w (sym h.0) (is_output law Whole)
  loads_known precision f (Ptr Stack k) distance w fit small ok vs long sl r at h =
      stack_load f.slots vs long sl (last_place precision k distance) r ((at + distance) % 2 ^ 64) w (sym h.0) (place_held law precision k at distance fit small h.1) ok.1 ok.2 (whole_slot (last_place precision k distance) w) refl (slot_kind f.slots (whole_slot (last_place precision k distance) w)) refl

outside : (r q : Region) (at n j : ℕ) → r ≡ q → (q ≡ Stack → ⊥) → Reached r at n j → ⊥
outside r q at n j same other reached = let region = reached.region in other (sym same ∙ region)

not_input : Input ≡ Stack → ⊥
not_input e = absurd cc

not_output : Output ≡ Stack → ⊥
not_output e = absurd cc

pub ranges_known : RangesAreKnown
ranges_known f Unset y a b vs long sl p q r at n j h k lt some reached = absurd (false≢true p)
ranges_known f (Num l) y a b vs long sl p q r at n j h k lt some reached = absurd h
ranges_known f (Ptr Input l) y a b vs long sl p q r at n j h k lt some reached = absurd (outside r Input at n j (sym h.0) not_input reached)
ranges_known f (Ptr Output l) y a b vs long sl p q r at n j h k lt some reached = absurd (outside r Output at n j (sym h.0) not_output reached)
ranges_known f (Ptr Stack l) Unset a b vs long sl p q r at n j h k lt some reached = absurd (false≢true q)
ranges_known f (Ptr Stack l) (Ptr s m) a b vs long sl p q r at n j h k lt some reached = absurd k
ranges_known f (Ptr Stack l) (Num m) a b vs long sl p q r at n j h k lt some reached =
    all_numbers (range_span l m) f.slots vs long sl a b j lt (range_touches l m at n j h.1 k some reached.touched)
