-- The links that an instruction leaves are true after it; so what a frame holds before, a frame
-- along an edge holds after it.
use Rattle.std.proofs.Common.{◌≡◌, ◌≢◌, ℕ, zero, suc, ◌+◌, ◌-◌, ◌*◌, ◌%◌, ◌^◌, ◌<◌, ◌≤◌, List, [], ◌∷◌, length, Option, Some, None, Bool, true, false, cond, refl, ap, ◌∙◌, sym, subst, arith, drop}
use Rattle.std.specs.Prelude.{slice_set, ◌==◌, ◌&&◌, nat_lt, nat_le}
use Rattle.std.proofs.lemmas.Bool.{false≢true, eqb-true, ltb-true, cond_both}
use Rattle.std.proofs.lemmas.Bool.Decides.{nat_tests}
use Rattle.std.proofs.lemmas.Option.{none-some, same_Some}
use Rattle.bpf_decode.specs.declared.insn.Operand.{Operand}
use Rattle.bpf_decode.specs.declared.insn.Operand.TheVariants.{Immediate, Register}
use Rattle.bpf_decode.specs.declared.insn.Insn.{Insn}
use Rattle.bpf_decode.specs.declared.insn.Insn.TheVariants.{Alu, Neg, Mov, MovSigned, End, LoadWide, Load, LoadSigned, Store, Jump, JumpLong, Branch, Call, CallLocal, Exit}
use Rattle.bpf_decode.specs.declared.region.Region.{Region}
use Rattle.bpf_decode.specs.declared.region.Region.TheVariants.{Input, Output, Stack}
use Rattle.bpf_decode.specs.declared.value.Value.{Value}
use Rattle.bpf_decode.specs.declared.value.Value.TheVariants as values
use Rattle.bpf_decode.specs.declared.operation.OpWidth.{OpWidth}
use Rattle.bpf_decode.specs.declared.operation.OpWidth.TheVariants.{Bits32, Bits64}
use Rattle.bpf_decode.specs.declared.operation.Arithmetic.{Arithmetic}
use Rattle.bpf_decode.specs.declared.operation.SignedMove.{SignedMove}
use Rattle.bpf_decode.specs.declared.operation.SignedMove.TheVariants.{Byte64, Half64, Word64, Byte32, Half32}
use Rattle.bpf_decode.specs.Arithmetic.{alu_value, mov_value, signed_move_value}
use Rattle.bpf_decode.specs.Instruction.{byte_count, Fits, OperandFits}
use Rattle.bpf_decode.specs.Values.{extended, alu_values, mov_values}
use Rattle.abstract_num.specs.declared.precision.Precision.{Precision}
use Rattle.abstract_num.specs.Plain.{Plain, Holds}
use Rattle.abstract_num.specs.Keeping.{HeldIn}
use Rattle.abstract_regs.specs.declared.link.Link.{Link}
use Rattle.abstract_regs.specs.Kind.{PlainKind, Unset, Num, Ptr, HoldsKind, last_place, is_num, is_ptr}
use Rattle.abstract_regs.specs.Link.{no_link, link_in, shaped, low_form, HoldsLink, unlinked}
use Rattle.abstract_regs.specs.Links.{slot_place, is_touched, is_clobbered, known_slot, accessed_slot, slot_at, taken, copied_link, is_short, halved_link, moved_links, extended_links, loaded_links, stored_links, alu_link, constant_link, computed_link, links_after, relinked}
use Rattle.abstract_regs.specs.Slots.{Span, stack_place, stack_range, touches, access_span, whole_slot}
use Rattle.abstract_regs.specs.Frame.{PlainFrame, kind_at, operand_kind, room_span, HoldsEach}
use Rattle.abstract_regs.specs.Moves.{value_at, operand_in, with_value, LinksAre, HoldsLinks, NamesBelow, Reached, IsSlot, Stores, Overwrites, Overwritten, Moves, KindFits, EachFits, AllowsRoom, Allows, Keeps}
use Rattle.abstract_regs.proofs.SlotLemmas.{range_touches}
use Rattle.abstract_regs.proofs.LinkForms.{constant_true, half_true, low_half, extended_half}
use Rattle.abstract_regs.proofs.LinkTruth.{long_values, set_register, relink_register, relink_slot, set_slot, unlink_places, Takes, takes}
use Rattle.abstract_regs.proofs.Keeping.{Laws, fits_at, held_at, operand_held, extended_small16, place_held, reaches_some, whole_place, not_stack, is_input, is_output, edges_keep}

-- the links that are left are true
abbrev Left : List Link → List (Option Value) → List (Option Value) → Type 0
Left links cs vs = (numbers : ℕ → ℕ) × LinksAre links cs vs numbers

num_is : (m n : ℕ) → values.Num m ≡ values.Num n → m ≡ n
num_is m n e = cc

-- ---- arithmetic

module _ (numbers : ℕ → ℕ) (bits : OpWidth) (operation : Arithmetic) where
  by_constant : (k j : Plain) (l : Link) (a b : ℕ) → Holds k a → Holds j b → HoldsLink numbers l (Some (values.Num a)) → HoldsLink numbers (computed_link bits operation (Num k) (Num j) l) (Some (values.Num (alu_value bits operation a b)))
  by_constant k j l a b h i is = one (j.low == j.high) (λ e. e)
    where
      one : (t : Bool) → (t ≡ true → (j.low == j.high) ≡ true) → HoldsLink numbers (constant_link bits operation k (cond t (Some (mov_value bits j.low)) None) l) (Some (values.Num (alu_value bits operation a b)))
      one false e = tt
      one true e =
          let ends = eqb-true j.low j.high (e refl) in
          let low = i.above in
          let high = i.below in
          let same : b ≡ j.low = omega (arith, ends, low, high) in
          subst (λ x. HoldsLink numbers (alu_link bits operation k (mov_value bits x) l) (Some (values.Num (alu_value bits operation a b)))) same (constant_true numbers l k a h is bits operation b i.fits)

  computed_true : (x y : PlainKind) (l : Link) (u v w : Value) → HoldsKind x (Some u) → HoldsKind y (Some v) → HoldsLink numbers l (Some u) → alu_values bits operation u v ≡ Some w → HoldsLink numbers (computed_link bits operation x y l) (Some w)
  computed_true Unset y l u v w h i is e = tt
  computed_true (Ptr r k) y l u v w h i is e = tt
  computed_true (Num k) Unset l u v w h i is e = tt
  computed_true (Num k) (Ptr r j) l u v w h i is e = tt
  computed_true (Num k) (Num j) l (values.Ptr r a) v w h i is e = absurd h
  computed_true (Num k) (Num j) l (values.Num a) (values.Ptr r b) w h i is e = absurd i
  computed_true (Num k) (Num j) l (values.Num a) (values.Num b) w h i is e =
      subst (λ x. HoldsLink numbers (computed_link bits operation (Num k) (Num j) l) (Some x)) (same_Some _ w e) (by_constant k j l a b h i is)

-- ---- places that are touched

slot_touched : (span : Option Span) (j : ℕ) → is_touched span (slot_place j) ≡ touches span j
slot_touched span j =
    let back : 11 + j - 11 ≡ j = omega arith in
    let in_slots : nat_le 11 (11 + j) ≡ true = grind (arith, nat_tests) in
    ap (λ b. b && touches span (11 + j - 11)) in_slots ∙ ap (touches span) back

module _ (law : Laws) (precision : Precision) where
  -- the slot of an access that is known, where it is in the stack
  found : (slots : List PlainKind) (vs : List (Option Value)) → length slots ≡ length vs → (P : Option Plain) (r : Region) (at w j : ℕ) → r ≡ Stack → HeldIn P at → (o : Option ℕ) → o ≡ whole_slot P w → known_slot slots o ≡ Some j → IsSlot vs r at w j
  found slots vs long P r at w j region h None e there = absurd (none-some j there)
  found slots vs long P r at w j region h (Some i) e there = one (nat_lt i (length slots)) refl
    where
      one : (t : Bool) → t ≡ nat_lt i (length slots) → IsSlot vs r at w j
      one false out = absurd (none-some j (sym (ap (λ (b : Bool). cond b (Some i) None) (sym out)) ∙ there))
      one true inside =
          let same : i ≡ j = same_Some i j (sym (ap (λ (b : Bool). cond b (Some i) None) (sym inside)) ∙ there) in
          let place = whole_place law precision P at w i h (sym e) in
          let lt = ltb-true i (length slots) (sym inside) in
          record { region = region; width = place.0; place = place.1 ∙ ap (λ x. 8 * x) same; inside = omega (arith, lt, long, same) }

  known_is : (f : PlainFrame) (vs : List (Option Value)) → length f.slots ≡ length vs → (x : PlainKind) (distance : ℕ) (r : Region) (o w j : ℕ) → distance < 2 ^ 64 → KindFits x → HoldsKind x (Some (values.Ptr r o)) → is_ptr x ≡ true → accessed_slot precision f x distance w ≡ Some j → IsSlot vs r ((o + distance) % 2 ^ 64) w j
  known_is f vs long Unset distance r o w j small fit h p e = absurd (false≢true p)
  known_is f vs long (Num k) distance r o w j small fit h p e = absurd h
  known_is f vs long (Ptr Input k) distance r o w j small fit h p e = absurd (none-some j e)
  known_is f vs long (Ptr Output k) distance r o w j small fit h p e = absurd (none-some j e)
  known_is f vs long (Ptr Stack k) distance r o w j small fit h p e =
      found f.slots vs long (last_place precision k distance) r ((o + distance) % 2 ^ 64) w j (sym h.0) (place_held law precision k o distance fit small h.1) (whole_slot (last_place precision k distance) w) refl e

  -- what an access doesn't touch, it doesn't reach
  unreached : (x : PlainKind) (distance : ℕ) (r : Region) (o w j : ℕ) → distance < 2 ^ 64 → KindFits x → HoldsKind x (Some (values.Ptr r o)) → is_ptr x ≡ true → touches (access_span (stack_place precision x distance) w) j ≡ false → Reached r ((o + distance) % 2 ^ 64) w j → ⊥
  unreached Unset distance r o w j small fit h p out reached = absurd (false≢true p)
  unreached (Num k) distance r o w j small fit h p out reached = absurd h
  unreached (Ptr Input k) distance r o w j small fit h p out reached = not_stack law precision r Input ((o + distance) % 2 ^ 64) w j (sym h.0) (is_input law precision) reached
  unreached (Ptr Output k) distance r o w j small fit h p out reached = not_stack law precision r Output ((o + distance) % 2 ^ 64) w j (sym h.0) (is_output law precision) reached
  unreached (Ptr Stack k) distance r o w j small fit h p out reached =
      false≢true (sym out ∙ reaches_some law precision (last_place precision k distance) ((o + distance) % 2 ^ 64) w (place_held law precision k o distance fit small h.1) j reached.touched)

  module _ (f : PlainFrame) (fits : EachFits f.registers) (eleven : length f.registers ≡ 11) (p : ℕ) (below : NamesBelow p f) (cs vs : List (Option Value)) (long : length f.slots ≡ length vs) (h : HoldsEach f.registers cs) (sl : HoldsEach f.slots vs) (held : HoldsLinks f cs vs) where
    -- a register is among the values
    set_of : (d : ℕ) → d ≤ 10 → d < length cs
    set_of d le = let more = long_values f.registers cs h in omega (arith, le, more, eleven)

    -- a register gets a value without a link
    freed : (d : ℕ) (v : Value) → d ≤ 10 → Left (slice_set f.links d no_link) (with_value cs d v) vs
    freed d v le = (held.0, set_register held.0 f.links cs vs d no_link v held.1 le (set_of d le) tt)

    -- a register's link is taken
    taken_of : (src : ℕ) (v : Value) → src ≤ 10 → value_at cs src ≡ Some v → Takes f.links cs vs (taken p (kind_at f src) (link_in f.links src)) v
    taken_of src v le at =
        let registers = held.1.registers in
        takes held.0 p f.links cs vs (kind_at f src) (link_in f.links src) v below held.1 (held_at f.registers cs src v h at)
        (subst (HoldsLink held.0 (link_in f.links src)) at (registers src le))

    copied : (src dst : ℕ) (v : Value) → src ≤ 10 → dst ≤ 10 → value_at cs src ≡ Some v → Left (copied_link p f.links src (kind_at f src) dst) (with_value cs dst v) vs
    copied src dst v le few at =
        let l = taken p (kind_at f src) (link_in f.links src) in
        let t = taken_of src v le at in
        (t.numbers, set_register t.numbers (slice_set f.links src l) cs vs dst l v (relink_register t.numbers f.links cs vs src l v t.are le at t.is) few (set_of dst few) t.is)

    halved : (src dst n m : ℕ) → src ≤ 10 → dst ≤ 10 → value_at cs src ≡ Some (values.Num n) → m % 2 ^ 32 ≡ n % 2 ^ 32 → Left (halved_link p f.links src (kind_at f src) dst) (with_value cs dst (values.Num m)) vs
    halved src dst n m le few at e =
        let l = taken p (kind_at f src) (link_in f.links src) in
        let t = taken_of src (values.Num n) le at in
        cond_both (is_short (kind_at f src)) (slice_set (slice_set f.links src l) dst (shaped l (low_form l.form))) (slice_set f.links dst no_link) (λ (links : List Link). Left links (with_value cs dst (values.Num m)) vs)
        (λ _. (t.numbers, set_register t.numbers (slice_set f.links src l) cs vs dst (shaped l (low_form l.form)) (values.Num m) (relink_register t.numbers f.links cs vs src l (values.Num n) t.are le at t.is) few (set_of dst few) (half_true t.numbers l n t.is m e)))
        (λ _. freed dst (values.Num m) few)

    moved : (bits : OpWidth) (source : Operand) (dst : ℕ) (y v : Value) → dst ≤ 10 → OperandFits source → operand_in cs source ≡ Some y → mov_values bits y ≡ Some v → Left (moved_links bits source p f dst) (with_value cs dst v) vs
    moved bits (Immediate imm) dst y v few fit at e = freed dst v few
    moved Bits64 (Register src) dst (values.Num n) v few fit at e =
        subst (λ (w : Value). Left (copied_link p f.links src (kind_at f src) dst) (with_value cs dst w) vs) (same_Some _ v e) (copied src dst (values.Num n) fit few at)
    moved Bits64 (Register src) dst (values.Ptr r o) v few fit at e =
        subst (λ (w : Value). Left (copied_link p f.links src (kind_at f src) dst) (with_value cs dst w) vs) (same_Some _ v e) (copied src dst (values.Ptr r o) fit few at)
    moved Bits32 (Register src) dst (values.Num n) v few fit at e =
        subst (λ (w : Value). Left (halved_link p f.links src (kind_at f src) dst) (with_value cs dst w) vs) (same_Some _ v e) (halved src dst n (mov_value Bits32 n) fit few at (low_half n))
    moved Bits32 (Register src) dst (values.Ptr r o) v few fit at e = absurd (none-some v e)

    extended_true : (extension : SignedMove) (src dst n : ℕ) → src ≤ 10 → dst ≤ 10 → value_at cs src ≡ Some (values.Num n) → Left (extended_links extension src p f dst) (with_value cs dst (values.Num (signed_move_value extension n))) vs
    extended_true Word64 src dst n le few at = halved src dst n (signed_move_value Word64 n) le few at (extended_half n)
    extended_true Byte64 src dst n le few at = freed dst (values.Num (signed_move_value Byte64 n)) few
    extended_true Half64 src dst n le few at = freed dst (values.Num (signed_move_value Half64 n)) few
    extended_true Byte32 src dst n le few at = freed dst (values.Num (signed_move_value Byte32 n)) few
    extended_true Half32 src dst n le few at = freed dst (values.Num (signed_move_value Half32 n)) few

    -- of a slot that has a value
    loaded : (o : Option ℕ) (dst : ℕ) (v : Value) → dst ≤ 10 → ((j : ℕ) → o ≡ Some j → value_at vs j ≡ Some v) → Left (loaded_links o p f dst) (with_value cs dst v) vs
    loaded None dst v few at = freed dst v few
    loaded (Some j) dst v few at =
        let slots = held.1.slots in
        let l = link_in f.links (slot_place j) in
        let t = takes held.0 p f.links cs vs (slot_at f j) l v below held.1 (held_at f.slots vs j v sl (at j refl)) (subst (HoldsLink held.0 l) (at j refl) (slots j)) in
        let m = taken p (slot_at f j) l in
        (t.numbers, set_register t.numbers (slice_set f.links (slot_place j) m) cs vs dst m v (relink_slot t.numbers f.links cs vs j m v t.are (at j refl) t.is) few (set_of dst few) t.is)

    stored_true : (o : Option ℕ) (span : Option Span) (source : Operand) (x : Value) (ws : List (Option Value)) → OperandFits source → operand_in cs source ≡ Some x → (o ≡ None → (j : ℕ) → touches span j ≡ false → value_at ws j ≡ value_at vs j) → ((j : ℕ) → o ≡ Some j → (value_at ws j ≡ Some x) × ((i : ℕ) → i ≢ j → value_at ws i ≡ value_at vs i)) → Left (stored_links o span source p f) cs ws
    stored_true None span source x ws fit at out whole =
        (held.0, unlink_places held.0 (is_touched span) f.links cs cs vs ws held.1 (λ r few e. refl) (λ j e. out refl j (sym (slot_touched span j) ∙ e)))
    stored_true (Some j) span (Immediate imm) x ws fit at out whole =
        let w = whole j refl in (held.0, set_slot held.0 f.links cs vs ws j no_link x held.1 w.0 w.1 tt)
    stored_true (Some j) span (Register src) x ws fit at out whole =
        let w = whole j refl in
        let l = taken p (kind_at f src) (link_in f.links src) in
        let t = taken_of src x fit at in
        (t.numbers, set_slot t.numbers (slice_set f.links src l) cs vs ws j l x (relink_register t.numbers f.links cs vs src l x t.are fit at t.is) w.0 w.1 t.is)

    -- of a store
    store_whole : (x : PlainKind) (distance w : ℕ) (r : Region) (o : ℕ) (v : Value) (ws : List (Option Value)) → distance < 2 ^ 64 → KindFits x → HoldsKind x (Some (values.Ptr r o)) → is_ptr x ≡ true → Stores vs r ((o + distance) % 2 ^ 64) w v ws → (j : ℕ) → accessed_slot precision f x distance w ≡ Some j → (value_at ws j ≡ Some v) × ((i : ℕ) → i ≢ j → value_at ws i ≡ value_at vs i)
    store_whole x distance w r o v ws small fit k ptr stores j e =
        let slot = known_is f vs long x distance r o w j small fit k ptr e in
        let width = slot.width in
        let place = slot.place in
        (stores.whole j slot, λ i ne. stores.others i (λ reached. let t = reached.touched in let a = t.below in let b = t.above in ne (omega (arith, width, place, a, b))))

    -- ---- a helper's call

    dropped : (n r : ℕ) (xs : List (Option Value)) → value_at (drop n xs) r ≡ value_at xs (n + r)
    dropped zero r xs = let same : r ≡ 0 + r = omega arith in ap (value_at xs) same
    dropped (suc n) r [] = refl
    dropped (suc n) r (x ∷ xs) = let next : suc (n + r) ≡ suc n + r = omega arith in dropped n r xs ∙ ap (value_at (x ∷ xs)) next

    clobbered : (n r : ℕ) → is_clobbered r ≡ false → value_at (Some (values.Num n) ∷ None ∷ None ∷ None ∷ None ∷ None ∷ drop 6 cs) r ≡ value_at cs r
    clobbered n zero e = absurd (false≢true (sym e))
    clobbered n (suc zero) e = absurd (false≢true (sym e))
    clobbered n (suc (suc zero)) e = absurd (false≢true (sym e))
    clobbered n (suc (suc (suc zero))) e = absurd (false≢true (sym e))
    clobbered n (suc (suc (suc (suc zero)))) e = absurd (false≢true (sym e))
    clobbered n (suc (suc (suc (suc (suc zero))))) e = absurd (false≢true (sym e))
    clobbered n (suc (suc (suc (suc (suc (suc r)))))) e = let same : 6 + r ≡ suc (suc (suc (suc (suc (suc r))))) = omega arith in dropped 6 r cs ∙ ap (value_at cs) same

    outside : (a b : PlainKind) (r : Region) (at n : ℕ) (ws : List (Option Value)) → HoldsKind a (Some (values.Ptr r at)) → HoldsKind b (Some (values.Num n)) → is_ptr a ≡ true → is_num b ≡ true → Overwrites vs r at n ws → (j : ℕ) → touches (stack_range a b) j ≡ false → value_at ws j ≡ value_at vs j
    outside Unset b r at n ws k m x y over j out = absurd (false≢true x)
    outside (Num l) b r at n ws k m x y over j out = absurd k
    outside (Ptr Input l) b r at n ws k m x y over j out = over.others j (λ reached. not_stack law precision r Input at n j (sym k.0) (is_input law precision) reached.1)
    outside (Ptr Output l) b r at n ws k m x y over j out = over.others j (λ reached. not_stack law precision r Output at n j (sym k.0) (is_output law precision) reached.1)
    outside (Ptr Stack l) Unset r at n ws k m x y over j out = absurd (false≢true y)
    outside (Ptr Stack l) (Ptr s c) r at n ws k m x y over j out = absurd m
    outside (Ptr Stack l) (Num c) r at n ws k m x y over j out =
        over.others j (λ reached. let t = reached.1 in false≢true (sym out ∙ range_touches l c at n j k.1 m reached.0 t.touched))

    room_out : (room : Option ℕ) (ws : List (Option Value)) → AllowsRoom room f → Overwritten room cs vs ws → (j : ℕ) → touches (room_span f room) j ≡ false → value_at ws j ≡ value_at vs j
    room_out None ws ok over j out = ap (λ (xs : List (Option Value)). value_at xs j) over
    room_out (Some k) ws ok over j out =
        outside (kind_at f k) (kind_at f (k + 1)) over.0 over.1 over.2 ws (held_at f.registers cs k _ h over.3) (held_at f.registers cs (k + 1) _ h over.4) ok.0 ok.1 over.5 j out

    called : (room : Option ℕ) (n : ℕ) (ws : List (Option Value)) → AllowsRoom room f → Overwritten room cs vs ws → Left (unlinked (is_touched (room_span f room)) 0 (unlinked is_clobbered 0 f.links)) (Some (values.Num n) ∷ None ∷ None ∷ None ∷ None ∷ None ∷ drop 6 cs) ws
    called room n ws ok over =
        let ds = Some (values.Num n) ∷ None ∷ None ∷ None ∷ None ∷ None ∷ drop 6 cs in
        let first = unlink_places held.0 is_clobbered f.links cs ds vs vs held.1 (λ r few e. clobbered n r e) (λ j e. refl) in
        (held.0, unlink_places held.0 (is_touched (room_span f room)) (unlinked is_clobbered 0 f.links) ds ds vs ws first (λ r few e. refl) (λ j e. room_out room ws ok over j (sym (slot_touched (room_span f room) j) ∙ e)))

    -- ---- all instructions

    as_is : (links : List Link) (xs ys ds ws : List (Option Value)) → Left links xs ys → ds ≡ xs → ws ≡ ys → Left links ds ws
    as_is links xs ys ds ws left a b = subst (λ (t : List (Option Value)). Left links t ws) (sym a) (subst (Left links xs) (sym b) left)

    links_keep : (room : Option ℕ) (answer : Plain) (i : Insn) → Fits i → Allows precision room i f → (ds ws : List (Option Value)) (q : ℕ) → Moves room answer i p cs vs q ds ws → Left (links_after precision room i p f) ds ws
    links_keep room answer (Alu bits operation dst source) fit ok ds ws q m =
        let registers = held.1.registers in
        let l = link_in f.links dst in
        let is = computed_true held.0 bits operation (kind_at f dst) (operand_kind f source) l m.0 m.1 m.2 (held_at f.registers cs dst m.0 h m.3) (operand_held law precision f cs source m.1 fit.1 h m.4) (subst (HoldsLink held.0 l) m.3 (registers dst fit.0)) m.5 in
        as_is _ _ vs ds ws (held.0, set_register held.0 f.links cs vs dst _ m.2 held.1 fit.0 (set_of dst fit.0) is) m.7 m.8
    links_keep room answer (Neg bits dst) fit ok ds ws q m = as_is _ _ vs ds ws (freed dst _ fit) m.3 m.4
    links_keep room answer (Mov bits dst source) fit ok ds ws q m = as_is _ _ vs ds ws (moved bits source dst m.0 m.1 fit.0 fit.1 m.2 m.3) m.5 m.6
    links_keep room answer (MovSigned extension dst src) fit ok ds ws q m = as_is _ _ vs ds ws (extended_true extension src dst m.0 fit.1 fit.0 m.1) m.3 m.4
    links_keep room answer (End order width dst) fit ok ds ws q m = as_is _ _ vs ds ws (freed dst _ fit) m.3 m.4
    links_keep room answer (LoadWide dst value) fit ok ds ws q m = as_is _ _ vs ds ws (freed dst _ fit.0) m.1 m.2
    links_keep room answer (Load width dst base offset) fit ok ds ws q m =
        let x = kind_at f base in
        let loads = m.4 in
        as_is _ _ vs ds ws
        (loaded (accessed_slot precision f x (extended offset) (byte_count width)) dst m.2 fit.0
        (λ j e. loads.whole j (known_is f vs long x (extended offset) m.0 m.1 (byte_count width) j (extended_small16 law precision offset fit.2) (fits_at f.registers base fits) (held_at f.registers cs base _ h m.3) ok.0 e))) m.6 m.7
    links_keep room answer (LoadSigned width dst base offset) fit ok ds ws q m = as_is _ _ vs ds ws (freed dst _ fit.0) m.6 m.7
    links_keep room answer (Store width base offset source) fit ok ds ws q m =
        let x = kind_at f base in
        let w = byte_count width in
        let stores = m.5 in
        let small = extended_small16 law precision offset fit.1 in
        let fit_base = fits_at f.registers base fits in
        let held_base = held_at f.registers cs base _ h m.3 in
        as_is _ cs ws ds ws
        (stored_true (accessed_slot precision f x (extended offset) w) (access_span (stack_place precision x (extended offset)) w) source m.2 ws fit.2 m.4
        (λ none j out. stores.others j (unreached x (extended offset) m.0 m.1 w j small fit_base held_base ok.0 out))
        (store_whole x (extended offset) w m.0 m.1 m.2 ws small fit_base held_base ok.0 stores)) m.7 refl
    links_keep room answer (Jump offset) fit ok ds ws q m = as_is f.links cs vs ds ws held m.1 m.2
    links_keep room answer (JumpLong distance) fit ok ds ws q m = as_is f.links cs vs ds ws held m.1 m.2
    links_keep room answer (Branch bits comparison dst source offset) fit ok ds ws q m = as_is f.links cs vs ds ws held m.5 m.6
    links_keep room answer (Call helper) fit ok ds ws q m = as_is _ _ ws ds ws (called room m.0 ws ok m.4) m.3 refl
    links_keep room answer (CallLocal distance) fit ok ds ws q m = absurd m
    links_keep room answer Exit fit ok ds ws q m = absurd m

  -- links don't matter to what the rules leave
  still_allowed : (room : Option ℕ) (i : Insn) (p : ℕ) (f : PlainFrame) → Allows precision room i f → Allows precision room i (relinked precision room i p f)
  still_allowed room (Alu bits operation dst source) p f ok = ok
  still_allowed room (Neg bits dst) p f ok = ok
  still_allowed room (Mov bits dst source) p f ok = ok
  still_allowed room (MovSigned extension dst src) p f ok = ok
  still_allowed room (End order width dst) p f ok = ok
  still_allowed room (LoadWide dst value) p f ok = ok
  still_allowed room (Load width dst base offset) p f ok = ok
  still_allowed room (LoadSigned width dst base offset) p f ok = ok
  still_allowed room (Store width base offset source) p f ok = ok
  still_allowed room (Jump offset) p f ok = ok
  still_allowed room (JumpLong distance) p f ok = ok
  still_allowed room (Branch bits comparison dst source offset) p f ok = ok
  still_allowed room (Call helper) p f ok = room_allowed room ok
    where
      room_allowed : (o : Option ℕ) → AllowsRoom o f → AllowsRoom o (relinked precision room (Call helper) p f)
      room_allowed None ok = ok
      room_allowed (Some k) ok = ok
  still_allowed room (CallLocal distance) p f ok = ok
  still_allowed room Exit p f ok = ok

  pub keeps : (f : PlainFrame) → EachFits f.registers → length f.registers ≡ 11 → (room : Option ℕ) (answer : Plain) (i : Insn) (p : ℕ) → Keeps precision room answer i p f
  keeps f fits eleven room answer i p fit ok below cs ds vs ws q long h sl held m =
      edges_keep law precision (relinked precision room i p f) fits eleven room answer i p fit (still_allowed room i p f ok) cs ds vs ws q long h sl (links_keep f fits eleven p below cs vs long h sl held room answer i fit ok ds ws q m) m
