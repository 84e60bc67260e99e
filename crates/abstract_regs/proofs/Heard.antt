-- What a number tells other places is true of them.
use Rattle.std.proofs.Common.{◌≡◌, ℕ, zero, suc, ◌+◌, ◌%◌, ◌^◌, ◌<◌, ◌≤◌, List, [], ◌∷◌, length, Option, Some, None, true, cond, refl, ap, ◌∙◌, sym, subst, arith, IsSomeAnd}
use Rattle.std.specs.Prelude.{◌==◌, ◌&&◌, nat_lt, slice_get}
use Rattle.std.specs.Option.{option_map, option_and_then}
use Rattle.std.proofs.lemmas.Bool.{false≢true, and_parts, eqb-true, eq-eqb, ltb-true, cond_both}
use Rattle.bpf_decode.specs.declared.insn.Operand.{Operand}
use Rattle.bpf_decode.specs.declared.insn.Operand.TheVariants.{Immediate, Register}
use Rattle.bpf_decode.specs.declared.value.Value.{Value}
use Rattle.bpf_decode.specs.declared.value.Value.TheVariants as values
use Rattle.bpf_decode.specs.declared.operation.OpWidth.TheVariants.{Bits64}
use Rattle.bpf_decode.specs.declared.operation.Arithmetic.TheVariants.{Add}
use Rattle.bpf_decode.specs.declared.operation.Comparison.TheVariants.{Equal}
use Rattle.bpf_decode.specs.Instruction.{OperandFits}
use Rattle.abstract_num.specs.declared.precision.Precision.{Precision}
use Rattle.abstract_num.specs.Plain.{Plain, Holds, constant}
use Rattle.abstract_num.specs.Edges.{along, first_of}
use Rattle.abstract_num.specs.Keeping.{HeldIn, HeldInBoth, Fits, ConstantsFit, ConstantHolds, ArithmeticKeeps, TightenKeeps, EdgeKeeps}
use Rattle.abstract_regs.specs.declared.link.Link.{Link}
use Rattle.abstract_regs.specs.declared.link.LinkForm.{LinkForm}
use Rattle.abstract_regs.specs.declared.link.LinkForm.TheVariants.{Unlinked, Whole, Low, Up, Sign}
use Rattle.abstract_regs.specs.Kind.{PlainKind, Unset, Num, Ptr, HoldsKind}
use Rattle.abstract_regs.specs.Link.{is_linked, is_whole, has_low, link_in, HoldsForm, HoldsLink}
use Rattle.abstract_regs.specs.Links.{apart, at_distance, met_number, is_bounded, tell_whole, tell_half, told_number, told_kind, is_named, told_kinds, tell_all, tell_kind, tell, told}
use Rattle.abstract_regs.specs.Frame.{PlainFrame, kind_at, or_unset, HoldsEach}
use Rattle.abstract_regs.specs.Moves.{value_at, operand_in, HoldsLinks}
use Rattle.abstract_regs.proofs.Told.{told_here}
use Rattle.abstract_regs.proofs.Halves.{tell_half_held}

-- the laws of numbers that telling rests on
pub record NumberLaws : Type 0 where
  pub constants_fit : ConstantsFit
  pub constant : ConstantHolds
  pub arithmetic : ArithmeticKeeps
  pub tighten : TightenKeeps
  pub edges : EdgeKeeps

whole_is : (form : LinkForm) (m n : ℕ) → is_whole form ≡ true → HoldsForm form m (Some (values.Num n)) → n ≡ m
whole_is Unlinked m n e h = absurd (false≢true e)
whole_is Whole m n e h = h
whole_is Low m n e h = absurd (false≢true e)
whole_is Up m n e h = absurd (false≢true e)
whole_is Sign m n e h = absurd (false≢true e)

low_is : (form : LinkForm) (m n : ℕ) → has_low form ≡ true → HoldsForm form m (Some (values.Num n)) → n % 2 ^ 32 ≡ m % 2 ^ 32
low_is Unlinked m n e h = absurd (false≢true e)
low_is Whole m n e h = ap (λ x. x % 2 ^ 32) h
low_is Low m n e h = h
low_is Up m n e h = absurd (false≢true e)
low_is Sign m n e h = absurd (false≢true e)

-- no distance between both
apart_none : (d e b : ℕ) → apart d e ≡ 0 → (b + d) % 2 ^ 64 ≡ (b + e) % 2 ^ 64
apart_none d e b h = omega (arith, h)

-- two numbers at distances from one
distance_is : (b d e n v : ℕ) → n ≡ (b + d) % 2 ^ 64 → v ≡ (b + e) % 2 ^ 64 → v ≡ (n + apart d e) % 2 ^ 64
distance_is b d e n v g h = omega (arith, g, h)

-- ---- kinds keep their number

cons_long : (o : Option PlainKind) (r : Option (List PlainKind)) (ys : List PlainKind) (n : ℕ) → ((zs : List PlainKind) → r ≡ Some zs → length zs ≡ n) → option_and_then (λ y. option_map (λ ys. y ∷ ys) r) o ≡ Some ys → length ys ≡ suc n
cons_long None r ys n h e = absurd cc
cons_long (Some y) None ys n h e = absurd cc
cons_long (Some y) (Some zs) ys n h e =
    let same : y ∷ zs ≡ ys = cc in
    sym (ap length same) ∙ ap suc (h zs refl)

pub told_long : (precision : Precision) (z : Plain) (l : Link) (from : ℕ) (links : List Link) (at : ℕ) (xs ys : List PlainKind) → told_kinds precision z l from links at xs ≡ Some ys → length ys ≡ length xs
told_long precision z l from links at [] ys e = let same : [] ≡ ys = cc in sym (ap length same)
told_long precision z l from links at (x ∷ xs) ys e = cons_long (told_here precision z l from links at x) (told_kinds precision z l from links (at + 1) xs) ys (length xs) (λ zs. told_long precision z l from links (at + 1) xs zs) e

-- ---- the numbers

-- a frame that is true of registers and slots, with its links
pub record Stands (cs vs : List (Option Value)) (g : PlainFrame) : Type 0 where
  pub holds : HoldsEach g.registers cs
  pub slots : HoldsEach g.slots vs
  pub links : HoldsLinks g cs vs
  pub eleven : length g.registers ≡ 11

abbrev pub IsLeft : Option PlainFrame → List (Option Value) → List (Option Value) → Type 0
IsLeft o cs vs = IsSomeAnd o (Stands cs vs)

module _ (law : NumberLaws) (precision : Precision) where
  first_held : (o : Option (Plain × Plain)) (v : ℕ) → HeldInBoth o v v → HeldIn (option_map first_of o) v
  first_held None v h = absurd h
  first_held (Some s) v h = h.0

  met_held : (t z : Plain) (v : ℕ) → Holds t v → Holds z v → HeldIn (met_number precision t z) v
  met_held t z v h k = first_held (along precision Bits64 Equal true t z) v (law.edges precision Bits64 Equal true t z v v h k (eq-eqb v v refl))

  meets_held : (t : Plain) (o : Option Plain) (v : ℕ) → Holds t v → HeldIn o v → HeldIn (option_and_then (met_number precision t) o) v
  meets_held t None v h k = absurd k
  meets_held t (Some z) v h k = met_held t z v h k

  distance_held : (z : Plain) (d n v : ℕ) → Fits z → d < 2 ^ 64 → Holds z n → v ≡ (n + d) % 2 ^ 64 → HeldIn (at_distance precision z d) v
  distance_held z d n v fit small h is =
      cond_both (d == 0) (Some z) _ (λ (o : Option Plain). HeldIn o v)
      (λ e. let none = eqb-true d 0 e in let few = h.fits in let same : n ≡ v = omega (arith, none, few, is) in subst (Holds z) same h)
      (λ _. subst (HeldIn _) (sym is) (law.arithmetic precision Bits64 Add z (constant d) fit (law.constants_fit d small) n d h (law.constant d small)))

  whole_held : (z t : Plain) (d n v : ℕ) → d < 2 ^ 64 → Holds z n → Holds t v → v ≡ (n + d) % 2 ^ 64 → HeldIn (tell_whole precision z d t) v
  whole_held z t d n v small h k is =
      cond_both (is_bounded z) (option_and_then (met_number precision t) (at_distance precision z d)) (Some t) (λ (o : Option Plain). HeldIn o v)
      (λ e.
      let both = and_parts (nat_lt z.high (2 ^ 64)) (nat_lt z.unknown (2 ^ 64)) e in
      let fit : Fits z = record { high = ltb-true z.high (2 ^ 64) both.0; unknown = ltb-true z.unknown (2 ^ 64) both.1 } in
      meets_held t (at_distance precision z d) v k (distance_held z d n v fit small h is)) (λ _. k)

  apart_small : (d e : ℕ) → apart d e < 2 ^ 64
  apart_small d e = omega arith

  module _ (numbers : ℕ → ℕ) (z : Plain) (l : Link) (n : ℕ) (held : Holds z n) (is : HoldsLink numbers l (Some (values.Num n))) where
    number_held : (m : Link) (t : Plain) (v : ℕ) → l.name ≡ m.name → Holds t v → HoldsLink numbers m (Some (values.Num v)) → HeldIn (told_number precision z l m t) v
    number_held m t v name h k =
        let d = apart l.distance m.distance in
        cond_both (is_whole l.form && is_whole m.form) (tell_whole precision z d t) (cond ((d == 0) && has_low m.form) (tell_half precision l.form z t) (Some t)) (λ (o : Option Plain). HeldIn o v)
        (λ e.
        let both = and_parts (is_whole l.form) (is_whole m.form) e in
        let here : n ≡ (numbers l.name + l.distance) % 2 ^ 64 = whole_is l.form _ n both.0 is in
        let there : v ≡ (numbers l.name + m.distance) % 2 ^ 64 = whole_is m.form _ v both.1 k ∙ ap (λ j. (numbers j + m.distance) % 2 ^ 64) (sym name) in
        whole_held z t d n v (apart_small l.distance m.distance) held h (distance_is (numbers l.name) l.distance m.distance n v here there))
        (λ _. cond_both ((d == 0) && has_low m.form) (tell_half precision l.form z t) (Some t) (λ (o : Option Plain). HeldIn o v)
        (λ e.
        let both = and_parts (d == 0) (has_low m.form) e in
        let same = apart_none l.distance m.distance (numbers l.name) (eqb-true d 0 both.0) in
        let low = low_is m.form _ v both.1 k ∙ ap (λ j. (numbers j + m.distance) % 2 ^ 64 % 2 ^ 32) (sym name) ∙ ap (λ x. x % 2 ^ 32) (sym same) in
        tell_half_held law.tighten precision l.form ((numbers l.name + l.distance) % 2 ^ 64) z t n v held h is low)
        (λ _. h))

    num_left : (o : Option Plain) (v : ℕ) → HeldIn o v → IsSomeAnd (option_map Num o) (λ y. HoldsKind y (Some (values.Num v)))
    num_left None v h = h
    num_left (Some k) v h = h

    kind_held : (m : Link) (x : PlainKind) (c : Option Value) → l.name ≡ m.name → HoldsKind x c → HoldsLink numbers m c → IsSomeAnd (told_kind precision z l m x) (λ y. HoldsKind y c)
    kind_held m Unset c name h k = tt
    kind_held m (Num t) None name h k = absurd h
    kind_held m (Num t) (Some (values.Num v)) name h k = num_left (told_number precision z l m t) v (number_held m t v name h k)
    kind_held m (Num t) (Some (values.Ptr r at)) name h k = absurd h
    kind_held m (Ptr r t) c name h k = h

    here_held : (from at : ℕ) (m : Link) (x : PlainKind) (c : Option Value) → HoldsKind x c → HoldsLink numbers m c → IsSomeAnd (cond (is_named l from at m) (told_kind precision z l m x) (Some x)) (λ y. HoldsKind y c)
    here_held from at m x c h k =
        cond_both (is_named l from at m) (told_kind precision z l m x) (Some x) (λ (o : Option PlainKind). IsSomeAnd o (λ y. HoldsKind y c))
        (λ e.
        let one = and_parts (is_linked m.form) _ e in
        let two = and_parts (l.name == m.name) _ one.1 in
        kind_held m x c (eqb-true l.name m.name two.0) h k) (λ _. h)

    cons_held : (o : Option PlainKind) (r : Option (List PlainKind)) (c : Option Value) (cs : List (Option Value)) → IsSomeAnd o (λ y. HoldsKind y c) → IsSomeAnd r (λ ys. HoldsEach ys cs) → IsSomeAnd (option_and_then (λ y. option_map (λ ys. y ∷ ys) r) o) (λ ys. HoldsEach ys (c ∷ cs))
    cons_held None r c cs h k = absurd h
    cons_held (Some y) None c cs h k = absurd k
    cons_held (Some y) (Some ys) c cs h k = (h, k)

    kinds_held : (from : ℕ) (links : List Link) (at : ℕ) (xs : List PlainKind) (cs : List (Option Value)) → HoldsEach xs cs → ((i : ℕ) → i < length xs → HoldsLink numbers (link_in links (at + i)) (value_at cs i)) → IsSomeAnd (told_kinds precision z l from links at xs) (λ ys. HoldsEach ys cs)
    kinds_held from links at [] cs h k = tt
    kinds_held from links at (x ∷ xs) [] h k = absurd h
    kinds_held from links at (x ∷ xs) (c ∷ cs) h k =
        let here : at + 0 ≡ at = omega arith in
        cons_held (told_here precision z l from links at x) (told_kinds precision z l from links (at + 1) xs) c cs
        (here_held from at (link_in links at) x c h.0 (subst (λ p. HoldsLink numbers (link_in links p) c) here (k 0 (omega arith))))
        (kinds_held from links (at + 1) xs cs h.1 (λ i lt. let next : at + suc i ≡ at + 1 + i = omega arith in subst (λ p. HoldsLink numbers (link_in links p) (value_at cs i)) next (k (suc i) (omega (arith, lt)))))

  -- ---- frames

  all_left : (f : PlainFrame) (cs vs : List (Option Value)) (o u : Option (List PlainKind)) → HoldsLinks f cs vs → IsSomeAnd o (λ ys. HoldsEach ys cs) → IsSomeAnd u (λ ys. HoldsEach ys vs) → ((ys : List PlainKind) → o ≡ Some ys → length ys ≡ 11) → IsLeft (option_and_then (λ xs. option_map (λ ys. record { registers = xs; slots = ys; links = f.links }) u) o) cs vs
  all_left f cs vs None u h a b e = absurd a
  all_left f cs vs (Some xs) None h a b e = absurd b
  all_left f cs vs (Some xs) (Some ys) h a b e = record { holds = a; slots = b; links = h; eleven = e xs refl }

  all_held : (f : PlainFrame) (cs vs : List (Option Value)) (r n : ℕ) (z : Plain) → Stands cs vs f → r ≤ 10 → value_at cs r ≡ Some (values.Num n) → Holds z n → IsLeft (tell_all precision z (link_in f.links r) r f) cs vs
  all_held f cs vs r n z h le at held =
      let numbers = h.links.0 in
      let are = h.links.1 in
      let l = link_in f.links r in
      let eleven = h.eleven in
      let is : HoldsLink numbers l (Some (values.Num n)) = subst (HoldsLink numbers l) at (are.registers r le) in
      all_left f cs vs (told_kinds precision z l r f.links 0 f.registers) (told_kinds precision z l r f.links 11 f.slots) h.links
      (kinds_held numbers z l n held is r f.links 0 f.registers cs h.holds (λ i lt. let here : i ≡ 0 + i = omega arith in subst (λ p. HoldsLink numbers (link_in f.links p) (value_at cs i)) here (are.registers i (omega (arith, lt, eleven)))))
      (kinds_held numbers z l n held is r f.links 11 f.slots vs h.slots (λ i lt. are.slots i))
      (λ ys e. told_long precision z l r f.links 0 f.registers ys e ∙ eleven)

  kind_told : (f : PlainFrame) (cs vs : List (Option Value)) (r n : ℕ) (x : PlainKind) → Stands cs vs f → r ≤ 10 → value_at cs r ≡ Some (values.Num n) → HoldsKind x (Some (values.Num n)) → IsLeft (tell_kind precision x r f) cs vs
  kind_told f cs vs r n Unset h le at held = h
  kind_told f cs vs r n (Num z) h le at held =
      cond_both (is_linked (link_in f.links r).form) (tell_all precision z (link_in f.links r) r f) (Some f) (λ (o : Option PlainFrame). IsLeft o cs vs)
      (λ _. all_held f cs vs r n z h le at held) (λ _. h)
  kind_told f cs vs r n (Ptr q k) h le at held = h

  -- a register that is set has a value of its kind
  register_held : (xs : List PlainKind) (cs : List (Option Value)) (r : ℕ) (v : Value) → HoldsEach xs cs → value_at cs r ≡ Some v → HoldsKind (or_unset (slice_get xs r)) (Some v)
  register_held [] cs r v h e = tt
  register_held (x ∷ xs) [] r v h e = absurd h
  register_held (x ∷ xs) (c ∷ cs) zero v h e = subst (HoldsKind x) e h.0
  register_held (x ∷ xs) (c ∷ cs) (suc r) v h e = register_held xs cs r v h.1 e

  tell_held : (f : PlainFrame) (cs vs : List (Option Value)) (r n : ℕ) → Stands cs vs f → r ≤ 10 → value_at cs r ≡ Some (values.Num n) → IsLeft (tell precision r f) cs vs
  unfolding tell
  tell_held f cs vs r n h le at = kind_told f cs vs r n (kind_at f r) h le at (register_held f.registers cs r (values.Num n) h.holds at)

  then_held : (o : Option PlainFrame) (cs vs : List (Option Value)) (r n : ℕ) → IsLeft o cs vs → r ≤ 10 → value_at cs r ≡ Some (values.Num n) → IsLeft (option_and_then (tell precision r) o) cs vs
  then_held None cs vs r n h le at = absurd h
  then_held (Some f) cs vs r n h le at = tell_held f cs vs r n h le at

  told_held : (f : PlainFrame) (cs vs : List (Option Value)) (dst : ℕ) (source : Operand) (m n : ℕ) → Stands cs vs f → dst ≤ 10 → OperandFits source → value_at cs dst ≡ Some (values.Num m) → operand_in cs source ≡ Some (values.Num n) → IsLeft (told precision dst source f) cs vs
  unfolding told
  told_held f cs vs dst (Immediate imm) m n h le fit at is = tell_held f cs vs dst m h le at
  told_held f cs vs dst (Register src) m n h le fit at is =
      cond_both (dst == src) (tell precision dst f) (option_and_then (tell precision src) (tell precision dst f)) (λ (o : Option PlainFrame). IsLeft o cs vs)
      (λ _. tell_held f cs vs dst m h le at)
      (λ _. then_held (tell precision dst f) cs vs src n (tell_held f cs vs dst m h le at) fit is)

  pub both_told : (o : Option PlainFrame) (cs vs : List (Option Value)) (dst : ℕ) (source : Operand) (m n : ℕ) → IsLeft o cs vs → dst ≤ 10 → OperandFits source → value_at cs dst ≡ Some (values.Num m) → operand_in cs source ≡ Some (values.Num n) → IsLeft (option_and_then (told precision dst source) o) cs vs
  both_told None cs vs dst source m n h le fit at is = absurd h
  both_told (Some f) cs vs dst source m n h le fit at is = told_held f cs vs dst source m n h le fit at is
