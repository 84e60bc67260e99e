-- At which slots instructions begin.
use Rattle.std.proofs.Common.{◌≡◌, ◌∙◌, ℕ, suc, ◌+◌, ◌-◌, ◌<◌, ◌≤◌, Bool, true, false, List, [], ◌∷◌, ◌++◌, length, get_or, take, drop, refl, sym, ap, arith, inl, inr}
use Rattle.std.specs.Prelude.{◌⊎◌}
use Rattle.std.proofs.lemmas.Bool.{cases_lt}
use Rattle.std.proofs.lemmas.List.{drop_more, drop_all}
use Rattle.std.proofs.lemmas.List.Concat.{flat_map-cons}
use Rattle.bpf_decode.specs.declared.insn.Insn.{Insn}
use Rattle.bpf_decode.specs.declared.insn.Insn.TheVariants as insns
use Rattle.bpf_decode.specs.Instruction.{slot_count}
use Rattle.bpf_decode.specs.Class.{begins, starts}

-- one slot or two
pub one_or_two : (i : Insn) → ((slot_count i ≡ 1) × (begins i ≡ true ∷ [])) ⊎ ((slot_count i ≡ 2) × (begins i ≡ true ∷ false ∷ []))
one_or_two (insns.Alu bits operation dst source) = inl (refl, refl)
one_or_two (insns.Neg bits dst) = inl (refl, refl)
one_or_two (insns.Mov bits dst source) = inl (refl, refl)
one_or_two (insns.MovSigned extension dst src) = inl (refl, refl)
one_or_two (insns.End order width dst) = inl (refl, refl)
one_or_two (insns.LoadWide dst value) = inr (refl, refl)
one_or_two (insns.Load width dst base offset) = inl (refl, refl)
one_or_two (insns.LoadSigned width dst base offset) = inl (refl, refl)
one_or_two (insns.Store width base offset source) = inl (refl, refl)
one_or_two (insns.Jump offset) = inl (refl, refl)
one_or_two (insns.JumpLong distance) = inl (refl, refl)
one_or_two (insns.Branch bits comparison dst source offset) = inl (refl, refl)
one_or_two (insns.Call helper) = inl (refl, refl)
one_or_two (insns.CallLocal distance) = inl (refl, refl)
one_or_two insns.Exit = inl (refl, refl)

-- what begins at a slot is told by the instructions from the k-th on, which stands at the slot `at`
pub record Tells (is : List Insn) (k at slot : ℕ) : Type 0 where
  pub near : at ≤ slot → get_or (starts is) slot false ≡ get_or (starts (drop k is)) (slot - at) false
  pub past : slot < at → get_or (starts is) slot false ≡ false
  pub few : at ≤ slot + 1

pub tells_first : (is : List Insn) (slot : ℕ) → Tells is 0 0 slot
tells_first is slot =
    let same : slot - 0 ≡ slot = omega arith in
    record { near = λ h. ap (λ (n : ℕ). get_or (starts is) n false) (sym same); past = λ h. absurd (omega (arith, h)); few = omega arith }

here : (is : List Insn) (k : ℕ) (i : Insn) → k < length is → i ≡ get_or is k i → drop k is ≡ i ∷ drop (k + 1) is
here is k i lt e = drop_more is k i lt ∙ ap (λ (x : Insn). x ∷ drop (k + 1) is) (sym e)

at_first : (i : Insn) (js : List Insn) → get_or (starts (i ∷ js)) 0 false ≡ true
at_first i js = ap (λ (l : List Bool). get_or l 0 false) (flat_map-cons begins i js)

pub tells_here : (is : List Insn) (k at slot : ℕ) (i : Insn) → k < length is → i ≡ get_or is k i → at ≡ slot → Tells is k at slot → get_or (starts is) slot false ≡ true
tells_here is k at slot i lt e same t =
    let none : slot - at ≡ 0 = omega (arith, same) in
    t.near (omega (arith, same)) ∙ ap (λ (n : ℕ). get_or (starts (drop k is)) n false) none ∙ ap (λ (js : List Insn). get_or (starts js) 0 false) (here is k i lt e) ∙ at_first i (drop (k + 1) is)

behind_one : (i : Insn) (js : List Insn) (n : ℕ) → begins i ≡ true ∷ [] → get_or (starts (i ∷ js)) (suc n) false ≡ get_or (starts js) n false
behind_one i js n e = ap (λ (l : List Bool). get_or l (suc n) false) (flat_map-cons begins i js ∙ ap (λ (l : List Bool). l ++ starts js) e)

behind_two : (i : Insn) (js : List Insn) (n : ℕ) → begins i ≡ true ∷ false ∷ [] → get_or (starts (i ∷ js)) (suc (suc n)) false ≡ get_or (starts js) n false
behind_two i js n e = ap (λ (l : List Bool). get_or l (suc (suc n)) false) (flat_map-cons begins i js ∙ ap (λ (l : List Bool). l ++ starts js) e)

in_two : (i : Insn) (js : List Insn) → begins i ≡ true ∷ false ∷ [] → get_or (starts (i ∷ js)) 1 false ≡ false
in_two i js e = ap (λ (l : List Bool). get_or l 1 false) (flat_map-cons begins i js ∙ ap (λ (l : List Bool). l ++ starts js) e)

pub tells_more : (is : List Insn) (k at slot w : ℕ) (i : Insn) → k < length is → i ≡ get_or is k i → at < slot → w ≡ slot_count i → Tells is k at slot → Tells is (k + 1) (at + w) slot
tells_more is k at slot w i lt e below wide t =
    let js = drop (k + 1) is in
    let now : get_or (starts is) slot false ≡ get_or (starts (i ∷ js)) (slot - at) false = t.near (omega (arith, below)) ∙ ap (λ (l : List Insn). get_or (starts l) (slot - at) false) (here is k i lt e) in
    elim (one_or_two i) [
      | inl one ↦
          let n = slot - (at + w) in
          let next : slot - at ≡ suc n = omega (arith, below, wide, one.0) in
          record {
            near = λ h. now ∙ ap (λ (m : ℕ). get_or (starts (i ∷ js)) m false) next ∙ behind_one i js n one.1;
            past = λ h. absurd (omega (arith, h, below, wide, one.0));
            few = omega (arith, below, wide, one.0);
          }
      | inr two ↦
          let n = slot - (at + w) in
          record {
            near = λ h. let next : slot - at ≡ suc (suc n) = omega (arith, h, below, wide, two.0) in now ∙ ap (λ (m : ℕ). get_or (starts (i ∷ js)) m false) next ∙ behind_two i js n two.1;
            past = λ h. let next : slot - at ≡ 1 = omega (arith, h, below, wide, two.0) in now ∙ ap (λ (m : ℕ). get_or (starts (i ∷ js)) m false) next ∙ in_two i js two.1;
            few = omega (arith, below, wide, two.0);
          }
    ]

-- past the last instruction none begins
pub tells_none : (is : List Insn) (k at slot : ℕ) → length is ≤ k → Tells is k at slot → get_or (starts is) slot false ≡ false
tells_none is k at slot all t =
    elim (cases_lt slot at) [
      | inl past ↦ t.past past
      | inr near ↦ t.near near ∙ ap (λ (js : List Insn). get_or (starts js) (slot - at) false) (drop_all k is all)
    ]
