-- A node holds a new list in its interval: the view stays sound, and nothing is lost.
use Rattle.std.proofs.Common.{◌≡◌, ℕ, ◌<◌, ◌≤◌, true, cond, ◌&&◌, eqb, List, [], Some, ◌⊎◌, inl, inr, sym, ◌∙◌, refl, ap, subst, arith}
use Rattle.std.proofs.lemmas.Option.{same_Some}
use mathlib.Core.List.{IsPrefix}
use Rattle.placement.specs.Placement.{has}
use Rattle.pg_log.specs.Requests.{ClientRequest}
use Rattle.group_world.proofs.Lists.{prefix_refl, prefix_trans, prefix_same, cell_cases, spot_cases}
use Rattle.group_world.proofs.View.{View, acting, first, HeldFrom, Covered, Within, Proper, HeldBy, Sound, Later, covered_later, held_from_later}
use Rattle.group_world.proofs.Moves.{proper_later, made_later}

-- a node holds a list in its interval: it adopts, installs or appends
abbrev pub hold_view : View → ℕ → List ClientRequest → List ClientRequest → View
hold_view v n xs b = record {
  classes = v.classes;
  newest = v.newest;
  map_at = v.map_at;
  active = v.active;
  at = v.at;
  held = λ e k. cond (eqb e (v.at n) && eqb k n) (Some xs) (v.held e k);
  base = λ e. cond (eqb e (v.at n)) b (v.base e);
  asked = v.asked;
}

pub record Holds (v : View) (n : ℕ) (xs b : List ClientRequest) : Type 0 where
  pub made : 1 ≤ v.at n
  pub acts : has n (acting v (v.at n)) ≡ true
  pub grows : (ys : List ClientRequest) → v.held (v.at n) n ≡ Some ys → IsPrefix ys xs
  pub base_kept : (ys : List ClientRequest) → v.held (v.at n) (first v (v.at n)) ≡ Some ys → b ≡ v.base (v.at n)
  -- it is the primary, or holds no more than the primary does
  pub top : (n ≡ first v (v.at n)) ⊎ HeldFrom v (v.at n) (first v (v.at n)) xs
  pub above : IsPrefix b xs
  pub covered : (a : ℕ) → v.active a ≡ true → a < v.at n → Covered v a b
  pub proper : Proper v xs

pub hold_later : (v : View) (n : ℕ) (xs b : List ClientRequest) → Holds v n xs b → Later v (hold_view v n xs b)
hold_later v n xs b p = record {
  classes = refl;
  newest = omega arith;
  maps = λ e h. refl;
  active = λ a h. h;
  activated = λ a h. inl h;
  at = λ k. omega arith;
  held = λ e k ys h. elim (cell_cases e (v.at n) k n (Some xs) (v.held e k)) [
    | inl c ↦ record { list = xs; held = c.2; begins = p.grows ys (sym (λ i. v.held (c.0 i) (c.1 i)) ∙ h) }
    | inr c ↦ record { list = ys; held = c.1 ∙ h; begins = prefix_refl ys }
  ];
  frozen = λ e k h. elim (cell_cases e (v.at n) k n (Some xs) (v.held e k)) [
    | inl c ↦ absurd (let z : v.at k ≡ v.at n = ap v.at c.1 in let y : e ≡ v.at n = c.0 in omega arith)
    | inr c ↦ c.1
  ];
  base = λ e ys h. elim (spot_cases e (v.at n) b (v.base e)) [
    | inl c ↦ c.1 ∙ p.base_kept ys (sym (ap (λ k. v.held k (first v k)) c.0) ∙ h) ∙ sym (ap v.base c.0)
    | inr c ↦ c.1
  ];
  asked = λ r h. h;
}

pub hold_sound : (v : View) (n : ℕ) (xs b : List ClientRequest) → Sound v → Holds v n xs b → Sound (hold_view v n xs b)
hold_sound v n xs b s p =
    let w : View = hold_view v n xs b in
    let l : Later v (hold_view v n xs b) = hold_later v n xs b p in
    let base_at : (e : ℕ) → e ≡ v.at n → (hold_view v n xs b).base e ≡ b = λ e z.
    elim (spot_cases e (v.at n) b (v.base e)) [ inl c ↦ c.1 | inr c ↦ absurd (c.0 z) ] in
    record {
      log = s.log;
      made = λ e k h. made_later v (hold_view v n xs b) e l h (s.made e k h);
      active_made = s.active_made;
      at_made = s.at_made;
      held_by = λ e k ys h. elim (cell_cases e (v.at n) k n (Some xs) (v.held e k)) [
        | inl c ↦ (let z : e ≡ v.at n = c.0 in let y : v.at k ≡ v.at n = ap v.at c.1 in let o : 1 ≤ v.at n = p.made in
            record { made = omega arith; there = omega arith; acts = (λ i. has (c.1 i) (acting v (c.0 i))) ∙ p.acts })
        | inr c ↦ (let o : HeldBy v e k = s.held_by e k ys (sym c.1 ∙ h) in record { made = o.made; there = o.there; acts = o.acts })
      ];
      held_within = λ e k ys h. elim (cell_cases e (v.at n) k n (Some xs) (v.held e k)) [
        | inl c ↦
            (let same : ys ≡ xs = same_Some _ _ (sym h ∙ c.2) in
            let above : IsPrefix ((hold_view v n xs b).base e) ys = subst (λ x. IsPrefix x ys) (sym (base_at e c.0)) (prefix_same _ _ _ (sym same) p.above) in
            let r : Within (hold_view v n xs b) e ys = elim p.top [
              | inl f ↦ record {
                firsts = ys;
                held = ap (λ x. (hold_view v n xs b).held e x) (sym (c.1 ∙ f ∙ ap (λ x. first v x) (sym c.0))) ∙ h;
                below = prefix_refl ys;
                above = above;
              }
              | inr f ↦
                  (let g : HeldFrom (hold_view v n xs b) e (first v e) xs = held_from_later v (hold_view v n xs b) e (first v e) xs l
                  (subst (λ x. HeldFrom v x (first v x) xs) (sym c.0) f) in
                  record {
                    firsts = g.list;
                    held = g.held;
                    below = subst (λ x. IsPrefix x g.list) (sym same) g.begins;
                    above = above;
                  })
            ] in r)
        | inr c ↦
            (let o : Within v e ys = s.held_within e k ys (sym c.1 ∙ h) in
            let g : HeldFrom (hold_view v n xs b) e (first v e) o.firsts = l.held e (first v e) o.firsts o.held in
            record {
              firsts = g.list;
              held = g.held;
              below = prefix_trans _ _ _ o.below g.begins;
              above = subst (λ x. IsPrefix x ys) (sym (l.base e o.firsts o.held)) o.above;
            })
      ];
      active_held = λ a m h acts. held_from_later v (hold_view v n xs b) a m [] l (s.active_held a m h acts);
      covered = λ a e ys h lt top. elim (spot_cases e (v.at n) b (v.base e)) [
        | inl c ↦ subst (λ x. Covered (hold_view v n xs b) a x) (sym c.1)
            (covered_later v (hold_view v n xs b) a b s l (p.covered a h (let z : e ≡ v.at n = c.0 in omega arith)))
        | inr c ↦ elim (cell_cases e (v.at n) (first v e) n (Some xs) (v.held e (first v e))) [
          | inl d ↦ absurd (c.0 d.0)
          | inr d ↦ subst (λ x. Covered (hold_view v n xs b) a x) (sym c.1)
              (covered_later v (hold_view v n xs b) a (v.base e) s l (s.covered a e ys h lt (sym d.1 ∙ top)))
        ]
      ];
      proper = λ e k ys h. elim (cell_cases e (v.at n) k n (Some xs) (v.held e k)) [
        | inl c ↦ proper_later v (hold_view v n xs b) ys l (subst (λ x. Proper v x) (same_Some _ _ (sym c.2 ∙ h)) p.proper)
        | inr c ↦ proper_later v (hold_view v n xs b) ys l (s.proper e k ys (sym c.1 ∙ h))
      ];
    }
