-- Each change of a view keeps it sound, and loses nothing.
use Rattle.std.proofs.Common.{◌≡◌, ℕ, ◌<◌, ◌≤◌, true, cond, eqb, leb, List, [], ◌∷◌, ◌++◌, Some, ◌⊎◌, inl, inr, sym, ◌∙◌, refl, ap, subst, arith}
use Rattle.std.specs.List.{Contains, AllByRecursion}
use Rattle.std.proofs.lemmas.List.Elements.{Contains-append_left}
use Rattle.std.proofs.lemmas.Bool.{cond-true, cond-false, cases_lt, le-leb, lt-leb}
use mathlib.Core.List.{IsPrefix}
use Rattle.placement.specs.Placement.{has}
use Rattle.pg_log.specs.Requests.{ClientRequest}
use Rattle.pg_log.specs.Log.{Legal}
use Rattle.group_world.specs.Maps.{GroupMap}
use Rattle.group_world.proofs.Lists.{primary, prefix_refl, spot_cases}
use Rattle.group_world.proofs.View.{View, of_interval, acting, prev, first, HeldFrom, Covered, IsMade, Within, Proper, HeldBy, Sound, Later, covered_later, held_from_later}

pub brought_later : (v w : View) (xs : List ClientRequest) → Later v w → AllByRecursion (Contains v.asked) xs → AllByRecursion (Contains w.asked) xs
brought_later v w [] l h = h
brought_later v w (x ∷ xs) l h = (l.asked x h.0, brought_later v w xs l h.1)

pub proper_later : (v w : View) (xs : List ClientRequest) → Later v w → Proper v xs → Proper w xs
proper_later v w xs l p = record { is_legal = subst (λ t. Legal t xs) (sym l.classes) p.is_legal; brought = brought_later v w xs l p.brought }

pub made_later : (v w : View) (e : ℕ) → Later v w → e ≤ v.newest → IsMade v e → IsMade w e
made_later v w e l n m =
    let g : w.map_at e ≡ v.map_at e = l.maps e n in
    let p : prev w e ≡ prev v e = ap (λ (x : GroupMap). x.prev) g in
    let b : prev v e < e = m.prev_below in
    let q : w.map_at (prev v e) ≡ v.map_at (prev v e) = l.maps (prev v e) (omega arith) in
    record {
      interval = ap (λ (x : GroupMap). x.interval) g ∙ m.interval;
      first_acts = subst (λ (x : GroupMap). has (primary x) x.acting ≡ true) (sym g) m.first_acts;
      prev_below = omega arith;
      prev_active = subst (λ k. (k ≡ 0) ⊎ (w.active k ≡ true)) (sym p)
          (elim m.prev_active [ inl z ↦ inl z | inr a ↦ inr (l.active (prev v e) a) ]);
      prev_last = λ a h lt. subst (λ k. a ≤ k) (sym p)
          (elim (l.activated a h) [ inl old ↦ m.prev_last a old lt | inr new ↦ absurd (omega arith) ]);
      prev_acting = λ one.
          ap (λ (x : GroupMap). x.prev_acting) g ∙ m.prev_acting (subst (λ k. 1 ≤ k) p one) ∙ sym (ap (λ (x : GroupMap). x.acting) (ap w.map_at p ∙ q));
    }

-- a change that leaves the held lists as they are
pub record Steady (v w : View) : Type 0 where
  pub held : (e n : ℕ) → w.held e n ≡ v.held e n
  pub base : (e : ℕ) → w.base e ≡ v.base e
  pub made : (e : ℕ) → 1 ≤ e → e ≤ w.newest → IsMade w e
  pub active_made : (a : ℕ) → w.active a ≡ true → (1 ≤ a) × (a ≤ w.newest)
  pub at_made : (n : ℕ) → w.at n ≤ w.newest
  pub newly_held : (a m : ℕ) → w.active a ≡ true → v.newest ≤ a → has m (acting w a) ≡ true → HeldFrom w a m []

pub steady_sound : (v w : View) → Sound v → Later v w → Steady v w → Sound w
steady_sound v w s l t =
    let same_map : (e n : ℕ) (xs : List ClientRequest) → v.held e n ≡ Some xs → w.map_at e ≡ v.map_at e = λ e n xs h.
    let b : HeldBy v e n = s.held_by e n xs h in
    let c : v.at n ≤ v.newest = s.at_made n in
    let d : e ≤ v.at n = b.there in
    l.maps e (omega arith) in
    record {
      log = s.log;
      made = t.made;
      active_made = t.active_made;
      at_made = t.at_made;
      held_by = λ e n xs h.
          let old : v.held e n ≡ Some xs = sym (t.held e n) ∙ h in
          let b : HeldBy v e n = s.held_by e n xs old in
          let g : w.map_at e ≡ v.map_at e = same_map e n xs old in
          let d : e ≤ v.at n = b.there in
          let f : v.at n ≤ w.at n = l.at n in
          record { made = b.made; there = omega arith; acts = ap (λ (x : GroupMap). has n x.acting) g ∙ b.acts };
      held_within = λ e n xs h.
          let old : v.held e n ≡ Some xs = sym (t.held e n) ∙ h in
          let b : Within v e xs = s.held_within e n xs old in
          let g : w.map_at e ≡ v.map_at e = same_map e n xs old in
          record {
            firsts = b.firsts;
            held = t.held e (first w e) ∙ ap (λ (x : GroupMap). v.held e (primary x)) g ∙ b.held;
            below = b.below;
            above = subst (λ x. IsPrefix x xs) (sym (t.base e)) b.above;
          };
      active_held = λ a m h acts. elim (l.activated a h) [
        | inl old ↦
            (let g : w.map_at a ≡ v.map_at a = l.maps a (s.active_made a old).1 in
            held_from_later v w a m [] l (s.active_held a m old (sym (ap (λ (x : GroupMap). has m x.acting) g) ∙ acts)))
        | inr new ↦ t.newly_held a m h new acts
      ];
      covered = λ a e xs h lt top.
          let old : v.held e (first w e) ≡ Some xs = sym (t.held e (first w e)) ∙ top in
          let g : w.map_at e ≡ v.map_at e = same_map e (first w e) xs old in
          let b : HeldBy v e (first w e) = s.held_by e (first w e) xs old in
          let c : v.at (first w e) ≤ v.newest = s.at_made (first w e) in
          let d : e ≤ v.at (first w e) = b.there in
          let was : v.held e (first v e) ≡ Some xs = sym (ap (λ (x : GroupMap). v.held e (primary x)) g) ∙ old in
          elim (l.activated a h) [
            | inl now ↦ subst (λ x. Covered w a x) (sym (t.base e)) (covered_later v w a (v.base e) s l (s.covered a e xs now lt was))
            | inr new ↦ absurd (omega arith)
          ];
      proper = λ e n xs h. proper_later v w xs l (s.proper e n xs (sym (t.held e n) ∙ h));
    }

-- a node moves to an interval
abbrev pub move_view : View → ℕ → ℕ → View
move_view v n e = record {
  classes = v.classes;
  newest = v.newest;
  map_at = v.map_at;
  active = v.active;
  at = λ k. cond (eqb k n) e (v.at k);
  held = v.held;
  base = v.base;
  asked = v.asked;
}

pub move_later : (v : View) (n e : ℕ) → v.at n < e → Later v (move_view v n e)
move_later v n e lt = record {
  classes = refl;
  newest = omega arith;
  maps = λ k h. refl;
  active = λ a h. h;
  activated = λ a h. inl h;
  at = λ k. elim (spot_cases k n e (v.at k)) [
    | inl p ↦ (let z : v.at k ≡ v.at n = ap v.at p.0 in let y : cond (eqb k n) e (v.at k) ≡ e = p.1 in omega arith)
    | inr p ↦ (let y : cond (eqb k n) e (v.at k) ≡ v.at k = p.1 in omega arith)
  ];
  held = λ k m xs h. record { list = xs; held = h; begins = prefix_refl xs };
  frozen = λ k m h. refl;
  base = λ k xs h. refl;
  asked = λ r h. h;
}

pub move_sound : (v : View) (n e : ℕ) → Sound v → v.at n < e → e ≤ v.newest → Sound (move_view v n e)
move_sound v n e s lt new =
    let l : Later v (move_view v n e) = move_later v n e lt in
    steady_sound v (move_view v n e) s l (record {
      held = λ k m. refl;
      base = λ k. refl;
      made = λ k one h. made_later v (move_view v n e) k l h (s.made k one h);
      active_made = s.active_made;
      at_made = λ k. elim (spot_cases k n e (v.at k)) [
        | inl p ↦ (let y : cond (eqb k n) e (v.at k) ≡ e = p.1 in omega arith)
        | inr p ↦ (let y : cond (eqb k n) e (v.at k) ≡ v.at k = p.1 in let z : v.at k ≤ v.newest = s.at_made k in omega arith)
      ];
      newly_held = λ a m h _ acts. held_from_later v (move_view v n e) a m [] l (s.active_held a m h acts);
    })

-- the monitor begins an interval; the skipped intervals count as made with the same map
abbrev pub map_view : View → GroupMap → View
map_view v m = record {
  classes = v.classes;
  newest = m.interval;
  map_at = λ e. cond (leb e v.newest) (v.map_at e) (record (of_interval m) { interval = e });
  active = v.active;
  at = v.at;
  held = v.held;
  base = v.base;
  asked = v.asked;
}

pub record Makes (v : View) (m : GroupMap) : Type 0 where
  pub interval : v.newest < m.interval
  pub first_acts : has (primary m) m.acting ≡ true
  pub prev_made : m.prev ≤ v.newest
  pub prev_active : (m.prev ≡ 0) ⊎ (v.active m.prev ≡ true)
  pub prev_last : (a : ℕ) → v.active a ≡ true → a ≤ m.prev
  pub prev_acting : 1 ≤ m.prev → m.prev_acting ≡ acting v m.prev

pub map_later : (v : View) (m : GroupMap) → v.newest < m.interval → Later v (map_view v m)
map_later v m new = record {
  classes = refl;
  newest = omega arith;
  maps = λ e h. cond-true (leb e v.newest) (v.map_at e) (record (of_interval m) { interval = e }) (le-leb e v.newest h);
  active = λ a h. h;
  activated = λ a h. inl h;
  at = λ k. omega arith;
  held = λ k n xs h. record { list = xs; held = h; begins = prefix_refl xs };
  frozen = λ k n h. refl;
  base = λ k xs h. refl;
  asked = λ r h. h;
}

pub map_at_new : (v : View) (m : GroupMap) (e : ℕ) → v.newest < e → (map_view v m).map_at e ≡ record (of_interval m) { interval = e }
map_at_new v m e h = cond-false (leb e v.newest) (v.map_at e) (record (of_interval m) { interval = e }) (lt-leb e v.newest h)

pub map_sound : (v : View) (m : GroupMap) → Sound v → Makes v m → Sound (map_view v m)
map_sound v m s k =
    let ep : v.newest < m.interval = k.interval in
    let l : Later v (map_view v m) = map_later v m ep in
    let new : (e : ℕ) → v.newest < e → IsMade (map_view v m) e = λ e z.
    let g : (map_view v m).map_at e ≡ record (of_interval m) { interval = e } = map_at_new v m e z in
    let pm : m.prev ≤ v.newest = k.prev_made in
    let p : prev (map_view v m) e ≡ m.prev = ap (λ (x : GroupMap). x.prev) g in
    record {
      interval = ap (λ (x : GroupMap). x.interval) g;
      first_acts = subst (λ (x : GroupMap). has (primary x) x.acting ≡ true) (sym g) k.first_acts;
      prev_below = omega arith;
      prev_active = subst (λ j. (j ≡ 0) ⊎ (v.active j ≡ true)) (sym p) k.prev_active;
      prev_last = λ a h lt. subst (λ j. a ≤ j) (sym p) (k.prev_last a h);
      prev_acting = λ one. ap (λ (x : GroupMap). x.prev_acting) g ∙ k.prev_acting (subst (λ j. 1 ≤ j) p one)
          ∙ sym (ap (λ (x : GroupMap). x.acting) (ap (map_view v m).map_at p ∙ l.maps m.prev pm));
    } in
    steady_sound v (map_view v m) s l (record {
      held = λ e n. refl;
      base = λ e. refl;
      made = λ e one h. elim (cases_lt v.newest e) [
        | inl z ↦ new e z
        | inr le ↦ made_later v (map_view v m) e l le (s.made e one le)
      ];
      active_made = λ a h. let p : (1 ≤ a) × (a ≤ v.newest) = s.active_made a h in omega arith;
      at_made = λ n. let p : v.at n ≤ v.newest = s.at_made n in omega arith;
      newly_held = λ a n h ge acts.
          let p : (1 ≤ a) × (a ≤ v.newest) = s.active_made a h in
          held_from_later v (map_view v m) a n [] l (s.active_held a n h (sym (ap (λ (x : GroupMap). has n x.acting) (l.maps a p.1)) ∙ acts));
    })

-- the monitor activates its newest interval
abbrev pub activate_view : View → View
activate_view v = record {
  classes = v.classes;
  newest = v.newest;
  map_at = v.map_at;
  active = λ a. cond (eqb a v.newest) true (v.active a);
  at = v.at;
  held = v.held;
  base = v.base;
  asked = v.asked;
}

pub activate_later : (v : View) → Later v (activate_view v)
activate_later v = record {
  classes = refl;
  newest = omega arith;
  maps = λ e h. refl;
  active = λ a h. elim (spot_cases a v.newest true (v.active a)) [ inl p ↦ p.1 | inr p ↦ p.1 ∙ h ];
  activated = λ a h. elim (spot_cases a v.newest true (v.active a)) [
    | inl p ↦ inr (let z : a ≡ v.newest = p.0 in omega arith)
    | inr p ↦ inl (sym p.1 ∙ h)
  ];
  at = λ k. omega arith;
  held = λ k n xs h. record { list = xs; held = h; begins = prefix_refl xs };
  frozen = λ k n h. refl;
  base = λ k xs h. refl;
  asked = λ r h. h;
}

pub activate_sound : (v : View) → Sound v → 1 ≤ v.newest → ((m : ℕ) → has m (acting v v.newest) ≡ true → HeldFrom v v.newest m []) → Sound (activate_view v)
activate_sound v s one all =
    let l : Later v (activate_view v) = activate_later v in
    steady_sound v (activate_view v) s l (record {
      held = λ e n. refl;
      base = λ e. refl;
      made = λ e k h. made_later v (activate_view v) e l h (s.made e k h);
      active_made = λ a h. elim (spot_cases a v.newest true (v.active a)) [
        | inl p ↦ (let z : a ≡ v.newest = p.0 in omega arith)
        | inr p ↦ s.active_made a (sym p.1 ∙ h)
      ];
      at_made = s.at_made;
      newly_held = λ a m h ge acts. elim (spot_cases a v.newest true (v.active a)) [
        | inl p ↦ held_from_later v (activate_view v) a m [] l
            (subst (λ k. HeldFrom v k m []) (sym p.0) (all m (ap (λ k. has m (acting v k)) (sym p.0) ∙ acts)))
        | inr p ↦ held_from_later v (activate_view v) a m [] l (s.active_held a m (sym p.1 ∙ h) acts)
      ];
    })

-- requests are brought
abbrev pub ask_view : View → List ClientRequest → View
ask_view v rs = record {
  classes = v.classes;
  newest = v.newest;
  map_at = v.map_at;
  active = v.active;
  at = v.at;
  held = v.held;
  base = v.base;
  asked = v.asked ++ rs;
}

pub ask_later : (v : View) (rs : List ClientRequest) → Later v (ask_view v rs)
ask_later v rs = record {
  classes = refl;
  newest = omega arith;
  maps = λ e h. refl;
  active = λ a h. h;
  activated = λ a h. inl h;
  at = λ k. omega arith;
  held = λ k n xs h. record { list = xs; held = h; begins = prefix_refl xs };
  frozen = λ k n h. refl;
  base = λ k xs h. refl;
  asked = λ r h. Contains-append_left v.asked rs r h;
}

pub ask_sound : (v : View) (rs : List ClientRequest) → Sound v → Sound (ask_view v rs)
ask_sound v rs s =
    let l : Later v (ask_view v rs) = ask_later v rs in
    steady_sound v (ask_view v rs) s l (record {
      held = λ e n. refl;
      base = λ e. refl;
      made = λ e k h. made_later v (ask_view v rs) e l h (s.made e k h);
      active_made = s.active_made;
      at_made = s.at_made;
      newly_held = λ a m h _ acts. held_from_later v (ask_view v rs) a m [] l (s.active_held a m h acts);
    })
