-- A view is what a run never loses: the maps, the activated intervals, each node's interval, and
-- the last list that each node held in each interval.
use Rattle.std.proofs.Common.{◌≡◌, ℕ, ◌<◌, ◌≤◌, Bool, true, List, [], Option, Some, ◌⊎◌, inl, inr, sym, ◌∙◌, ap, subst, arith}
use Rattle.std.specs.List.{Contains, AllByRecursion}
use Rattle.std.proofs.lemmas.Option.{same_Some}
use Rattle.std.proofs.lemmas.Bool.{cases_order}
use mathlib.Core.List.{IsPrefix}
use Rattle.placement.specs.Placement.{has}
use Rattle.pg_log.specs.Requests.{ClientRequest}
use Rattle.pg_log.specs.Log.{Classes, Legal}
use Rattle.group_world.specs.Maps.{GroupMap}
use Rattle.group_world.proofs.Lists.{primary, prefix_trans, prefix_same}
use Rattle.group_world.proofs.LogFacts.{LogLaws}

pub record View : Type 0 where
  pub classes : Classes
  -- the newest interval
  pub newest : ℕ
  pub map_at : ℕ → GroupMap
  pub active : ℕ → Bool
  -- each node's interval
  pub at : ℕ → ℕ
  -- the list that the node last held in the interval, once it has adopted or installed
  pub held : ℕ → ℕ → Option (List ClientRequest)
  -- the list that the interval's primary adopted
  pub base : ℕ → List ClientRequest
  pub asked : List ClientRequest

-- the map of an interval, without its epoch
abbrev pub of_interval : GroupMap → GroupMap
of_interval m = record m { epoch = 0 }

abbrev pub acting : View → ℕ → List ℕ
acting v e = (v.map_at e).acting

abbrev pub prev : View → ℕ → ℕ
prev v e = (v.map_at e).prev

abbrev pub first : View → ℕ → ℕ
first v e = primary (v.map_at e)

-- the node holds a list in the interval that begins with this one
pub record HeldFrom (v : View) (e n : ℕ) (front : List ClientRequest) : Type 0 where
  pub list : List ClientRequest
  pub held : v.held e n ≡ Some list
  pub begins : IsPrefix front list

-- a member of the interval has left it, and the list begins with what it held there
pub record Covered (v : View) (a : ℕ) (xs : List ClientRequest) : Type 0 where
  pub member : ℕ
  pub acts : has member (acting v a) ≡ true
  pub left : a < v.at member
  pub from_held : (last : List ClientRequest) × (v.held a member ≡ Some last) × IsPrefix last xs

-- every member of an activated interval holds a list that begins with this one
pub record Chosen (v : View) (a : ℕ) (front : List ClientRequest) : Type 0 where
  pub active : v.active a ≡ true
  pub by_all : (m : ℕ) → has m (acting v a) ≡ true → HeldFrom v a m front

-- what holds of each map that was made
pub record IsMade (v : View) (e : ℕ) : Type 0 where
  pub interval : (v.map_at e).interval ≡ e
  pub first_acts : has (first v e) (acting v e) ≡ true
  pub prev_below : prev v e < e
  pub prev_active : (prev v e ≡ 0) ⊎ (v.active (prev v e) ≡ true)
  pub prev_last : (a : ℕ) → v.active a ≡ true → a < e → a ≤ prev v e
  pub prev_acting : 1 ≤ prev v e → (v.map_at e).prev_acting ≡ acting v (prev v e)

-- a held list begins with what the primary adopted, and begins what the primary holds
pub record Within (v : View) (e : ℕ) (xs : List ClientRequest) : Type 0 where
  pub firsts : List ClientRequest
  pub held : v.held e (first v e) ≡ Some firsts
  pub below : IsPrefix xs firsts
  pub above : IsPrefix (v.base e) xs

pub record Proper (v : View) (xs : List ClientRequest) : Type 0 where
  pub is_legal : Legal v.classes xs
  pub brought : AllByRecursion (Contains v.asked) xs

pub record HeldBy (v : View) (e n : ℕ) : Type 0 where
  pub made : 1 ≤ e
  pub there : e ≤ v.at n
  pub acts : has n (acting v e) ≡ true

pub record Sound (v : View) : Type 0 where
  -- what the log promises, kept here for all steps
  pub log : LogLaws
  pub made : (e : ℕ) → 1 ≤ e → e ≤ v.newest → IsMade v e
  pub active_made : (a : ℕ) → v.active a ≡ true → (1 ≤ a) × (a ≤ v.newest)
  pub at_made : (n : ℕ) → v.at n ≤ v.newest
  pub held_by : (e n : ℕ) (xs : List ClientRequest) → v.held e n ≡ Some xs → HeldBy v e n
  pub held_within : (e n : ℕ) (xs : List ClientRequest) → v.held e n ≡ Some xs → Within v e xs
  pub active_held : (a m : ℕ) → v.active a ≡ true → has m (acting v a) ≡ true → HeldFrom v a m []
  pub covered : (a e : ℕ) (xs : List ClientRequest) → v.active a ≡ true → a < e → v.held e (first v e) ≡ Some xs → Covered v a (v.base e)
  pub proper : (e n : ℕ) (xs : List ClientRequest) → v.held e n ≡ Some xs → Proper v xs

-- what is known is never lost
pub record Later (v w : View) : Type 0 where
  pub classes : w.classes ≡ v.classes
  pub newest : v.newest ≤ w.newest
  pub maps : (e : ℕ) → e ≤ v.newest → w.map_at e ≡ v.map_at e
  pub active : (a : ℕ) → v.active a ≡ true → w.active a ≡ true
  pub activated : (a : ℕ) → w.active a ≡ true → (v.active a ≡ true) ⊎ (v.newest ≤ a)
  pub at : (n : ℕ) → v.at n ≤ w.at n
  pub held : (e n : ℕ) (xs : List ClientRequest) → v.held e n ≡ Some xs → HeldFrom w e n xs
  pub frozen : (e n : ℕ) → e < v.at n → w.held e n ≡ v.held e n
  pub base : (e : ℕ) (xs : List ClientRequest) → v.held e (first v e) ≡ Some xs → w.base e ≡ v.base e
  pub asked : (r : ClientRequest) → Contains v.asked r → Contains w.asked r

-- a covered list stays covered
pub covered_longer : (v : View) (a : ℕ) (xs ys : List ClientRequest) → Covered v a xs → IsPrefix xs ys → Covered v a ys
covered_longer v a xs ys c p = record {
  member = c.member;
  acts = c.acts;
  left = c.left;
  from_held = (c.from_held.0, c.from_held.1, prefix_trans _ _ _ c.from_held.2 p);
}

pub covered_later : (v w : View) (a : ℕ) (xs : List ClientRequest) → Sound v → Later v w → Covered v a xs → Covered w a xs
covered_later v w a xs s l c =
    let n1 : v.at c.member ≤ v.newest = s.at_made c.member in
    let l1 : v.at c.member ≤ w.at c.member = l.at c.member in
    let lt : a < v.at c.member = c.left in
    let e : w.map_at a ≡ v.map_at a = l.maps a (omega arith) in
    record {
      member = c.member;
      acts = ap (λ (m : GroupMap). has c.member m.acting) e ∙ c.acts;
      left = omega arith;
      from_held = (c.from_held.0, l.frozen a c.member c.left ∙ c.from_held.1, c.from_held.2);
    }

pub held_from_later : (v w : View) (e n : ℕ) (front : List ClientRequest) → Later v w → HeldFrom v e n front → HeldFrom w e n front
held_from_later v w e n front l h =
    let k : HeldFrom w e n h.list = l.held e n h.list h.held in
    record { list = k.list; held = k.held; begins = prefix_trans _ _ _ h.begins k.begins }

pub chosen_later : (v w : View) (a : ℕ) (front : List ClientRequest) → Sound v → Later v w → Chosen v a front → Chosen w a front
chosen_later v w a front s l c =
    let made : (1 ≤ a) × (a ≤ v.newest) = s.active_made a c.active in
    let e : w.map_at a ≡ v.map_at a = l.maps a made.1 in
    record {
      active = l.active a c.active;
      by_all = λ m h. held_from_later v w a m front l (c.by_all m (sym (ap (λ (g : GroupMap). has m g.acting) e) ∙ h));
    }

-- a covered list begins with what is chosen
pub chosen_covered : (v : View) (a : ℕ) (front xs : List ClientRequest) → Chosen v a front → Covered v a xs → IsPrefix front xs
chosen_covered v a front xs c d =
    let h : HeldFrom v a d.member front = c.by_all d.member d.acts in
    let e : h.list ≡ d.from_held.0 = same_Some _ _ (sym h.held ∙ d.from_held.1) in
    prefix_trans _ _ _ (prefix_same _ _ _ e h.begins) d.from_held.2

-- the primary of an activated interval holds a list
pub first_holds : (v : View) (a : ℕ) → Sound v → v.active a ≡ true → HeldFrom v a (first v a) []
first_holds v a s h =
    let made : (1 ≤ a) × (a ≤ v.newest) = s.active_made a h in
    s.active_held a (first v a) h (s.made a made.0 made.1).first_acts

-- what each later interval's primary adopted begins with what is chosen in an interval
pub chosen_in_base : (v : View) (a e : ℕ) (front xs : List ClientRequest) → Sound v → Chosen v a front → a < e → v.held e (first v e) ≡ Some xs → IsPrefix front (v.base e)
chosen_in_base v a e front xs s c l h = chosen_covered v a front (v.base e) c (s.covered a e xs c.active l h)

-- what the primary of the last activated interval holds begins with all that is chosen
pub chosen_in_last : (v : View) (a b : ℕ) (front : List ClientRequest) (s : Sound v) → Chosen v a front → (hb : v.active b ≡ true) → a ≤ b → IsPrefix front (first_holds v b s hb).list
chosen_in_last v a b front s c hb l =
    let made : (1 ≤ b) × (b ≤ v.newest) = s.active_made b hb in
    let top : HeldFrom v b (first v b) [] = first_holds v b s hb in
    let within : Within v b top.list = s.held_within b (first v b) top.list top.held in
    let goal : Type 0 = IsPrefix front top.list in
    let same : a ≡ b → goal = λ e.
    let d : Chosen v b front = subst (λ k. Chosen v k front) e c in
    let h : HeldFrom v b (first v b) front = d.by_all (first v b) (s.made b made.0 made.1).first_acts in
    prefix_same _ _ _ (same_Some _ _ (sym h.held ∙ top.held)) h.begins in
    let below : a < b → goal = λ lt.
    prefix_trans _ _ _ (chosen_in_base v a b front top.list s c lt top.held) within.above in
    let r : goal = elim (cases_order a b) [ inl e ↦ same e | inr (inl lt) ↦ below lt | inr (inr gt) ↦ absurd (omega arith) ] in r

-- A list is covered for all intervals below e, if it is covered for those that have the node as a
-- member, and the last activated one is one of them.
pub covered_below : (v : View) (e n : ℕ) (xs : List ClientRequest) → Sound v → 1 ≤ e → e ≤ v.newest → has n (acting v (prev v e)) ≡ true
    → ((a : ℕ) → v.active a ≡ true → has n (acting v a) ≡ true → a < e → Covered v a xs)
    → (a : ℕ) → v.active a ≡ true → a < e → Covered v a xs
covered_below v e n xs s l1 l2 acts below a h l =
    let m : IsMade v e = s.made e l1 l2 in
    let q : ℕ = prev v e in
    let am : (1 ≤ a) × (a ≤ v.newest) = s.active_made a h in
    let aq : a ≤ prev v e = m.prev_last a h l in
    let qb : prev v e < e = m.prev_below in
    let qa : v.active (prev v e) ≡ true = elim m.prev_active [ inl z ↦ absurd (omega arith) | inr y ↦ y ] in
    let c : Covered v (prev v e) xs = below (prev v e) qa acts qb in
    let same : a ≡ prev v e → Covered v a xs = λ z. subst (λ k. Covered v k xs) (sym z) c in
    let less : a < prev v e → Covered v a xs = λ lt.
    let w : Within v (prev v e) c.from_held.0 = s.held_within (prev v e) c.member c.from_held.0 c.from_held.1 in
    covered_longer v a (v.base (prev v e)) xs (s.covered a (prev v e) w.firsts h lt w.held) (prefix_trans _ _ _ w.above c.from_held.2) in
    elim (cases_order a (prev v e)) [ inl z ↦ same z | inr (inl lt) ↦ less lt | inr (inr gt) ↦ absurd (omega arith) ]
