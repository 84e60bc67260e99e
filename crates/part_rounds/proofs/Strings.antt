-- Places among the names of a map: what is held up to the next name, and which name lies before a place.
use Rattle.std.proofs.Common.{◌≡◌, ◌∙◌, inl, inr, ℕ, Bool, true, false, cond, not, List, [], ◌∷◌, ◌++◌, Option, Some, None, is_some, refl, ap, sym, subst, arith}
use Rattle.std.specs.Prelude.{◌⊎◌, if◌then◌else◌}
use Rattle.std.specs.Ordering.{nat_cmp, is_lt, is_eq, eq_by_cmp, ordering_then, ordering_reverse}
use Rattle.std.specs.declared.cmp.Ordering.{Ordering}
use Rattle.std.specs.declared.cmp.Ordering.TheVariants.{Less, Equal, Greater}
use Rattle.std.specs.Cmp.Lexicographic.{slice_cmp}
use Rattle.std.proofs.lemmas.Cmp.{nat_list_cmp_total, nat_cmp_total, tied_itself}
use Rattle.std.proofs.lemmas.Grind.{common_steps}
use Rattle.std.proofs.lemmas.Map.Lookups.{exact_bytes}
use Rattle.std.specs.FinMap as fin
use Rattle.std.specs.FinMap.{find}
use Rattle.shared_map.specs.Entries.{Entries, key_above}
use Rattle.object_store.specs.Object.{Attributes}
use Rattle.part_names.specs.Order.{Interval, is_below, is_held, least_from}
use Rattle.part_names.specs.Answers.{AllHeld}
use Rattle.part_calls.proofs.Least.{stands, below, level, above, below_chain, apart, upto_below, above_is_above, above_is_there}
use Rattle.part_rounds.specs.Rounds.{HoldNext, is_upto, name_from}

-- ---- the order of strings
below_itself : (a : List ℕ) → is_below a a ≡ false
below_itself a = ap is_lt (tied_itself nat_list_cmp_total a)

not_back : (a b : List ℕ) → is_below a b ≡ true → is_below b a ≡ false
not_back a b p = by (is_below b a) refl
  where
    by : (c : Bool) → is_below b a ≡ c → c ≡ false
    by true e = absurd (apart _ (below_chain a b a p e) (below_itself a))
    by false e = refl

-- a < b ≤ c
below_upto : (a b c : List ℕ) → is_below a b ≡ true → is_below c b ≡ false → is_below a c ≡ true
below_upto a b c p q = elim (stands b c) [
  | below h ↦ below_chain a b c p h
  | level e ↦ ap (is_below a) (sym e) ∙ p
  | above h ↦ absurd (apart _ h q)
]

-- a ≤ b ≤ c
upto_upto : (a b c : List ℕ) → is_below b a ≡ false → is_below c b ≡ false → is_below c a ≡ false
upto_upto a b c p q = by (is_below c a) refl
  where
    by : (d : Bool) → is_below c a ≡ d → d ≡ false
    by true e = absurd (apart _ (upto_below b c a q e) p)
    by false e = refl

-- what is from the least string above some bytes on is above these, if it has a byte
next_past : (b a : List ℕ) → is_below a (b ++ 0 ∷ []) ≡ false → is_below b a ≡ true
next_past [] [] h = absurd (cc)
next_past [] (x ∷ a) h = refl
next_past (y ∷ b) [] h = absurd (cc)
next_past (y ∷ b) (x ∷ a) h =
    elim (nat_cmp x y) as (λ r. nat_cmp x y ≡ r → is_lt (ordering_then r (slice_cmp nat_cmp a (b ++ 0 ∷ []))) ≡ false → is_below (y ∷ b) (x ∷ a) ≡ true) [
      | Less ↦ λ e g. absurd (cc)
      | Equal ↦ λ e g. ap (λ r. is_lt (ordering_then r (slice_cmp nat_cmp b a))) (nat_cmp_total.antisymm y x ∙ ap ordering_reverse e) ∙ next_past b a g
      | Greater ↦ λ e g. ap (λ r. is_lt (ordering_then r (slice_cmp nat_cmp b a))) (nat_cmp_total.antisymm y x ∙ ap ordering_reverse e)
    ] refl h

next_is : (b : ℕ) (bytes : List ℕ) → least_from (b ∷ bytes) ≡ (b ∷ bytes) ++ 0 ∷ []
next_is b bytes = grind (arith, common_steps)

pub from_above : (bytes a : List ℕ) → (a ≡ [] → ⊥) → is_below a (least_from bytes) ≡ false → is_below bytes a ≡ true
from_above [] [] n h = absurd (n refl)
from_above [] (x ∷ a) n h = refl
from_above (b ∷ bytes) a n h = next_past (b ∷ bytes) a (ap (is_below a) (sym (next_is b bytes)) ∙ h)

-- ---- the greatest name below a place
-- a name of a map
abbrev pub IsThere : Attributes → List ℕ → Type 0
IsThere m x = is_some (fin.get m x) ≡ true

module _ {V : Type 0} (place : List ℕ) where
  abbrev InList : Entries V → List ℕ → Type 0
  InList es x = is_some (find (slice_cmp nat_cmp) x es) ≡ true

  -- an entry is the first one, or among the others
  first_or : (e : List ℕ × V) (es : Entries V) (q : List ℕ) → InList (e ∷ es) q → (q ≡ e.0) ⊎ InList es q
  first_or e es q h = by (eq_by_cmp (slice_cmp nat_cmp) q e.0) refl h
    where
      tied : (r : Ordering) → slice_cmp nat_cmp q e.0 ≡ r → is_eq r ≡ true → q ≡ e.0
      tied Less is f = absurd (cc)
      tied Equal is f = exact_bytes q e.0 is
      tied Greater is f = absurd (cc)

      by : (b : Bool) → eq_by_cmp (slice_cmp nat_cmp) q e.0 ≡ b → is_some (cond b (Some e.1) (find (slice_cmp nat_cmp) q es)) ≡ true → (q ≡ e.0) ⊎ InList es q
      by true is f = inl (tied _ refl is)
      by false is f = inr f

  of_others : (e : List ℕ × V) (es : Entries V) (q : List ℕ) → InList es q → InList (e ∷ es) q
  of_others e es q h = by (eq_by_cmp (slice_cmp nat_cmp) q e.0)
    where
      by : (b : Bool) → is_some (cond b (Some e.1) (find (slice_cmp nat_cmp) q es)) ≡ true
      by true = refl
      by false = h

  of_first : (e : List ℕ × V) (es : Entries V) → InList (e ∷ es) e.0
  of_first e es = ap (λ r. is_some (cond (is_eq r) (Some e.1) (find (slice_cmp nat_cmp) e.0 es))) (tied_itself nat_list_cmp_total e.0)

  -- A string from another on, below the place, after which no entry comes before the place: it is that other, or an
  -- entry.
  record Greatest (es : Entries V) (from : List ℕ) : Type 0 where
    at : List ℕ
    upto : is_below at from ≡ false
    low : is_below at place ≡ true
    is : (at ≡ from) ⊎ InList es at
    last : (q : List ℕ) → InList es q → is_below at q ≡ true → is_below q place ≡ true → ⊥

  greatest : (es : Entries V) (from : List ℕ) → is_below from place ≡ true → Greatest es from
  greatest [] from low = record {
    at = from;
    upto = below_itself from;
    low = low;
    is = inl refl;
    last = λ q h a b. absurd (cc h);
  }
  greatest (e ∷ es) from low = by (is_below e.0 place) (is_below from e.0) refl refl (greatest es from low) (λ p. greatest es e.0 p)
    where
      -- the entry isn't between
      without : (is_below e.0 place ≡ true → is_below from e.0 ≡ true → ⊥) → Greatest es from → Greatest (e ∷ es) from
      without not g =
          record {
            at = g.at;
            upto = g.upto;
            low = g.low;
            is = elim g.is [ inl same ↦ inl same | inr h ↦ inr (of_others e es g.at h) ];
            last = λ q h a b. elim (first_or e es q h) [
              | inl same ↦ (
                  let up : is_below g.at e.0 ≡ true = ap (is_below g.at) (sym same) ∙ a in
                  let down : is_below e.0 place ≡ true = ap (λ x. is_below x place) (sym same) ∙ b in
                  not down (upto_below from g.at e.0 g.upto up)
                  )
              | inr other ↦ g.last q other a b
            ];
          }

      by : (a b : Bool) → is_below e.0 place ≡ a → is_below from e.0 ≡ b → Greatest es from → (is_below e.0 place ≡ true → Greatest es e.0) → Greatest (e ∷ es) from
      by false b p q same other = without (λ x y. apart _ x p) same
      by true false p q same other = without (λ x y. apart _ y q) same
      by true true p q same other =
          let g = other p in
          record {
            at = g.at;
            upto = upto_upto from e.0 g.at (not_back from e.0 q) g.upto;
            low = g.low;
            is = elim g.is [
              | inl same ↦ inr (subst (λ x. InList (e ∷ es) x) (sym same) (of_first e es))
              | inr h ↦ inr (of_others e es g.at h)
            ];
            last = λ q h a b. elim (first_or e es q h) [
              | inl same ↦ apart _ (ap (is_below g.at) (sym same) ∙ a) g.upto
              | inr other ↦ g.last q other a b
            ];
          }

-- ---- a map's names
module _ (m : Attributes) where
  -- each string after a name is held, up to and with the next name
  abbrev pub IsCovered : List Interval → List ℕ → Type 0
  IsCovered is x =
      (q : List ℕ) → is_below x q ≡ true → ((y : List ℕ) → is_below x y ≡ true → is_below y q ≡ true → IsThere m y → ⊥) →
      is_held is q ≡ true

  -- the least name from a place on is one, and is from there on
  next_is_there : (p n : List ℕ) → name_from m p ≡ Some n → IsThere m n × (is_below n p ≡ false)
  next_is_there p n e = by (fin.contains_key m p) refl e
    where
      some_is : (a b : List ℕ) → ◌≡◌ {A = Option (List ℕ)} (Some a) (Some b) → a ≡ b
      some_is a b e = cc

      by : (b : Bool) → fin.contains_key m p ≡ b → (if b then Some p else key_above m p) ≡ Some n → IsThere m n × (is_below n p ≡ false)
      by true c f =
          let same : p ≡ n = some_is p n f in
          (subst (IsThere m) same c, ap (λ x. is_below x p) (sym same) ∙ below_itself p)
      by false c f = (above_is_there m p n f, not_back p n (above_is_above m p n f))

  -- Intervals hold all strings from one on up to a place that they don't hold, and all from an earlier place up to and
  -- with the next name. So there is a name between; behind the last such one not all is held up to the next name, but it
  -- is as soon as all is held from the place up to and with the next name there.
  pub record Passed (is : List Interval) (low place : List ℕ) : Type 0 where
    pub name : List ℕ
    pub there : IsThere m name
    pub from : is_below name low ≡ false
    pub before : is_below name place ≡ true
    pub open_there : IsCovered is name → ⊥
    pub covers : (wider : List Interval) → ((a : List ℕ) → is_held is a ≡ true → is_held wider a ≡ true) → HoldNext m wider place → IsCovered wider name

  module _ (is : List Interval) (low earlier place : List ℕ)
      (first : AllHeld is low (Some earlier)) (rest : AllHeld is low (Some place))
      (after : is_below earlier low ≡ false) (from : is_below place low ≡ false)
      (free : is_held is place ≡ false) (next : HoldNext m is earlier) where
    not_earlier : is_below place earlier ≡ false
    not_earlier = by (is_below place earlier) refl
      where
        by : (b : Bool) → is_below place earlier ≡ b → b ≡ false
        by true e = absurd (apart _ (first place from e) free)
        by false e = refl

    -- there is a name
    has_name : (n : List ℕ) × IsThere m n × (is_below n earlier ≡ false) × (is_below n place ≡ true)
    has_name = by (name_from m earlier) refl
      where
        by : (o : Option (List ℕ)) → name_from m earlier ≡ o → (n : List ℕ) × IsThere m n × (is_below n earlier ≡ false) × (is_below n place ≡ true)
        by None e = absurd (apart _ (next place not_earlier (ap (is_upto place) e)) free)
        by (Some n) e =
            let is_name = next_is_there earlier n e in
            let past = of (is_below n place) refl in
            (n, is_name.0, is_name.1, past)
          where
            of : (b : Bool) → is_below n place ≡ b → b ≡ true
            of true f = refl
            of false f = absurd (apart _ (next place not_earlier (ap (is_upto place) e ∙ ap not f)) free)

    -- what is after a name below the place, as all is held from the place up to and with the next name
    covers_all : (at : List ℕ) → is_below at low ≡ false → is_below at place ≡ true → (wider : List Interval) → ((a : List ℕ) → is_held is a ≡ true → is_held wider a ≡ true) → HoldNext m wider place → IsCovered wider at
    covers_all at on lower wider more held q up clear = by (is_below q place) refl
      where
        no_name : (n : List ℕ) → name_from m place ≡ Some n → (b : Bool) → is_below n q ≡ b → not b ≡ true
        no_name n e true f =
            let is_name = next_is_there place n e in
            absurd (clear n (below_upto at place n lower is_name.1) f is_name.0)
        no_name n e false f = refl

        upto_next : (o : Option (List ℕ)) → name_from m place ≡ o → is_upto q o ≡ true
        upto_next None e = refl
        upto_next (Some n) e = no_name n e (is_below n q) refl

        by : (b : Bool) → is_below q place ≡ b → is_held wider q ≡ true
        by true f = more q (rest q (upto_upto low at q on (not_back at q up)) f)
        by false f = held q f (upto_next (name_from m place) refl)

    pub passed : Passed is low place
    passed =
        let n = has_name in
        let g = greatest place (fin.entries m) n.0 n.3 in
        let there : IsThere m g.at = elim g.is [
          | inl same ↦ subst (IsThere m) (sym same) n.1
          | inr h ↦ ap is_some (fin.get-entries m g.at) ∙ h
        ] in
        let none = λ (y : List ℕ) (a : is_below g.at y ≡ true) (b : is_below y place ≡ true) (h : IsThere m y). g.last y (sym (ap is_some (fin.get-entries m y)) ∙ h) a b in
        let on = upto_upto low n.0 g.at (upto_upto low earlier n.0 after n.2) g.upto in
        record {
          name = g.at;
          there = there;
          from = on;
          before = g.low;
          open_there = λ covered. apart _ (covered place g.low none) free;
          covers = covers_all g.at on g.low;
        }
