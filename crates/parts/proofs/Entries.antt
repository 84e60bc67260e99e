-- A part's entries as those that are learned, and which names and values agree with them.
use Rattle.std.proofs.Common.{◌≡◌, ◌∙◌, ◌⊎◌, inl, inr, ℕ, suc, ◌+◌, ◌≤◌, Bool, true, false, not, ◌||◌, IsTrue, cond, List, [], ◌∷◌, Option, Some, None, is_some, length, map, nat_lt, refl, ap, sym, subst, arith}
use Rattle.std.specs.Prelude.{◌↔◌}
use Rattle.std.specs.List.{AllByRecursion}
use Rattle.std.specs.Ordering.{nat_cmp, is_eq, eq_by_cmp, ordering_reverse}
use Rattle.std.specs.declared.cmp.Ordering.{Ordering}
use Rattle.std.specs.declared.cmp.Ordering.TheVariants.{Less, Equal, Greater}
use Rattle.std.specs.Cmp.Lexicographic.{slice_cmp}
use Rattle.std.proofs.lemmas.Bool.{lt-ltb}
use Rattle.std.proofs.lemmas.Bool.Decides.{nat_tests}
use Rattle.std.proofs.lemmas.Cmp.{nat_list_cmp_total, tied_itself}
use Rattle.std.proofs.lemmas.Map.Lookups.{exact_bytes}
use Rattle.std.specs.FinMap as fin
use Rattle.object_store.specs.Object.{Attributes}
use Rattle.object_store.specs.Calls.{is_named}
use Rattle.part_bytes.specs.Part as part
use Rattle.part_bytes.specs.Part.{Entry, Names, IsBelow, IsEntry, after_entry, AreInTurn, AreEntries, AreNames, IsHeld}
use Rattle.part_names.specs.Order.{Interval, is_held}
use Rattle.part_names.specs.Known.{PlainNames, Agrees, is_known}
use Rattle.part_names.specs.Changes.{may_enter, with_entry}
use Rattle.part_bytes.proofs.Held.{true_both}
use Rattle.parts.specs.Agreed.{HasNoEntry, AgreeNames}
use Rattle.parts.specs.inner.Part.{first_of, interval_of, value_at, value_of, IsNamesOf}
use Rattle.parts.proofs.Blocks.{first_of_three, all_of}
use Rattle.parts.proofs.Intervals.{held_so, so_held}

abbrev is_name : List ℕ → List ℕ → Bool
is_name a b = eq_by_cmp (slice_cmp nat_cmp) a b

tied : (r : Ordering) → is_eq r ≡ true → r ≡ Equal
tied Less p = absurd (cc)
tied Equal p = refl
tied Greater p = absurd (cc)

same_name : (q k : List ℕ) → is_name q k ≡ true → q ≡ k
same_name q k e = exact_bytes q k (tied _ e)

name_itself : (q k : List ℕ) → q ≡ k → is_name q k ≡ true
name_itself q k e = ap (λ x. is_name x k) e ∙ ap is_eq (tied_itself nat_list_cmp_total k)

-- a name above another is another one
above_other : (q k : List ℕ) → IsBelow k q → is_name q k ≡ false
above_other q k h = ap is_eq (nat_list_cmp_total.antisymm q k ∙ ap ordering_reverse h)

pub value_here : (e : Entry) (q : List ℕ) → q ≡ e.0 → value_at e q ≡ Some e.1
value_here e q s = ap (λ t. cond t (Some e.1) None) (name_itself q e.0 s)

value_other : (e : Entry) (q : List ℕ) → is_name q e.0 ≡ false → value_at e q ≡ None
value_other e q s = ap (λ t. cond t (Some e.1) None) s

-- ---- learning
-- the entries that are left may be learned: their names are above those that were
pub record Rises (m : Attributes) (rest : List Entry) : Type 0 where
  pub before : List ℕ
  pub turn : AreInTurn IsEntry after_entry before rest
  pub above : (q : List ℕ) → IsBelow before q → fin.get m q ≡ None

pub begin : (rest : List Entry) (m : Attributes) → m ≡ fin.empty → AreEntries rest → Rises m rest
begin rest m e t = record { before = []; turn = t; above = λ q b. ap (λ (x : Attributes). fin.get x q) e ∙ fin.get-empty (slice_cmp nat_cmp) q }

named : (e : Entry) (before : List ℕ) → IsEntry before e → is_named e.0 ≡ true
named e before h = let some = h.some in let short = h.name in grind (arith, nat_tests, some, short)

value_fits : (e : Entry) (before : List ℕ) → IsEntry before e → not (nat_lt 4096 (length e.1)) ≡ true
value_fits e before h = let short = h.value in grind (arith, nat_tests, short)

pub may_learn : (names : PlainNames) (e : Entry) (rest : List Entry) → Rises names.entries (e ∷ rest) → is_held names.intervals e.0 ≡ true → fin.len names.entries + length (e ∷ rest) ≤ names.most → may_enter names e.0 e.1 ≡ true
may_learn names e rest r held room =
    let t = r.turn.0 in
    true_both _ _
    (true_both _ _ (named e r.before t) (value_fits e r.before t))
    (true_both _ _ (true_both _ _ held (ap (λ (o : Option (List ℕ)). not (is_some o)) (r.above e.0 t.above))) (lt-ltb (fin.len names.entries) names.most (omega (arith, room))))

module _ (m : Attributes) (e : Entry) (rest : List Entry) (r : Rises m (e ∷ rest)) where
  is_new : fin.get m e.0 ≡ None
  is_new = r.above e.0 r.turn.0.above

  pub rise : Rises (fin.insert m e.0 e.1) rest
  rise = record {
    before = e.0;
    turn = r.turn.1;
    above = λ q b.
        fin.get-insert nat_list_cmp_total m e.0 e.1 q
        ∙ ap (λ t. cond t (Some e.1) (fin.get m q)) (above_other q e.0 b)
        ∙ r.above q (nat_list_cmp_total.trans r.before e.0 q r.turn.0.above b);
  }

  pub one_longer : fin.len (fin.insert m e.0 e.1) ≡ fin.len m + 1
  one_longer = fin.len-insert nat_list_cmp_total m e.0 e.1 ∙ ap (λ (o : Option (List ℕ)). cond (is_some o) (fin.len m) (fin.len m + 1)) is_new

-- one entry more is learned, and one fewer is left
pub learned_entry : (e : Entry) (es : List Entry) (m : Attributes) (q : List ℕ) → first_of (value_of es q) (fin.get (fin.insert m e.0 e.1) q) ≡ first_of (value_of (e ∷ es) q) (fin.get m q)
learned_entry e es m q =
    ap (first_of (value_of es q)) (fin.get-insert nat_list_cmp_total m e.0 e.1 q ∙ by (is_name q e.0))
    ∙ first_of_three (value_of es q) (value_at e q) (fin.get m q)
  where
    by : (t : Bool) → cond t (Some e.1) (fin.get m q) ≡ first_of (cond t (Some e.1) None) (fin.get m q)
    by true = refl
    by false = refl

-- the next entry is learned
module _ (old new : PlainNames) (e : Entry) (left rest : List Entry) (cut : left ≡ e ∷ rest) (is : new ≡ with_entry old e.0 e.1) (r : Rises old.entries left) where
  pub next_rises : Rises new.entries rest
  next_rises = subst (λ (n : PlainNames). Rises n.entries rest) (sym is) (rise old.entries e rest (subst (Rises old.entries) cut r))

  pub next_room : fin.len old.entries + length left ≤ old.most → fin.len new.entries + length rest ≤ new.most
  next_room room =
      let longer : fin.len new.entries ≡ fin.len old.entries + 1 = ap (λ (n : PlainNames). fin.len n.entries) is ∙ one_longer old.entries e rest (subst (Rises old.entries) cut r) in
      let most : new.most ≡ old.most = ap (λ (n : PlainNames). n.most) is in
      let len : length left ≡ suc (length rest) = ap length cut in
      omega (arith, room, longer, most, len)

  pub next_all : (q : List ℕ) (o : Option (List ℕ)) → first_of (value_of left q) (fin.get old.entries q) ≡ o → first_of (value_of rest q) (fin.get new.entries q) ≡ o
  next_all q o h =
      ap (λ (n : PlainNames). first_of (value_of rest q) (fin.get n.entries q)) is
      ∙ learned_entry e rest old.entries q
      ∙ ap (λ (es : List Entry). first_of (value_of es q) (fin.get old.entries q)) (sym cut)
      ∙ h

  pub next_held : AllByRecursion (λ (x : Entry). IsTrue (is_held old.intervals x.0)) left → AllByRecursion (λ (x : Entry). IsTrue (is_held new.intervals x.0)) rest
  next_held h =
      subst (λ (n : PlainNames). AllByRecursion (λ (x : Entry). IsTrue (is_held n.intervals x.0)) rest) (sym is)
      ((subst (AllByRecursion (λ (x : Entry). IsTrue (is_held old.intervals x.0))) cut h).1)

  pub next_may : AllByRecursion (λ (x : Entry). IsTrue (is_held old.intervals x.0)) left → fin.len old.entries + length left ≤ old.most → may_enter old e.0 e.1 ≡ true
  next_may h room =
      may_learn old e rest (subst (Rises old.entries) cut r) ((subst (AllByRecursion (λ (x : Entry). IsTrue (is_held old.intervals x.0))) cut h).0)
      (subst (λ (es : List Entry). fin.len old.entries + length es ≤ old.most) cut room)

-- names that a part's intervals hold are held
pub held_all : (is : List part.Interval) (k : PlainNames) (es : List Entry) → k.intervals ≡ map interval_of is → AllByRecursion (λ (e : Entry). IsHeld is e.0) es → AllByRecursion (λ (e : Entry). IsTrue (is_held k.intervals e.0)) es
held_all is k es e h = all_of (λ x s. ap (λ (v : List Interval). is_held v x.0) e ∙ held_so is x.0 s) es h

-- before any entry
pub no_room : (m : Attributes) (n most : ℕ) → m ≡ fin.empty → n ≤ most → fin.len m + n ≤ most
no_room m n most e h =
    let none : fin.len m ≡ 0 = ap (λ (x : Attributes). fin.len x) e ∙ fin.len-empty (slice_cmp nat_cmp) (List ℕ) in
    omega (arith, none, h)

pub none_there : (m : Attributes) → m ≡ fin.empty → (o : Option (List ℕ)) (q : List ℕ) → first_of o (fin.get m q) ≡ o
none_there m e (Some v) q = refl
none_there m e None q = ap (λ (x : Attributes). fin.get x q) e ∙ fin.get-empty (slice_cmp nat_cmp) q

-- ---- a value of the entries is that of one of them
module _ (P : Entry → Type 0) where
  -- the entry that has a value
  pub record Has (q v : List ℕ) (e : Entry) : Type 0 where
    pub fact : P e
    pub here : q ≡ e.0
    pub value : e.1 ≡ v

  pub value_from : (es : List Entry) (q v : List ℕ) → AllByRecursion P es → value_of es q ≡ Some v → (e : Entry) × Has q v e
  value_from [] q v h f = absurd (cc)
  value_from (e ∷ es) q v h f = by (value_from es q v h.1) (value_of es q) refl f
    where
      at : (t : Bool) → is_name q e.0 ≡ t → cond t (Some e.1) None ≡ Some v → (e : Entry) × Has q v e
      at true s f = (e, record { fact = h.0; here = same_name q e.0 s; value = cc })
      at false s f = absurd (cc f)

      by : (value_of es q ≡ Some v → (e : Entry) × Has q v e) → (o : Option (List ℕ)) → value_of es q ≡ o → first_of o (value_at e q) ≡ Some v → (e : Entry) × Has q v e
      by more (Some w) is f = more (is ∙ f)
      by more None is f = at (is_name q e.0) refl f

pub no_value : (es : List Entry) (q : List ℕ) → HasNoEntry es q → value_of es q ≡ None
no_value [] q h = refl
no_value (e ∷ es) q h = ap (λ o. first_of o (value_at e q)) (no_value es q h.1) ∙ by (is_name q e.0) refl
  where
    by : (t : Bool) → is_name q e.0 ≡ t → value_at e q ≡ None
    by true s = absurd (h.0 (sym (same_name q e.0 s)))
    by false s = value_other e q s

pub no_entry : (es : List Entry) (q : List ℕ) → value_of es q ≡ None → HasNoEntry es q
no_entry [] q h = tt
no_entry (e ∷ es) q h = by (no_entry es q) (value_of es q) refl h
  where
    by : (value_of es q ≡ None → HasNoEntry es q) → (o : Option (List ℕ)) → value_of es q ≡ o → first_of o (value_at e q) ≡ None → HasNoEntry (e ∷ es) q
    by more (Some w) is f = absurd (cc f)
    by more None is f = (λ s. absurd (cc (value_here e q (sym s), f)), more is)

-- ---- entries whose names rise
after_none : (before q : List ℕ) (es : List Entry) → AreInTurn IsEntry after_entry before es → (q ≡ before) ⊎ IsBelow q before → value_of es q ≡ None
after_none before q [] t h = refl
after_none before q (e ∷ es) t h =
    let lower : IsBelow q e.0 = low h in
    ap (λ o. first_of o (value_at e q)) (after_none e.0 q es t.1 (inr lower)) ∙ value_other e q (ap is_eq lower)
  where
    low : (q ≡ before) ⊎ IsBelow q before → IsBelow q e.0
    low (inl s) = subst (λ x. IsBelow x e.0) (sym s) t.0.above
    low (inr b) = nat_list_cmp_total.trans q before e.0 b t.0.above

stay : (before : List ℕ) (es : List Entry) → AreInTurn IsEntry after_entry before es → AllByRecursion (λ (e : Entry). value_of es e.0 ≡ Some e.1) es
stay before [] t = tt
stay before (e ∷ es) t = (
  ap (λ o. first_of o (value_at e e.0)) (after_none e.0 e.0 es t.1 (inl refl)) ∙ value_here e e.0 refl,
  all_of (λ x s. ap (λ o. first_of o (value_at e x.0)) s) es (stay e.0 es t.1),
)

-- ---- which names and values agree
module _ (most : ℕ) (n : Names) (k : PlainNames) (are : AreNames most n) (is : IsNamesOf most n k) where
  held_is : (q : List ℕ) → is_held k.intervals q ≡ is_held (map interval_of n.intervals) q
  held_is q = ap (λ (x : List Interval). is_held x q) is.intervals

  known_by_either : (a b : Bool) → b ≡ true → (a || b) ≡ true
  known_by_either true b h = refl
  known_by_either false b h = h

  pub held_known : (q : List ℕ) → IsHeld n.intervals q → is_known k q ≡ true
  held_known q h = known_by_either _ _ (held_is q ∙ held_so n.intervals q h)

  pub known_held : (q : List ℕ) → is_known k q ≡ true → IsHeld n.intervals q
  known_held q h = by (value_of n.entries q) refl (sym (ap (λ (o : Option (List ℕ)). is_some o || is_held k.intervals q) (is.entries q)) ∙ h)
    where
      by : (o : Option (List ℕ)) → value_of n.entries q ≡ o → (is_some o || is_held k.intervals q) ≡ true → IsHeld n.intervals q
      by (Some v) e f =
          let found = value_from (λ (x : Entry). IsHeld n.intervals x.0) n.entries q v are.held e in
          subst (IsHeld n.intervals) (sym found.1.here) found.1.fact
      by None e f = so_held n.intervals q (sym (held_is q) ∙ f)

  pub known_is : (q : List ℕ) → IsTrue (is_known k q) ↔ IsHeld n.intervals q
  known_is q = (known_held q, held_known q)

  pub names_agree : (m : Attributes) → AgreeNames n m → Agrees k m
  names_agree m a = λ q known. by q known (value_of n.entries q) refl
    where
      by : (q : List ℕ) → is_known k q ≡ true → (o : Option (List ℕ)) → value_of n.entries q ≡ o → fin.get m q ≡ fin.get k.entries q
      by q known (Some v) e =
          let found = value_from (λ (x : Entry). fin.get m x.0 ≡ Some x.1) n.entries q v a.entries e in
          ap (fin.get m) found.1.here ∙ found.1.fact ∙ ap Some found.1.value ∙ sym (is.entries q ∙ e)
      by q known None e = a.others q (known_held q known) (no_entry n.entries q e) ∙ sym (is.entries q ∙ e)

  pub agree_names : (m : Attributes) → Agrees k m → AgreeNames n m
  agree_names m a = record {
    entries = both n.entries are.held (stay [] n.entries are.entries);
    others = λ q held none. a q (held_known q held) ∙ is.entries q ∙ no_value n.entries q none;
  }
    where
      both : (es : List Entry) → AllByRecursion (λ (e : Entry). IsHeld n.intervals e.0) es → AllByRecursion (λ (e : Entry). value_of n.entries e.0 ≡ Some e.1) es → AllByRecursion (λ (e : Entry). fin.get m e.0 ≡ Some e.1) es
      both [] h s = tt
      both (e ∷ es) h s = (a e.0 (held_known e.0 h.0) ∙ is.entries e.0 ∙ s.0, both es h.1 s.1)
