-- A sender's lists only grow, and an operation that was sent stays sent.
use Rattle.std.proofs.Common.{◌≡◌, ℕ, zero, suc, ◌<◌, ◌≤◌, List, [], ◌∷◌, ◌++◌, length, map, Result, Ok, Err, Some, refl, sym, ap, ◌∙◌, subst, append_assoc, arith, length-append}
use Rattle.std.specs.Prelude.{slice_get, MatchResult, OnOk}
use Rattle.std.proofs.lemmas.List.{append-nil, length-map}
use mathlib.Core.List.{IsPrefix}
use Rattle.op_shards.specs.declared.rule.Ranked.{Ranked}
use Rattle.op_shards.specs.Passes.{Sender, ranked, at_shard, pushed_at, after_submit, next_rank, Grew, WasSent}

module _ {A : Type 0} where
  prefix_self : (xs : List A) → IsPrefix xs xs
  prefix_self xs = ([], append-nil xs)

  prefix_trans : (xs ys zs : List A) → IsPrefix xs ys → IsPrefix ys zs → IsPrefix xs zs
  prefix_trans xs ys zs p q = (p.0 ++ q.0, sym (append_assoc xs p.0 q.0) ∙ (ap (λ w. w ++ q.0) p.1 ∙ q.1))

  prefix_length : (xs ys : List A) → IsPrefix xs ys → length xs ≤ length ys
  prefix_length xs ys p = let e = ap length p.1 in omega (arith, e, length-append xs p.0)

  still_there : (xs rest : List A) (k : ℕ) (x : A) → slice_get xs k ≡ Some x → slice_get (xs ++ rest) k ≡ Some x
  still_there [] rest k x e = absurd (cc (e))
  still_there (y ∷ ys) rest zero x e = e
  still_there (y ∷ ys) rest (suc k) x e = still_there ys rest k x e

  prefix_get : (xs ys : List A) (k : ℕ) (x : A) → IsPrefix xs ys → slice_get xs k ≡ Some x → slice_get ys k ≡ Some x
  prefix_get xs ys k x p e = subst (λ (l : List A). slice_get l k ≡ Some x) p.1 (still_there xs p.0 k x e)

  at_end : (xs : List A) (x : A) → slice_get (xs ++ x ∷ []) (length xs) ≡ Some x
  at_end [] x = refl
  at_end (y ∷ ys) x = at_end ys x

module _ {T : Type 0} where
  pub grew_none : (s : Sender T) → Grew s s
  grew_none s = record { begins = λ i. prefix_self (at_shard s.accepted i) }

  pub grew_several : (s t u : Sender T) → Grew s t → Grew t u → Grew s u
  grew_several s t u g h = record { begins = λ i. prefix_trans (at_shard s.accepted i) (at_shard t.accepted i) (at_shard u.accepted i) (g.begins i) (h.begins i) }

  pub sent_property : (P : T → Type 0) (s t : Sender T) (op : T) → WasSent s t (λ x. x ≡ op) → P op → WasSent s t P
  sent_property P s t op w p = record { shard = w.shard; rank = w.rank; x = w.x; new = w.new; there = w.there; so = subst P (sym w.so) p }

  pub sent_further : (P : T → Type 0) (r s t u : Sender T) → WasSent s t P → Grew r s → Grew t u → WasSent r u P
  sent_further P r s t u w g h =
      let before = prefix_length (at_shard r.accepted w.shard) (at_shard s.accepted w.shard) (g.begins w.shard) in record {
        shard = w.shard;
        rank = w.rank;
        x = w.x;
        new = omega (arith, before, w.new);
        there = prefix_get (at_shard t.accepted w.shard) (at_shard u.accepted w.shard) w.rank w.x (h.begins w.shard) w.there;
        so = w.so;
      }

  one_more : (ls : List (List (Ranked T))) (k i : ℕ) (x : Ranked T) → IsPrefix (at_shard ls i) (at_shard (pushed_at ls k x) i)
  one_more [] k i x = prefix_self []
  one_more (l ∷ ls) zero zero x = (x ∷ [], refl)
  one_more (l ∷ ls) zero (suc i) x = prefix_self (at_shard ls i)
  one_more (l ∷ ls) (suc k) zero x = prefix_self l
  one_more (l ∷ ls) (suc k) (suc i) x = one_more ls k i x

  one_there : (ls : List (List (Ranked T))) (k : ℕ) (x : Ranked T) → k < length ls → slice_get (at_shard (pushed_at ls k x) k) (length (at_shard ls k)) ≡ Some x
  one_there [] k x lt = absurd (omega (arith, lt))
  one_there (l ∷ ls) zero x lt = at_end l x
  one_there (l ∷ ls) (suc k) x lt = one_there ls k x (omega (arith, lt))

  -- an accepted operation makes its shard's list longer, and is its last
  pub submit_grew : (s : Sender T) (shard : ℕ) (op : T) → Grew s (after_submit s shard op)
  submit_grew s shard op = record { begins = λ i. one_more s.accepted shard i (ranked s.sender (next_rank s shard) op) }

  pub submit_sent : (s : Sender T) (shard : ℕ) (op : T) → shard < length s.accepted → WasSent s (after_submit s shard op) (λ x. x ≡ op)
  submit_sent s shard op lt = record {
    shard = shard;
    rank = next_rank s shard;
    x = ranked s.sender (next_rank s shard) op;
    new = omega arith;
    there = one_there s.accepted shard (ranked s.sender (next_rank s shard) op) lt;
    so = refl;
  }

  -- the effect of a submit, by its answer
  pub answer_grew : {O : Type 0} (A B : Type 0) (answer : Result O T) (s t : Sender T) (shard : ℕ) (op : T)
      → MatchResult answer (λ _. (t ≡ after_submit s shard op) × A) (λ x. (x ≡ op) × (t ≡ s) × B) → Grew s t
  answer_grew A B (Ok o) s t shard op m = subst (λ (u : Sender T). Grew s u) (sym m.0) (submit_grew s shard op)
  answer_grew A B (Err x) s t shard op m = subst (λ (u : Sender T). Grew s u) (sym m.1) (grew_none s)

  pub answer_sent : {O : Type 0} (A B : Type 0) (answer : Result O T) (s t : Sender T) (shard : ℕ) (op : T) → shard < length s.accepted
      → MatchResult answer (λ _. (t ≡ after_submit s shard op) × A) (λ x. (x ≡ op) × (t ≡ s) × B) → OnOk answer (WasSent s t (λ x. x ≡ op))
  answer_sent A B (Ok o) s t shard op lt m = subst (λ (u : Sender T). WasSent s u (λ x. x ≡ op)) (sym m.0) (submit_sent s shard op lt)
  answer_sent A B (Err x) s t shard op lt m = tt

pub by_shard : {A B C : Type 0} (f : A → B) (h : A → C) (xs : List A) → length (map f xs) ≡ length (map h xs)
by_shard f h xs = length-map xs f ∙ sym (length-map xs h)
