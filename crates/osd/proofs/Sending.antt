-- What several submits add to a pass.
use Rattle.std.proofs.Common.{◌≡◌, ℕ, zero, suc, List, [], ◌∷◌, ◌++◌, Result, Ok, Err, refl, sym, ap, ◌∙◌, subst, append_assoc}
use Rattle.std.specs.Prelude.{All, MatchResult}
use Rattle.std.proofs.lemmas.List.{append-nil}
use Rattle.std.proofs.lemmas.List.Elements.{All-nil, All-cons, All-append, All-weaker}
use Rattle.op_shards.specs.declared.rule.Ranked.{Ranked}
use Rattle.op_shards.specs.Passes.{Sender, ranked, at_shard, pushed_at, after_submit, next_rank, Grew}
use Rattle.carried.specs.declared.operation.Operation.{Operation}
use Rattle.osd.specs.Sent.{OnlySent, IsAny, IsThat}

abbrev on : (Operation → Type 0) → Ranked Operation → Type 0
on P x = P x.op

pub only_none : (P : Operation → Type 0) (s : Sender Operation) → OnlySent s s P
only_none P s = record { since = λ shard. []; kept = λ shard. append-nil (at_shard s.accepted shard); each = λ shard. All-nil (on P) }

pub only_several : (P : Operation → Type 0) (s t u : Sender Operation) → OnlySent s t P → OnlySent t u P → OnlySent s u P
only_several P s t u g h = record {
  since = λ shard. g.since shard ++ h.since shard;
  kept = λ shard. sym (append_assoc (at_shard s.accepted shard) (g.since shard) (h.since shard)) ∙ (ap (λ (w : List (Ranked Operation)). w ++ h.since shard) (g.kept shard) ∙ h.kept shard);
  each = λ shard. All-append (on P) (g.since shard) (h.since shard) (g.each shard) (h.each shard);
}

pub only_weaker : (P Q : Operation → Type 0) (s t : Sender Operation) → ((op : Operation) → P op → Q op) → OnlySent s t P → OnlySent s t Q
only_weaker P Q s t w g = record { since = g.since; kept = g.kept; each = λ shard. All-weaker (on P) (on Q) (λ x p. w x.op p) (g.since shard) (g.each shard) }

pub only_any : (P : Operation → Type 0) (s t : Sender Operation) → OnlySent s t P → OnlySent s t IsAny
only_any P s t g = only_weaker P IsAny s t (λ op p. tt) g

pub only_grew : (P : Operation → Type 0) (s t : Sender Operation) → OnlySent s t P → Grew s t
only_grew P s t g = record { begins = λ shard. (g.since shard, g.kept shard) }

-- what one submit adds in each shard
one_more : (P : Operation → Type 0) (ls : List (List (Ranked Operation))) (k i : ℕ) (x : Ranked Operation) → P x.op
    → (rest : List (Ranked Operation)) × ((at_shard ls i ++ rest ≡ at_shard (pushed_at ls k x) i) × All (on P) rest)
one_more P [] k i x p = ([], (refl, All-nil (on P)))
one_more P (l ∷ ls) zero zero x p = (x ∷ [], (refl, All-cons (on P) x [] p (All-nil (on P))))
one_more P (l ∷ ls) zero (suc i) x p = ([], (append-nil (at_shard ls i), All-nil (on P)))
one_more P (l ∷ ls) (suc k) zero x p = ([], (append-nil l, All-nil (on P)))
one_more P (l ∷ ls) (suc k) (suc i) x p = one_more P ls k i x p

only_added : (P : Operation → Type 0) (s : Sender Operation) (shard : ℕ) (op : Operation) → P op → OnlySent s (after_submit s shard op) P
only_added P s shard op p =
    let x = ranked s.sender (next_rank s shard) op in record {
      since = λ i. (one_more P s.accepted shard i x p).0;
      kept = λ i. (one_more P s.accepted shard i x p).1.0;
      each = λ i. (one_more P s.accepted shard i x p).1.1;
    }

pub only_one : (P : Operation → Type 0) (s t : Sender Operation) (shard : ℕ) (op : Operation) → P op → t ≡ after_submit s shard op → OnlySent s t P
only_one P s t shard op p e = subst (λ (u : Sender Operation). OnlySent s u P) (sym e) (only_added P s shard op p)

pub only_same : (P : Operation → Type 0) (s t : Sender Operation) → t ≡ s → OnlySent s t P
only_same P s t e = subst (λ (u : Sender Operation). OnlySent s u P) (sym e) (only_none P s)

-- what was sent from a state of the pass that is the same
pub only_from : (P : Operation → Type 0) (s r t : Sender Operation) → r ≡ s → OnlySent r t P → OnlySent s t P
only_from P s r t e g = subst (λ (u : Sender Operation). OnlySent u t P) e g

-- what a submit says, accepted or not
pub only_submitted : (P : Operation → Type 0) (s t : Sender Operation) (shard : ℕ) (op : Operation) (X : Type 0) (Y : Operation → Type 0) {U : Type 0} (r : Result U Operation) → P op
    → MatchResult r (λ _. (t ≡ after_submit s shard op) × X) (λ x. (x ≡ op) × (t ≡ s) × Y x) → OnlySent s t P
only_submitted P s t shard op X Y (Ok u) p h = only_one P s t shard op p h.0
only_submitted P s t shard op X Y (Err x) p h = only_same P s t h.1

-- what holds of an operation holds of each that equals it
pub only_that : (P : Operation → Type 0) (s t : Sender Operation) (this : Operation) → P this → OnlySent s t (IsThat this) → OnlySent s t P
only_that P s t this p g = only_weaker (IsThat this) P s t (λ op e. subst P (sym e) p) g

-- what was sent up to a state of the pass that is the same
pub only_until : (P : Operation → Type 0) (s t u : Sender Operation) → u ≡ t → OnlySent s t P → OnlySent s u P
only_until P s t u e g = subst (λ (w : Sender Operation). OnlySent s w P) (sym e) g
