-- There is no refusal exactly if a request may follow a list, or if a list is legal.
use Rattle.std.proofs.Common.{◌≡◌, ℕ, zero, suc, ◌<◌, ◌≤◌, Bool, true, false, cond, List, [], ◌∷◌, ◌++◌, length, Option, Some, None, refl, ap, sym, ◌∙◌, subst, arith, append_assoc, append-nil, ◌↔◌, nat_le, ◌||◌, take, ◌+◌}
use Rattle.std.specs.List.{slice_get}
use Rattle.std.proofs.lemmas.Option.{none-some, same_Some, slice_get_within}
use Rattle.std.proofs.lemmas.Bool.Decides.{nat_tests}
use Rattle.bpf_decode.specs.Class.{ClassMethod}
use Rattle.interp.specs.Plain.{method_named}
use Rattle.pg_log.specs.declared.group.TheConstants.{LOG_LIMIT}
use Rattle.pg_log.specs.declared.log_error.LogError.{LogError}
use Rattle.pg_log.specs.declared.log_error.LogError.TheVariants.{LogFull, StaleNumber, NoClass, NoMethod, InputTooLong}
use Rattle.pg_log.specs.Requests.{ClientRequest}
use Rattle.pg_log.specs.Log.{Classes, Legal, CanRun}
use Rattle.pg_log.specs.Refusals.{reaches, is_reached, refusal_of_method, refusal_of_class, refusal, or_else, first_refusal_from, first_refusal, SomeCanRun, Follows}
use Rattle.pg_log.proofs.Lists.{take_get}
use Rattle.pg_log.proofs.Legal.{legal_beginning, legal_empty, legal_push, follows}

cond_none : (b : Bool) (why : LogError) (o : Option LogError) → cond b (Some why) o ≡ None → (b ≡ false) × (o ≡ None)
cond_none true why o e = absurd (none-some why (sym e))
cond_none false why o e = (refl, e)

none_cond : (b : Bool) (why : LogError) (o : Option LogError) → b ≡ false → o ≡ None → cond b (Some why) o ≡ None
none_cond true why o e h = absurd (cc)
none_cond false why o e h = h

neither : (a b : Bool) → (a || b) ≡ false → (a ≡ false) × (b ≡ false)
neither true b e = absurd (cc)
neither false b e = (refl, e)

not_either : (a b : Bool) → a ≡ false → b ≡ false → (a || b) ≡ false
not_either true b p q = p
not_either false b p q = q

below_unreached : (client number : ℕ) (r : ClientRequest) → reaches client number r ≡ false → r.client ≡ client → r.number < number
below_unreached client number r e c = grind (arith, nat_tests)

unreached_below : (client number : ℕ) (r : ClientRequest) → (r.client ≡ client → r.number < number) → reaches client number r ≡ false
unreached_below client number r h = grind (arith, nat_tests)

pub above_all : (client number : ℕ) (xs : List ClientRequest) → is_reached client number xs ≡ false →
    (i : ℕ) (a : ClientRequest) → slice_get xs i ≡ Some a → a.client ≡ client → a.number < number
above_all client number [] e i a p c = absurd (none-some a p)
above_all client number (x ∷ xs) e zero a p c =
    let P : ClientRequest → Type 0 = λ w. w.client ≡ client → w.number < number in
    subst P (same_Some x a p) (below_unreached client number x (neither _ _ e).0) c
above_all client number (x ∷ xs) e (suc i) a p c = above_all client number xs (neither _ _ e).1 i a p c

pub all_above : (client number : ℕ) (xs : List ClientRequest) →
    ((i : ℕ) (a : ClientRequest) → slice_get xs i ≡ Some a → a.client ≡ client → a.number < number) → is_reached client number xs ≡ false
all_above client number [] h = refl
all_above client number (x ∷ xs) h =
    not_either _ _ (unreached_below client number x (h 0 x refl)) (all_above client number xs (λ i a e. h (suc i) a e))

runs_method : (o : Option ClassMethod) (r : ClientRequest) → refusal_of_method o r ≡ None → (m : ClassMethod) × (o ≡ Some m) × (length r.input ≤ m.in_cap)
runs_method None r e = absurd (none-some NoMethod (sym e))
runs_method (Some m) r e = let t = (cond_none _ InputTooLong None e).0 in (m, refl, grind (arith, nat_tests))

runs_class : (o : Option (List ClassMethod)) (r : ClientRequest) → refusal_of_class o r ≡ None →
    (class : List ClassMethod) × (m : ClassMethod) × (o ≡ Some class) × (method_named class r.method ≡ Some m) × (length r.input ≤ m.in_cap)
runs_class None r e = absurd (none-some NoClass (sym e))
runs_class (Some class) r e = let w = runs_method (method_named class r.method) r e in (class, w.0, refl, w.1, w.2)

pub can_run : (classes : Classes) (r : ClientRequest) → refusal_of_class (slice_get classes r.class) r ≡ None → CanRun classes r
can_run classes r e =
    let w = runs_class (slice_get classes r.class) r e in
    record { class = w.0; loaded = w.2; method = w.1; named = w.3; short = w.4 }

fits : (m : ClassMethod) (r : ClientRequest) → length r.input ≤ m.in_cap → refusal_of_method (Some m) r ≡ None
fits m r h = none_cond _ InputTooLong None (grind (arith, nat_tests)) refl

pub can_run_back : (classes : Classes) (r : ClientRequest) → CanRun classes r → refusal_of_class (slice_get classes r.class) r ≡ None
can_run_back classes r c =
    ap (λ o. refusal_of_class o r) c.loaded ∙ ap (λ o. refusal_of_method o r) c.named ∙ fits c.method r c.short

pub follows_unrefused : (classes : Classes) (xs : List ClientRequest) (r : ClientRequest) → refusal classes xs r ≡ None → Follows classes xs r
follows_unrefused classes xs r e =
    let one = cond_none (nat_le LOG_LIMIT (length xs)) LogFull _ e in
    let two = cond_none (is_reached r.client r.number xs) StaleNumber _ one.1 in
    let full : nat_le LOG_LIMIT (length xs) ≡ false = one.0 in
    record { room = grind (arith, nat_tests); run = can_run classes r two.1; above = above_all r.client r.number xs two.0 }

pub unrefused : (classes : Classes) (xs : List ClientRequest) (r : ClientRequest) → Follows classes xs r → refusal classes xs r ≡ None
unrefused classes xs r f =
    let room : length xs < LOG_LIMIT = f.room in
    none_cond (nat_le LOG_LIMIT (length xs)) LogFull _ (grind (arith, nat_tests))
    (none_cond (is_reached r.client r.number xs) StaleNumber _ (all_above r.client r.number xs f.above) (can_run_back classes r f.run))

pub or_else_none : (o p : Option LogError) → or_else o p ≡ None → (o ≡ None) × (p ≡ None)
or_else_none None p e = (refl, e)
or_else_none (Some why) p e = absurd (none-some why (sym e))

none_or_else : (o p : Option LogError) → o ≡ None → p ≡ None → or_else o p ≡ None
none_or_else None p e h = h
none_or_else (Some why) p e h = e

or_else-or_else : (o p q : Option LogError) → or_else o (or_else p q) ≡ or_else (or_else o p) q
or_else-or_else None p q = refl
or_else-or_else (Some why) p q = refl

or_else-none : (o : Option LogError) → or_else o None ≡ o
or_else-none None = refl
or_else-none (Some why) = refl

-- one more request
first_refusal_from-push : (classes : Classes) (before xs : List ClientRequest) (r : ClientRequest) →
    first_refusal_from classes before (xs ++ r ∷ []) ≡ or_else (first_refusal_from classes before xs) (refusal classes (before ++ xs) r)
first_refusal_from-push classes before [] r =
    or_else-none (refusal classes before r) ∙ ap (λ w. refusal classes w r) (sym (append-nil before))
first_refusal_from-push classes before (x ∷ xs) r =
    ap (or_else (refusal classes before x)) (first_refusal_from-push classes (before ++ x ∷ []) xs r
    ∙ ap (λ w. or_else (first_refusal_from classes (before ++ x ∷ []) xs) (refusal classes w r)) (append_assoc before (x ∷ []) xs))
    ∙ or_else-or_else (refusal classes before x) _ _

-- a request that may follow those before it, if none of those is refused
pub unrefused_next : (classes : Classes) (list : List ClientRequest) (k : ℕ) (r : ClientRequest) → slice_get list k ≡ Some r →
    first_refusal classes (take k list) ≡ None → refusal classes (take k list) r ≡ None → first_refusal classes (take (k + 1) list) ≡ None
unrefused_next classes list k r e before now =
    ap (first_refusal classes) (take_get list k r e) ∙ first_refusal_from-push classes [] (take k list) r
    ∙ none_or_else (first_refusal classes (take k list)) (refusal classes (take k list) r) before now

pub some_can_run : (classes : Classes) (list : List ClientRequest) (k : ℕ) (r : ClientRequest) → slice_get list k ≡ Some r →
    first_refusal classes (take k list) ≡ None → refusal classes (take k list) r ≡ None → SomeCanRun classes list
some_can_run classes list k r e before now = record {
  place = k;
  within = slice_get_within list k r e;
  unrefused = unrefused_next classes list k r e before now;
}

legal_unrefused_from : (classes : Classes) (before xs : List ClientRequest) → Legal classes before → first_refusal_from classes before xs ≡ None → Legal classes (before ++ xs)
legal_unrefused_from classes before [] l e =
    let P : List ClientRequest → Type 0 = Legal classes in
    subst P (sym (append-nil before)) l
legal_unrefused_from classes before (r ∷ rs) l e =
    let P : List ClientRequest → Type 0 = Legal classes in
    let o = or_else_none (refusal classes before r) _ e in
    let longer = legal_push classes before r l (follows_unrefused classes before r o.0) in
    subst P (append_assoc before (r ∷ []) rs) (legal_unrefused_from classes (before ++ r ∷ []) rs longer o.1)

unrefused_from : (classes : Classes) (before xs : List ClientRequest) → Legal classes (before ++ xs) → first_refusal_from classes before xs ≡ None
unrefused_from classes before [] l = refl
unrefused_from classes before (r ∷ rs) l =
    let P : List ClientRequest → Type 0 = Legal classes in
    let whole = subst P (sym (append_assoc before (r ∷ []) rs)) l in
    let longer = legal_beginning classes (before ++ r ∷ []) rs whole in
    none_or_else (refusal classes before r) _ (unrefused classes before r (follows classes before r longer)) (unrefused_from classes (before ++ r ∷ []) rs whole)

pub lists_exact : (classes : Classes) (xs : List ClientRequest) → (first_refusal classes xs ≡ None) ↔ Legal classes xs
lists_exact classes xs = (legal_unrefused_from classes [] xs (legal_empty classes), unrefused_from classes [] xs)
