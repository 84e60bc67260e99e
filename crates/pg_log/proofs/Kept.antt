-- The invariant of a group, as it is used by reading and kept by adding a request.
use Rattle.std.proofs.Common.{◌≡◌, ℕ, zero, suc, true, false, List, [], ◌∷◌, ◌++◌, length, take, drop, ◌+◌, Some, None, Result, Ok, Err, is_err, OnErr, OnOk, IfOk, IfErr, Option, ◌⊎◌, inl, inr, option_map, refl, ap, sym, ◌∙◌, subst, ⊎_elim}
use Rattle.std.specs.List.{slice_get}
use Rattle.std.specs.Int.{w64, cast_unsigned}
use Rattle.std.specs.FinMap as fin
use Rattle.std.proofs.lemmas.Option.{none-some, same_Some, slice_get-map}
use Rattle.object_store.specs.Names.{PlainObjects, stored}
use Rattle.pg_log.specs.declared.entry.Entry.{Entry}
use Rattle.pg_log.specs.declared.places.Places.{Places}
use Rattle.pg_log.specs.Requests.{ClientRequest}
use Rattle.pg_log.specs.Log.{Classes, Legal, after, fold, fold_from, reply_to, reply_at}
use Rattle.pg_log.specs.declared.log_error.LogError.{LogError}
use Rattle.pg_log.specs.declared.log_error.LogError.TheVariants.{NoMemory}
use Rattle.pg_log.specs.Refusals.{answer_of, list_after}
use Rattle.pg_log.specs.Places.{ArePlaces}
use Rattle.pg_log.specs.Entries.{IsOutcomeOn, AreEntries, IsSafeRequest, AreSafe, requests_of, undone, Keeps}
use Rattle.std.proofs.lemmas.List.{length-map, take-append-drop}
use Rattle.pg_log.proofs.Lists.{get_push, take_get}
use Rattle.pg_log.proofs.Legal.{legal_beginning}
use Rattle.pg_log.proofs.Fold.{fold_from-append}
use Rattle.pg_log.proofs.Stored.{undone-stored}

pub on_err : {T E P : Type 0} (r : Result T E) → is_err r ≡ true → OnErr r P → P
on_err (Ok x) e h = absurd (cc)
on_err (Err x) e h = h

pub on_ok : {T E P : Type 0} (r : Result T E) → is_err r ≡ false → OnOk r P → P
on_ok (Ok x) e h = h
on_ok (Err x) e h = absurd (cc)

pub requests_of-push : (es : List Entry) (e : Entry) → requests_of (es ++ e ∷ []) ≡ requests_of es ++ e.request ∷ []
requests_of-push [] e = refl
requests_of-push (x ∷ es) e = ap (λ l. x.request ∷ l) (requests_of-push es e)

pub entry_at : (classes : Classes) (objects : PlainObjects) (es : List Entry) (k : ℕ) (e : Entry) → AreEntries classes objects es → slice_get es k ≡ Some e →
    IsOutcomeOn classes (fold_from classes objects (take k (requests_of es))) e.request e.code e.output.items e.change
entry_at classes objects [] k e h p = absurd (none-some e p)
entry_at classes objects (x ∷ es) zero e h p =
    let P : Entry → Type 0 = λ w. IsOutcomeOn classes objects w.request w.code w.output.items w.change in
    subst P (same_Some x e p) h.0
entry_at classes objects (x ∷ es) (suc k) e h p = entry_at classes (after classes objects x.request) es k e h.1 p

pub reply_made : (classes : Classes) (es : List Entry) (k : ℕ) (e : Entry) → AreEntries classes fin.empty es → slice_get es k ≡ Some e →
    Some (record { code = cast_unsigned w64 e.code; output = e.output.items }) ≡ reply_at classes (requests_of es) k
reply_made classes es k e h p =
    ap (λ o. Some (record { code = o.code; output = o.output })) (entry_at classes fin.empty es k e h p).made
    ∙ ap (reply_to classes (fold classes (take k (requests_of es)))) (sym (slice_get-map (λ (w : Entry). w.request) es k ∙ ap (λ o. option_map (λ (w : Entry). w.request) o) p))

pub no_entry : (classes : Classes) (es : List Entry) (k : ℕ) → slice_get es k ≡ None → None ≡ reply_at classes (requests_of es) k
no_entry classes es k p =
    ap (reply_to classes (fold classes (take k (requests_of es)))) (sym (slice_get-map (λ (w : Entry). w.request) es k ∙ ap (λ o. option_map (λ (w : Entry). w.request) o) p))

kept_push : (classes : Classes) (objects : PlainObjects) (es : List Entry) (e : Entry) → AreEntries classes objects es →
    IsOutcomeOn classes (fold_from classes objects (requests_of es)) e.request e.code e.output.items e.change → AreEntries classes objects (es ++ e ∷ [])
kept_push classes objects [] e h o = (o, tt)
kept_push classes objects (x ∷ es) e h o = (h.0, kept_push classes (after classes objects x.request) es e h.1 o)

folded_push : (classes : Classes) (xs : List ClientRequest) (e : Entry) → IsOutcomeOn classes (fold classes xs) e.request e.code e.output.items e.change →
    stored (fold classes xs) e.request.object e.change.after ≡ fold classes (xs ++ e.request ∷ [])
folded_push classes xs e o =
    ap (λ w. stored (fold classes xs) e.request.object w.object) o.made
    ∙ sym (fold_from-append classes fin.empty xs (e.request ∷ []))

safe_push : (classes : Classes) (xs : List ClientRequest) (r : ClientRequest) → AreSafe classes xs → IsSafeRequest classes r → AreSafe classes (xs ++ r ∷ [])
safe_push classes xs r all s i a e =
    let P : ClientRequest → Type 0 = IsSafeRequest classes in
    ⊎_elim (λ h. all i a h.1) (λ h. subst P (sym h.1) s) (get_push xs r a i e)

kept_last : (classes : Classes) (objects : PlainObjects) (es : List Entry) (e : Entry) → AreEntries classes objects (es ++ e ∷ []) →
    IsOutcomeOn classes (fold_from classes objects (requests_of es)) e.request e.code e.output.items e.change
kept_last classes objects [] e h = h.0
kept_last classes objects (x ∷ es) e h = kept_last classes (after classes objects x.request) es e h.1

-- the last entry's change is undone
pub undone_last : (classes : Classes) (es : List Entry) (e : Entry) → AreEntries classes fin.empty (es ++ e ∷ []) →
    undone (fold classes (requests_of (es ++ e ∷ []))) e.request.object e.change ≡ fold classes (requests_of es)
undone_last classes es e h =
    let o = kept_last classes fin.empty es e h in
    let xs = requests_of es in
    ap (λ w. undone w e.request.object e.change) (ap (fold classes) (requests_of-push es e) ∙ sym (folded_push classes xs e o))
    ∙ undone-stored (fold classes xs) e.request.object e.change o.from_before

-- the invariant with one more entry
pub keeps_push : (classes : Classes) (es : List Entry) (objects next : PlainObjects) (places more : Places) (e : Entry) →
    Keeps classes es objects places → Legal classes (requests_of es ++ e.request ∷ []) →
    IsSafeRequest classes e.request → IsOutcomeOn classes (fold classes (requests_of es)) e.request e.code e.output.items e.change →
    next ≡ stored objects e.request.object e.change.after → ArePlaces more (requests_of es ++ e.request ∷ []) →
    Keeps classes (es ++ e ∷ []) next more
keeps_push classes es objects next places more e k l s o is at =
    let P : List ClientRequest → Type 0 = Legal classes in
    let Q : List ClientRequest → Type 0 = ArePlaces more in
    let R : List ClientRequest → Type 0 = AreSafe classes in
    let q = sym (requests_of-push es e) in
    record {
      legal = subst P q l;
      safe = subst R q (safe_push classes (requests_of es) e.request k.safe s);
      kept = kept_push classes fin.empty es e k.kept o;
      folded = is ∙ ap (λ w. stored w e.request.object e.change.after) k.folded ∙ folded_push classes (requests_of es) e o ∙ ap (fold classes) q;
      indexed = subst Q q at;
    }

-- the invariant if nothing was added
pub keeps_same : (classes : Classes) (es fs : List Entry) (objects next : PlainObjects) (places more : Places) →
    Keeps classes es objects places → fs ≡ es → next ≡ objects → ArePlaces more (requests_of es) → Keeps classes fs next more
keeps_same classes es fs objects next places more k p q at =
    let P : List Entry → Type 0 = λ w. Keeps classes w next more in
    subst P (sym p) (record { legal = k.legal; safe = k.safe; kept = k.kept; folded = q ∙ k.folded; indexed = at })

pub length-requests : (es : List Entry) (xs : List ClientRequest) → requests_of es ≡ xs → length es ≡ length xs
length-requests es xs e = sym (length-map es (λ (w : Entry). w.request)) ∙ ap (λ l. length l) e

pub requests_at : (es : List Entry) (k : ℕ) (e : Entry) → slice_get es k ≡ Some e → slice_get (requests_of es) k ≡ Some e.request
requests_at es k e p = slice_get-map (λ (w : Entry). w.request) es k ∙ ap (λ o. option_map (λ (w : Entry). w.request) o) p

-- the entry at a place may follow those before it
pub entry_follows : (classes : Classes) (es : List Entry) (k : ℕ) (e : Entry) → Legal classes (requests_of es) → slice_get es k ≡ Some e →
    Legal classes (take k (requests_of es) ++ e.request ∷ [])
entry_follows classes es k e l p =
    let P : List ClientRequest → Type 0 = Legal classes in
    subst P (take_get (requests_of es) k e.request (requests_at es k e p))
    (legal_beginning classes (take (k + 1) (requests_of es)) (drop (k + 1) (requests_of es)) (subst P (sym (take-append-drop (k + 1) (requests_of es))) l))

pub entry_next : (es : List Entry) (k : ℕ) (e : Entry) → slice_get es k ≡ Some e → take k (requests_of es) ++ e.request ∷ [] ≡ take (k + 1) (requests_of es)
entry_next es k e p = sym (take_get (requests_of es) k e.request (requests_at es k e p))

-- the result of an append that keeps a request which wasn't logged
pub kept_answer : (place : Option ℕ) (why : Option LogError) (xs new : List ClientRequest) (s : ClientRequest) (o : Result ℕ LogError) → place ≡ None → why ≡ None →
    IfOk o (λ k. (k ≡ length xs) × (new ≡ xs ++ s ∷ [])) → IfErr o (λ e. (e ≡ NoMemory) × (new ≡ xs)) →
    (o ≡ answer_of place why (length xs)) ⊎ ((o ≡ Err NoMemory) × (place ≡ None) × (why ≡ None))
kept_answer place why xs new s (Ok k) none unrefused h f =
    inl (ap Ok h.0 ∙ sym (ap (λ w. answer_of w why (length xs)) none ∙ ap (λ w. answer_of None w (length xs)) unrefused))
kept_answer place why xs new s (Err e) none unrefused h f = inr (ap Err f.0, none, unrefused)

pub kept_list : (place : Option ℕ) (xs new : List ClientRequest) (s r : ClientRequest) (o : Result ℕ LogError) → place ≡ None → s ≡ r →
    IfOk o (λ k. (k ≡ length xs) × (new ≡ xs ++ s ∷ [])) → OnOk o (new ≡ list_after place xs r)
kept_list place xs new s r (Ok k) none same h =
    h.1 ∙ ap (λ w. xs ++ w ∷ []) same ∙ sym (ap (λ w. list_after w xs r) none)
kept_list place xs new s r (Err e) none same h = tt

pub kept_nothing : {T : Type 0} (xs new : List ClientRequest) (o : Result T LogError) → IfErr o (λ e. (e ≡ NoMemory) × (new ≡ xs)) → OnErr o (new ≡ xs)
kept_nothing xs new (Ok k) f = tt
kept_nothing xs new (Err e) f = f.1
