-- The common beginning of a log and a list, and a log that is cut back to it.
use Rattle.std.proofs.Common.{◌≡◌, ℕ, zero, suc, ◌+◌, ◌-◌, ◌<◌, ◌≤◌, ◌⊎◌, List, [], ◌∷◌, ◌++◌, length, take, drop, Some, None, refl, ap, sym, ◌∙◌, arith, length-append, subst, inl, inr, ⊎_elim, append_assoc, append-nil, Result, Ok, Err, OnOk, IfErr}
use Rattle.std.specs.List.{slice_get}
use Rattle.std.specs.FinMap as fin
use Rattle.std.proofs.lemmas.List.{take-append-drop, take-append-le, take_all, length-drop}
use mathlib.Core.List.{IsPrefix}
use Rattle.object_store.specs.Names.{PlainObjects}
use Rattle.pg_log.specs.declared.entry.Entry.{Entry}
use Rattle.pg_log.specs.declared.places.Places.{Places}
use Rattle.pg_log.specs.Requests.{ClientRequest}
use Rattle.pg_log.specs.Log.{Classes, Legal, fold, after}
use Rattle.pg_log.specs.Places.{ArePlaces}
use Rattle.pg_log.specs.Entries.{AreEntries, AreSafe, Keeps, requests_of, undone}
use Rattle.pg_log.specs.declared.log_error.LogError.{LogError}
use Rattle.pg_log.specs.Refusals.{refusal, or_else, first_refusal_from, Refuses}
use Rattle.pg_log.specs.declared.log_error.LogError.TheVariants.{NoMemory}
use Rattle.pg_log.specs.Refusals.{SomeCanRun}
use Rattle.pg_log.specs.Adopting.{IsCommonBeginning, rest_refusal, RestRefuses, Refused, Short}
use Rattle.pg_log.proofs.Lists.{take_get, drop_get, get_take}
use Rattle.pg_log.proofs.Legal.{legal_beginning}
use Rattle.pg_log.specs.Refusals.{first_refusal}
use Rattle.pg_log.specs.Laws.{IsAsReplayed}
use Rattle.pg_log.proofs.Exact.{or_else_none, lists_exact, some_can_run}
use Rattle.pg_log.proofs.Kept.{undone_last}

pub requests_of-take : (es : List Entry) (k : ℕ) → requests_of (take k es) ≡ take k (requests_of es)
requests_of-take [] zero = refl
requests_of-take [] (suc k) = refl
requests_of-take (e ∷ es) zero = refl
requests_of-take (e ∷ es) (suc k) = ap (λ l. e.request ∷ l) (requests_of-take es k)

pub requests_of-drop : (es : List Entry) (k : ℕ) → requests_of (drop k es) ≡ drop k (requests_of es)
requests_of-drop [] zero = refl
requests_of-drop [] (suc k) = refl
requests_of-drop (e ∷ es) zero = refl
requests_of-drop (e ∷ es) (suc k) = requests_of-drop es k

pub requests_of-append : (es fs : List Entry) → requests_of (es ++ fs) ≡ requests_of es ++ requests_of fs
requests_of-append [] fs = refl
requests_of-append (e ∷ es) fs = ap (λ l. e.request ∷ l) (requests_of-append es fs)

pub entries_beginning : (classes : Classes) (objects : PlainObjects) (es : List Entry) (k : ℕ) → AreEntries classes objects es → AreEntries classes objects (take k es)
entries_beginning classes objects [] zero h = tt
entries_beginning classes objects [] (suc k) h = tt
entries_beginning classes objects (e ∷ es) zero h = tt
entries_beginning classes objects (e ∷ es) (suc k) h = (h.0, entries_beginning classes (after classes objects e.request) es k h.1)

safe_beginning : (classes : Classes) (xs : List ClientRequest) (k : ℕ) → AreSafe classes xs → AreSafe classes (take k xs)
safe_beginning classes xs k h i r e = h i r (get_take xs k i r e)

-- a log begins with a list exactly if the list is their common beginning
pub begins_whole : (own list : List ClientRequest) (k : ℕ) → IsCommonBeginning own list k → k ≡ length list → IsPrefix list own
begins_whole own list k h e =
    let same : take k own ≡ list = h.same ∙ take_all k list (omega arith) in
    (drop k own, ap (λ l. l ++ drop k own) (sym same) ∙ take-append-drop k own)

pub whole_begins : (own list : List ClientRequest) (k : ℕ) → IsCommonBeginning own list k → IsPrefix list own → k ≡ length list
whole_begins own list k h p =
    let long : length list + length p.0 ≡ length own = sym (length-append list p.0) ∙ ap length p.1 in
    let n = length list in
    let same : take n own ≡ take n list = ap (take n) (sym p.1) ∙ take-append-le n list p.0 (omega arith) in
    let least : n ≤ k = h.longest n (omega arith) (omega arith) same in
    let most : k ≤ n = h.in_list in
    omega arith

-- the invariant of a log's beginning
pub keeps_beginning : (classes : Classes) (es fs : List Entry) (objects before : PlainObjects) (places cut : Places) (k : ℕ) → Keeps classes es objects places →
    fs ≡ take k es → before ≡ fold classes (take k (requests_of es)) → ArePlaces cut (take k (requests_of es)) → Keeps classes fs before cut
keeps_beginning classes es fs objects before places cut k h f o at =
    let xs = requests_of es in
    let e : requests_of fs ≡ take k xs = ap requests_of f ∙ requests_of-take es k in
    let L : List ClientRequest → Type 0 = Legal classes in
    let S : List ClientRequest → Type 0 = AreSafe classes in
    let A : List Entry → Type 0 = AreEntries classes fin.empty in
    let P : List ClientRequest → Type 0 = ArePlaces cut in
    record {
      legal = subst L (sym e) (legal_beginning classes (take k xs) (drop k xs) (subst L (sym (take-append-drop k xs)) h.legal));
      safe = subst S (sym e) (safe_beginning classes xs k h.safe);
      kept = subst A (sym f) (entries_beginning classes fin.empty es k h.kept);
      folded = o ∙ ap (fold classes) (sym e);
      indexed = subst P (sym e) at;
    }

-- one more common request
pub common_more : (xs ys : List ClientRequest) (k : ℕ) (a b : ClientRequest) → slice_get xs k ≡ Some a → slice_get ys k ≡ Some b → a ≡ b → take k xs ≡ take k ys →
    take (k + 1) xs ≡ take (k + 1) ys
common_more xs ys k a b p q same e =
    take_get xs k a p ∙ ap (λ l. l ++ a ∷ []) e ∙ ap (λ w. take k ys ++ w ∷ []) same ∙ sym (take_get ys k b q)

module _ {X : Type 0} where
  pub length-beginning : (xs : List X) (k : ℕ) → k ≤ length xs → length (take k xs) ≡ k
  length-beginning [] zero h = refl
  length-beginning [] (suc k) h = absurd (omega (arith, h))
  length-beginning (x ∷ xs) zero h = refl
  length-beginning (x ∷ xs) (suc k) h = ap suc (length-beginning xs k (omega (arith, h)))

  pub rest_of : (xs : List X) (k : ℕ) → take (length xs - k) (drop k xs) ≡ drop k xs
  rest_of xs k =
      let n = length-drop k xs in
      take_all (length xs - k) (drop k xs) (omega (arith, n))

  pub take-take : (xs : List X) (k : ℕ) → take k (take k xs) ≡ take k xs
  take-take xs zero = refl
  take-take [] (suc k) = refl
  take-take (x ∷ xs) (suc k) = ap (λ l. x ∷ l) (take-take xs k)

  -- a beginning of a list is one of each longer list
  pub take-longer : (xs ys : List X) (k : ℕ) → k ≤ length xs → take k (xs ++ ys) ≡ take k xs
  take-longer xs ys zero h = refl
  take-longer [] ys (suc k) h = absurd (omega (arith, h))
  take-longer (x ∷ xs) ys (suc k) h = ap (λ l. x ∷ l) (take-longer xs ys k (omega (arith, h)))

-- a beginning doesn't depend on the entries after it
pub take_own : (es fs : List Entry) (k : ℕ) → k ≤ length es → take k (requests_of (take k es ++ fs)) ≡ take k (requests_of es)
take_own es fs zero h = refl
take_own [] fs (suc k) h = absurd (omega (arith, h))
take_own (e ∷ es) fs (suc k) h = ap (λ l. e.request ∷ l) (take_own es fs k (omega (arith, h)))

-- the rest can't be run: one of its requests is refused, or memory is short
pub rest_refuses : (table : Classes) (list : List ClientRequest) (at k : ℕ) (r : ClientRequest) (e : LogError) → 0 < at → slice_get list k ≡ Some r →
    rest_refusal table list at ≡ rest_refusal table list k → Refuses (refusal table (take k list) r) e → RestRefuses table list at e
rest_refuses table list at k r e h there left why =
    ⊎_elim
    (λ w. Refused (left ∙ ap (first_refusal_from table (take k list)) (drop_get list k r there) ∙ ap (λ o. or_else o (first_refusal_from table (take k list ++ r ∷ []) (drop (k + 1) list))) w))
    (λ w. Short w.0 (inl h)) why

-- the same for a whole list
pub list_refuses : (table : Classes) (list : List ClientRequest) (k : ℕ) (r : ClientRequest) (e : LogError) → slice_get list k ≡ Some r →
    first_refusal table (take k list) ≡ None → first_refusal table list ≡ first_refusal_from table (take k list) (drop k list) →
    Refuses (refusal table (take k list) r) e → (first_refusal table list ≡ Some e) ⊎ ((e ≡ NoMemory) × SomeCanRun table list)
list_refuses table list k r e there before left why =
    ⊎_elim
    (λ w. inl (left ∙ ap (first_refusal_from table (take k list)) (drop_get list k r there) ∙ ap (λ o. or_else o (first_refusal_from table (take k list ++ r ∷ []) (drop (k + 1) list))) w))
    (λ w. inr (w.0, some_can_run table list k r there before w.1)) why

pub rest_more : (table : Classes) (list : List ClientRequest) (k : ℕ) (r : ClientRequest) → slice_get list k ≡ Some r → refusal table (take k list) r ≡ None →
    rest_refusal table list k ≡ rest_refusal table list (k + 1)
rest_more table list k r there why =
    ap (first_refusal_from table (take k list)) (drop_get list k r there)
    ∙ ap (λ o. or_else o (first_refusal_from table (take k list ++ r ∷ []) (drop (k + 1) list))) why
    ∙ ap (λ w. first_refusal_from table w (drop (k + 1) list)) (sym (take_get list k r there))

-- if a log still begins with its first k entries, these and the entries cut off are the log before
pub cut_entries : (es begun fs tail : List Entry) (k : ℕ) → k ≤ length es → begun ≡ take k es → tail ≡ drop k es → IsPrefix begun fs → take k fs ++ tail ≡ es
cut_entries es begun fs tail k h b t p =
    let long : length begun ≡ k = ap (λ l. length l) b ∙ length-beginning es k h in
    let enough : k ≤ length begun = omega (arith, long) in
    let first : take k fs ≡ take k es = ap (take k) (sym p.1) ∙ take-longer begun p.0 k enough ∙ ap (take k) b ∙ take-take es k in
    ap (λ (w : List Entry). w ++ tail) first ∙ ap (λ (w : List Entry). take k es ++ w) t ∙ take-append-drop k es

pub cut_again : (es begun fs tail : List Entry) (k : ℕ) → k ≤ length es → begun ≡ take k es → tail ≡ drop k es → IsPrefix begun fs →
    take k (requests_of fs) ++ requests_of tail ≡ requests_of es
cut_again es begun fs tail k h b t p =
    ap (λ (w : List ClientRequest). w ++ requests_of tail) (sym (requests_of-take fs k))
    ∙ sym (requests_of-append (take k fs) tail) ∙ ap requests_of (cut_entries es begun fs tail k h b t p)

-- undoing the last entry of a beginning gives the objects before it
pub undone_more : (classes : Classes) (es : List Entry) (objects : PlainObjects) (k : ℕ) (e : Entry) → AreEntries classes fin.empty es → slice_get es k ≡ Some e →
    objects ≡ fold classes (requests_of (take (k + 1) es)) → undone objects e.request.object e.change ≡ fold classes (requests_of (take k es))
undone_more classes es objects k e h at is =
    let A : List Entry → Type 0 = AreEntries classes fin.empty in
    let more = take_get es k e at in
    ap (λ w. undone w e.request.object e.change) (is ∙ ap (λ (w : List Entry). fold classes (requests_of w)) more)
    ∙ undone_last classes (take k es) e (subst A more (entries_beginning classes fin.empty es (k + 1) h))

pub prefix_on : (xs ys zs : List Entry) → IsPrefix xs ys → IsPrefix ys zs → IsPrefix xs zs
prefix_on xs ys zs p q = (p.0 ++ q.0, sym (append_assoc xs p.0 q.0) ∙ ap (λ (w : List Entry). w ++ q.0) p.1 ∙ q.1)

pub prefix_long : (xs ys : List Entry) → IsPrefix xs ys → length xs ≤ length ys
prefix_long xs ys p =
    let e : length (xs ++ p.0) ≡ length ys = ap (λ (w : List Entry). length w) p.1 in
    let s = length-append xs p.0 in omega (arith, e, s)

-- there are as many requests as entries
length_requests : (es : List Entry) → length (requests_of es) ≡ length es
length_requests [] = refl
length_requests (e ∷ es) = ap suc (length_requests es)

pub entries_long : (es : List Entry) (log : List ClientRequest) (k : ℕ) → requests_of es ≡ log → k ≤ length log → k ≤ length es
entries_long es log k e h =
    let s : length log ≡ length es = sym (ap (λ (w : List ClientRequest). length w) e) ∙ length_requests es in omega (arith, h, s)

-- the old log is a beginning of the new one, if an entry was added and if none was
pub prefix_added : (r : Result (Unit {0}) LogError) (xs ys : List Entry) (e : Entry) → OnOk r (ys ≡ xs ++ e ∷ []) → IfErr r (λ w. (w ≡ NoMemory) × (ys ≡ xs)) → IsPrefix xs ys
prefix_added (Ok u) xs ys e h f = (e ∷ [], sym h)
prefix_added (Err w) xs ys e h f = ([], append-nil xs ∙ sym f.1)

-- after a beginning that isn't refused, the refusal of a list is that of the rest
refusals_go_on : (classes : Classes) (before xs ys : List ClientRequest) → first_refusal_from classes before xs ≡ None →
    first_refusal_from classes before (xs ++ ys) ≡ first_refusal_from classes (before ++ xs) ys
refusals_go_on classes before [] ys e = ap (λ w. first_refusal_from classes w ys) (sym (append-nil before))
refusals_go_on classes before (x ∷ xs) ys e =
    let o = or_else_none (refusal classes before x) (first_refusal_from classes (before ++ x ∷ []) xs) e in
    ap (λ w. or_else w (first_refusal_from classes (before ++ x ∷ []) (xs ++ ys))) o.0
    ∙ refusals_go_on classes (before ++ x ∷ []) xs ys o.1
    ∙ ap (λ w. first_refusal_from classes w ys) (append_assoc before (x ∷ []) xs)

-- adopting a list in place of a legal log is refused as replaying it is
pub as_replayed : (classes : Classes) (own list : List ClientRequest) (k : ℕ) → Legal classes own → IsCommonBeginning own list k → IsAsReplayed classes list k
as_replayed classes own list k l c =
    let L : List ClientRequest → Type 0 = Legal classes in
    let begun : Legal classes (take k list) = subst L c.same (legal_beginning classes (take k own) (drop k own) (subst L (sym (take-append-drop k own)) l)) in
    let fine : first_refusal classes (take k list) ≡ None = (lists_exact classes (take k list)).1 begun in
    record {
      same = sym (ap (first_refusal_from classes []) (sym (take-append-drop k list)) ∙ refusals_go_on classes [] (take k list) (drop k list) fine);
      some = λ h.
          let P : List ClientRequest → Type 0 = λ w. first_refusal classes w ≡ None in
          let less : suc (k - 1) ≡ k = omega (arith, h) in
          let next : k - 1 + 1 ≡ k = omega (arith, h) in
          let in_list = c.in_list in
          record {
            place = k - 1;
            within = omega (arith, h, in_list);
            unrefused = subst P (ap (λ n. take n list) (sym next)) fine;
          };
    }
