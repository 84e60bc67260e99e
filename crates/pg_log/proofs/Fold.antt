-- The objects and replies of longer lists.
use Rattle.std.proofs.Common.{◌≡◌, ℕ, ◌<◌, ◌≤◌, List, [], ◌∷◌, ◌++◌, length, take, Some, None, refl, ap, sym, ◌∙◌, arith, ⊎_elim, ◌↔◌}
use Rattle.std.specs.List.{slice_get}
use Rattle.std.proofs.lemmas.Option.{none-some, slice_get_past, slice_get_cases}
use Rattle.std.proofs.lemmas.List.{take-append-le, take_at}
use Rattle.object_store.specs.Names.{PlainObjects}
use Rattle.pg_log.specs.Requests.{ClientRequest}
use Rattle.pg_log.specs.Log.{Classes, after, fold, fold_from, reply_to, reply_at}
use Rattle.pg_log.specs.Refusals.{place_of}
use Rattle.pg_log.proofs.Lists.{get_before, get_last}
use Rattle.pg_log.proofs.Standing.{place_of-within}

pub fold_from-append : (classes : Classes) (objects : PlainObjects) (xs ys : List ClientRequest) → fold_from classes objects (xs ++ ys) ≡ fold_from classes (fold_from classes objects xs) ys
fold_from-append classes objects [] ys = refl
fold_from-append classes objects (x ∷ xs) ys = fold_from-append classes (after classes objects x) xs ys

pub fold-beginning : (classes : Classes) (xs ys : List ClientRequest) (k : ℕ) → k ≤ length xs → fold classes (take k (xs ++ ys)) ≡ fold classes (take k xs)
fold-beginning classes xs ys k h = ap (fold classes) (take-append-le k xs ys h)

pub reply_at-append : (classes : Classes) (xs ys : List ClientRequest) (k : ℕ) → k < length xs → reply_at classes (xs ++ ys) k ≡ reply_at classes xs k
reply_at-append classes xs ys k h =
    ap (λ t. reply_to classes (fold classes t) (slice_get (xs ++ ys) k)) (take-append-le k xs ys (omega arith))
    ∙ ap (reply_to classes (fold classes (take k xs))) (get_before xs ys k h)

pub reply_at-last : (classes : Classes) (xs : List ClientRequest) (r : ClientRequest) → reply_at classes (xs ++ r ∷ []) (length xs) ≡ reply_to classes (fold classes xs) (Some r)
reply_at-last classes xs r =
    ap (λ t. reply_to classes (fold classes t) (slice_get (xs ++ r ∷ []) (length xs))) (take_at xs (r ∷ []) (length xs) refl)
    ∙ ap (reply_to classes (fold classes xs)) (get_last xs r)

pub no_reply : (classes : Classes) (xs : List ClientRequest) (k : ℕ) → (reply_at classes xs k ≡ None) ↔ (length xs ≤ k)
no_reply classes xs k = (
  λ e. ⊎_elim (λ h. absurd (none-some _ (sym e ∙ ap (reply_to classes (fold classes (take k xs))) h.2))) (λ h. h.0) (slice_get_cases xs k).1,
  λ l. ap (reply_to classes (fold classes (take k xs))) (slice_get_past xs k l),
)

-- a pair that is logged has a reply
pub pair_replied : (classes : Classes) (xs : List ClientRequest) (client number place : ℕ) → Some place ≡ place_of client number xs → reply_at classes xs place ≡ None → ⊥
pair_replied classes xs client number place at none =
    let within = (place_of-within xs client number place (sym at)).0 in
    let past = (no_reply classes xs place).0 none in
    omega (arith, within, past)
