-- The numbers of messages in buckets, and the lowest number of an equal message.
use Rattle.std.proofs.Common.{◌≡◌, ◌≢◌, ◌+◌, ◌<◌, ◌≤◌, ◌%◌, ◌==◌, ℕ, zero, suc, Bool, true, false, if◌then◌else◌, List, [], ◌∷◌, ◌++◌, length, Option, Some, None, refl, sym, ap, ◌∙◌, subst, arith, append_assoc, append-nil, length-append, slice_get, get_or, set, get_or-set_other, ◌-◌}
use Rattle.std.proofs.Math.Dec.{eqb-suc-zero}
use Rattle.std.proofs.lemmas.Bool.{eq-eqb, eqb-true, and_parts, false≢true}
use Rattle.std.proofs.lemmas.Grind.{get_or-set_at}
use Rattle.std.proofs.lemmas.List.{get_or_default, length-set}
use Rattle.carried.specs.declared.message.CarriedKind.{CarriedKind}
use Rattle.carried.specs.declared.message.CarriedKind.TheVariants.{Query, Log, Install, Installed, AskActivate, Activated, Rep, Ack, Reply}
use Rattle.sim_world.specs.declared.kept.KeptMessage.{KeptMessage}
use Rattle.sim_world.specs.inner.Buckets.{AreInBuckets, first_equal, is_equal_to, numbers_in, bucket, bucket_of, is_same_carried, is_same_kept, kept_number, kept_number_from}
use Rattle.sim_world.specs.Lines.{numbered}

-- empty buckets
abbrev pub fresh : ℕ → List (List ℕ)
fresh zero = []
fresh (suc n) = fresh n ++ [] ∷ []

length_fresh : (n : ℕ) → length (fresh n) ≡ n
length_fresh zero = refl
length_fresh (suc n) = length-append (fresh n) ([] ∷ []) ∙ omega (arith, length_fresh n)

none_behind : (xs : List (List ℕ)) (at : ℕ) → ((i : ℕ) → get_or xs i [] ≡ []) → get_or (xs ++ [] ∷ []) at [] ≡ []
none_behind [] zero h = refl
none_behind [] (suc at) h = refl
none_behind (x ∷ xs) zero h = h 0
none_behind (x ∷ xs) (suc at) h = none_behind xs at (λ i. h (suc i))

none_fresh : (n at : ℕ) → get_or (fresh n) at [] ≡ []
none_fresh zero at = refl
none_fresh (suc n) at = none_behind (fresh n) at (none_fresh n)

pub in_buckets_none : (buckets : List (List ℕ)) (n : ℕ) → n ≡ 1025 → buckets ≡ fresh n → AreInBuckets [] buckets
in_buckets_none buckets n all e = record {
  count = ap (λ (xs : List (List ℕ)). length xs) e ∙ length_fresh n ∙ all;
  each = λ at below. ap (λ (xs : List (List ℕ)). get_or xs at []) e ∙ none_fresh n at;
}

-- the numbers in a bucket after one more message
both : (t s : Bool) (n m : ℕ) (ns : List ℕ)
    → (if s then n ∷ (if t then ns ++ m ∷ [] else ns) else (if t then ns ++ m ∷ [] else ns)) ≡ (if t then (if s then n ∷ ns else ns) ++ m ∷ [] else (if s then n ∷ ns else ns))
both true true n m ns = refl
both true false n m ns = refl
both false true n m ns = refl
both false false n m ns = refl

numbers_in-more : (at n m : ℕ) (ks : List KeptMessage) (k : KeptMessage) → m ≡ n + length ks
    → numbers_in at n (ks ++ k ∷ []) ≡ (if bucket_of k == at then numbers_in at n ks ++ m ∷ [] else numbers_in at n ks)
numbers_in-more at n m [] k e = let same : n ≡ m = omega arith in ap (λ (i : ℕ). if bucket_of k == at then i ∷ [] else []) same
numbers_in-more at n m (x ∷ xs) k e =
    ap (λ (ns : List ℕ). if bucket_of x == at then n ∷ ns else ns) (numbers_in-more at (suc n) m xs k (omega arith))
    ∙ both (bucket_of k == at) (bucket_of x == at) n m (numbers_in at (suc n) xs)

at_bucket : (sent : List KeptMessage) (buckets : List (List ℕ)) (k : KeptMessage) (number at : ℕ) (t : Bool) → (bucket_of k == at) ≡ t → bucket_of k < length buckets
    → get_or buckets at [] ≡ numbers_in at 1 sent → number ≡ 1 + length sent
    → get_or (set buckets (bucket_of k) (get_or buckets (bucket_of k) [] ++ number ∷ [])) at [] ≡ numbers_in at 1 (sent ++ k ∷ [])
at_bucket sent buckets k number at true e within is n =
    let same : bucket_of k ≡ at = eqb-true (bucket_of k) at e in
    get_or-set_at buckets (bucket_of k) at (get_or buckets (bucket_of k) [] ++ number ∷ []) [] (sym same) within
    ∙ ap (λ (i : ℕ). get_or buckets i [] ++ number ∷ []) same
    ∙ ap (λ (ns : List ℕ). ns ++ number ∷ []) is
    ∙ sym (numbers_in-more at 1 number sent k n ∙ ap (λ (t : Bool). if t then numbers_in at 1 sent ++ number ∷ [] else numbers_in at 1 sent) e)
at_bucket sent buckets k number at false e within is n =
    let apart : at ≢ bucket_of k = λ same. false≢true (sym e ∙ eq-eqb (bucket_of k) at (sym same)) in
    get_or-set_other buckets (bucket_of k) at (get_or buckets (bucket_of k) [] ++ number ∷ []) [] apart
    ∙ is
    ∙ sym (numbers_in-more at 1 number sent k n ∙ ap (λ (t : Bool). if t then numbers_in at 1 sent ++ number ∷ [] else numbers_in at 1 sent) e)

-- a message was kept, and its number was put into its bucket
pub in_buckets_more : (sent grown : List KeptMessage) (buckets next : List (List ℕ)) (k : KeptMessage) (at number : ℕ) → at ≡ bucket_of k → at ≤ 1024 → grown ≡ sent ++ k ∷ [] → number ≡ length grown
    → AreInBuckets sent buckets → next ≡ set buckets at (get_or buckets at [] ++ number ∷ []) → AreInBuckets grown next
in_buckets_more sent grown buckets next k at number is below more count are put =
    let n : number ≡ 1 + length sent = count ∙ ap (λ (ks : List KeptMessage). length ks) more ∙ length-append sent (k ∷ []) ∙ omega arith in
    let size : length buckets ≡ 1025 = are.count in
    let within : at < length buckets = omega arith in
    let within_k : bucket_of k < length buckets = subst (λ (i : ℕ). i < length buckets) is within in
    let moved : next ≡ set buckets (bucket_of k) (get_or buckets (bucket_of k) [] ++ number ∷ []) = put ∙ ap (λ (i : ℕ). set buckets i (get_or buckets i [] ++ number ∷ [])) is in
    let all : AreInBuckets (sent ++ k ∷ []) next = record {
      count = ap (λ (xs : List (List ℕ)). length xs) moved ∙ length-set buckets (bucket_of k) (get_or buckets (bucket_of k) [] ++ number ∷ []) ∙ are.count;
      each = λ i low. ap (λ (xs : List (List ℕ)). get_or xs i []) moved ∙ at_bucket sent buckets k number i (bucket_of k == i) refl within_k (are.each i low) n;
    } in
    subst (λ (ks : List KeptMessage). AreInBuckets ks next) (sym more) all

-- equal messages have one bucket
same_kind_bucket : (a b : CarriedKind) → is_same_carried a b ≡ true → bucket b ≡ bucket a
same_kind_bucket (Query m count) (Query n other) e =
    ap (λ (i : ℕ). i % 1024) (sym (eqb-true m.interval n.interval (and_parts _ _ (and_parts _ _ e).1).0))
same_kind_bucket (Query m count) _ e = absurd (false≢true e)
same_kind_bucket (Install m xs) (Install n ys) e =
    ap (λ (i : ℕ). i % 1024) (sym (eqb-true m.interval n.interval (and_parts _ _ (and_parts _ _ (and_parts _ _ e).0).1).0))
same_kind_bucket (Install m xs) _ e = absurd (false≢true e)
same_kind_bucket (AskActivate interval) (AskActivate other) e = ap (λ (i : ℕ). i % 1024) (sym (eqb-true interval other e))
same_kind_bucket (AskActivate interval) _ e = absurd (false≢true e)
same_kind_bucket (Rep interval place r) (Rep other at q) e =
    ap (λ (i : ℕ). i % 1024) (sym (eqb-true place at (and_parts _ _ (and_parts _ _ e).1).0))
same_kind_bucket (Rep interval place r) _ e = absurd (false≢true e)
same_kind_bucket (Log interval log) b e = absurd (false≢true e)
same_kind_bucket (Installed interval) b e = absurd (false≢true e)
same_kind_bucket (Activated interval) b e = absurd (false≢true e)
same_kind_bucket (Ack interval n) b e = absurd (false≢true e)
same_kind_bucket (Reply client number place answer) b e = absurd (false≢true e)

same_bucket : (j k : KeptMessage) → is_same_kept j k ≡ true → bucket_of k ≡ bucket_of j
same_bucket j k e = same_kind_bucket j.message.kind k.message.kind (and_parts _ _ (and_parts _ _ e).1).1

-- the first equal message of a bucket is the first of all
one_more : (j : KeptMessage) (sent : List KeptMessage) (n next : ℕ) (k : KeptMessage) (on is : Bool) (rest : List ℕ) → numbered sent n ≡ Some k → is_same_kept j k ≡ is → (is ≡ true → on ≡ true)
    → first_equal j sent rest ≡ next → first_equal j sent (if on then n ∷ rest else rest) ≡ (if is then n else next)
one_more j sent n next k true true rest at e h later =
    ap (λ (o : Option KeptMessage). if is_equal_to j o then n else first_equal j sent rest) at ∙ ap (λ (t : Bool). if t then n else first_equal j sent rest) e
one_more j sent n next k true false rest at e h later =
    ap (λ (o : Option KeptMessage). if is_equal_to j o then n else first_equal j sent rest) at ∙ ap (λ (t : Bool). if t then n else first_equal j sent rest) e ∙ later
one_more j sent n next k false true rest at e h later = absurd (false≢true (h refl))
one_more j sent n next k false false rest at e h later = later

slice_get_mid : (pre ks : List KeptMessage) (k : KeptMessage) → slice_get (pre ++ k ∷ ks) (length pre) ≡ Some k
slice_get_mid [] ks k = refl
slice_get_mid (x ∷ pre) ks k = slice_get_mid pre ks k

numbered_mid : (pre ks : List KeptMessage) (k : KeptMessage) → numbered (pre ++ k ∷ ks) (suc (length pre)) ≡ Some k
numbered_mid pre ks k =
    let e : suc (length pre) - 1 ≡ length pre = omega arith in
    ap (λ (t : Bool). if t then None else slice_get (pre ++ k ∷ ks) (suc (length pre) - 1)) (eqb-suc-zero (length pre))
    ∙ ap (λ (i : ℕ). slice_get (pre ++ k ∷ ks) i) e ∙ slice_get_mid pre ks k

first_from : (j : KeptMessage) (pre ks : List KeptMessage) → first_equal j (pre ++ ks) (numbers_in (bucket_of j) (suc (length pre)) ks) ≡ kept_number_from (suc (length pre)) j ks
first_from j pre [] = ap suc (ap (λ (xs : List KeptMessage). length xs) (append-nil pre))
first_from j pre (k ∷ ks) =
    let at : ℕ = bucket_of j in
    let one : length (pre ++ k ∷ []) ≡ suc (length pre) = length-append pre (k ∷ []) ∙ omega arith in
    let N : ℕ → Type 0 = λ n. first_equal j ((pre ++ k ∷ []) ++ ks) (numbers_in at (suc n) ks) ≡ kept_number_from (suc n) j ks in
    let S : List KeptMessage → Type 0 = λ s. first_equal j s (numbers_in at (suc (suc (length pre))) ks) ≡ kept_number_from (suc (suc (length pre))) j ks in
    let later = subst S (append_assoc pre (k ∷ []) ks) (subst N one (first_from j (pre ++ k ∷ []) ks)) in
    one_more j (pre ++ k ∷ ks) (suc (length pre)) (kept_number_from (suc (suc (length pre))) j ks) k (bucket_of k == at) (is_same_kept j k)
    (numbers_in at (suc (suc (length pre))) ks) (numbered_mid pre ks k) refl (λ e. eq-eqb (bucket_of k) at (same_bucket j k e)) later

-- the number that is found in the bucket is the lowest of all
pub number_found : (j : KeptMessage) (sent : List KeptMessage) (buckets : List (List ℕ)) (at n : ℕ) (here numbers : List ℕ) → AreInBuckets sent buckets → at ≡ bucket_of j → at ≤ 1024
    → here ≡ get_or buckets at here → numbers ≡ here → n ≡ first_equal j sent numbers → n ≡ kept_number sent j
number_found j sent buckets at n here numbers are e below there same is =
    let size : length buckets ≡ 1025 = are.count in
    let within : at < length buckets = omega arith in
    let low : at < 1025 = omega arith in
    let all : numbers ≡ numbers_in (bucket_of j) 1 sent =
    same ∙ there ∙ get_or_default buckets at here [] within ∙ are.each at low ∙ ap (λ (i : ℕ). numbers_in i 1 sent) e in
    is ∙ ap (λ (ns : List ℕ). first_equal j sent ns) all ∙ first_from j [] sent
