-- Texts that are printed in parts.
use Rattle.std.proofs.Common.{◌≡◌, ℕ, zero, suc, ◌+◌, ◌<◌, min, List, [], ◌∷◌, length, take, drop, Option, Some, None, IfSome, Result, Ok, Err, OnOk, OnErr, sym, ap, subst, ◌∙◌, arith, length-take, length-drop}
use Rattle.std.proofs.lemmas.List.{take_all}
use Rattle.std.proofs.Math.Seq.{take-add}
use Rattle.std.proofs.KnownBytes.{Appends-trans, Appends-kept}
use Rattle.std.specs.Io.KnownBytes.{Appends, Keeps}
use Rattle.std.specs.Fmt.{WritesInCalls}
use Rattle.program_files.specs.Output.{Begins}
use Rattle.program_files.specs.Window.{Sees, shown}
use Rattle.program_files.specs.declared.window.Window.{Window}
use Rattle.program_files.proofs.Windows.{seen}

-- one part after another
pub part_more : (a b c : Option (List ℕ)) (n k : ℕ) (text : List ℕ) → Appends a b (take n text) → Appends b c (take k (drop n text)) → Appends a c (take (n + k) text)
part_more a b c n k text first rest = subst (Appends a c) (sym (take-add n k text)) (Appends-trans a b c _ _ first rest)

take_both : (m k : ℕ) (xs : List ℕ) → take m (take k xs) ≡ take (min m k) xs
take_both zero k xs = let e : 0 ≡ min zero k = omega arith in ap (λ n. take n xs) e
take_both (suc m) zero xs = let e : 0 ≡ min (suc m) zero = omega arith in ap (λ n. take n xs) e
take_both (suc m) (suc k) [] = let e : suc (min m k) ≡ min (suc m) (suc k) = omega arith in ap (λ n. take n []) e
take_both (suc m) (suc k) (x ∷ xs) = let e : suc (min m k) ≡ min (suc m) (suc k) = omega arith in ap (λ l. x ∷ l) (take_both m k xs) ∙ ap (λ n. take n (x ∷ xs)) e

-- and then a beginning of one
pub part_begun : (a b c : Option (List ℕ)) (n k : ℕ) (text : List ℕ) → Appends a b (take n text) → Begins b c (take k (drop n text)) → Begins a c text
part_begun a b c n k text first begun =
    record {
      count = n + min begun.count k;
      grew = part_more a b c n (min begun.count k) text first (subst (Appends b c) (take_both begun.count k (drop n text)) begun.grew);
    }

-- if a part isn't full, the text is at its end
pub part_last : (n k : ℕ) (text : List ℕ) → length (take k (drop n text)) < k → take (n + k) text ≡ text
part_last n k text short =
    take_all (n + k) text (omega (arith, length-take k (drop n text), length-drop n text))

-- The same of a text that may be unknown.
pub known_begins : (a b : Option (List ℕ)) (n : ℕ) (o : Option (List ℕ)) → IfSome o (λ t. Appends a b (take n t)) → IfSome o (Begins a b)
known_begins a b n None first = tt
known_begins a b n (Some t) first = record { count = n; grew = first }

pub known_more : (a b c : Option (List ℕ)) (n k : ℕ) (part : List ℕ) (o : Option (List ℕ)) → IfSome o (λ t. Appends a b (take n t)) → IfSome o (λ t. part ≡ take k (drop n t))
    → Appends b c part → IfSome o (λ t. Appends a c (take (n + k) t))
known_more a b c n k part None first is rest = tt
known_more a b c n k part (Some t) first is rest = part_more a b c n k t first (subst (Appends b c) is rest)

pub known_begun : (a b c : Option (List ℕ)) (n k : ℕ) (part : List ℕ) (o : Option (List ℕ)) → IfSome o (λ t. Appends a b (take n t)) → IfSome o (λ t. part ≡ take k (drop n t))
    → Begins b c part → IfSome o (Begins a c)
known_begun a b c n k part None first is rest = tt
known_begun a b c n k part (Some t) first is rest = part_begun a b c n k t first (subst (Begins b c) is rest)

pub known_whole : (a b c d : Option (List ℕ)) (n k : ℕ) (part : List ℕ) (o : Option (List ℕ)) → IfSome o (λ t. Appends a b (take n t)) → IfSome o (λ t. part ≡ take k (drop n t))
    → Appends b c part → length part < k → Keeps c d → IfSome o (Appends a d)
known_whole a b c d n k part None first is rest short kept = tt
known_whole a b c d n k part (Some t) first is rest short kept =
    Appends-kept a c d t (subst (Appends a c) (part_last n k t (subst (λ (l : List ℕ). length l < k) is short)) (known_more a b c n k part (Some t) first is rest)) kept

pub known_kept : (a b c d : Option (List ℕ)) (n k : ℕ) (part : List ℕ) (o : Option (List ℕ)) → IfSome o (λ t. Appends a b (take n t)) → IfSome o (λ t. part ≡ take k (drop n t))
    → Appends b c part → Keeps c d → IfSome o (Begins a d)
known_kept a b c d n k part None first is rest kept = tt
known_kept a b c d n k part (Some t) first is rest kept =
    record { count = n + k; grew = Appends-kept a c d _ (known_more a b c n k part (Some t) first is rest) kept }

-- as a window begins
pub known_seen : (room skip : ℕ) (w v : Window) (o : Option (List ℕ)) → shown w ≡ [] → w.skip ≡ skip → IfSome o (λ t. WritesInCalls (Sees room) w t v) → IfSome o (λ t. shown v ≡ take room (drop skip t))
known_seen room skip w v None none is written = tt
known_seen room skip w v (Some t) none is written = seen room skip w v t none is written

pub at_ok : {T E : Type 0} (r : Result T E) (P : Type 0) → P → OnOk r P
at_ok (Ok x) P p = p
at_ok (Err e) P p = tt

pub at_err : {T E : Type 0} (r : Result T E) (P : Type 0) → P → OnErr r P
at_err (Ok x) P p = tt
at_err (Err e) P p = p
