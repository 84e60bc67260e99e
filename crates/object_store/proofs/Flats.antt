-- Lemmas on the bytes of extents.
use Rattle.std.proofs.Common.{◌≡◌, ℕ, zero, suc, ◌⊎◌, inl, inr, length-drop, ◌+◌, ◌-◌, ◌<◌, ◌≤◌, min, List, [], ◌∷◌, ◌++◌, length, take, drop, replicate, get_or, refl, ap, sym, ◌∙◌, append_assoc, arith, length-append}
use Rattle.std.proofs.lemmas.Bool.Decides.{leb_tells}
use Rattle.std.proofs.lemmas.List.{drop-drop, take_at, drop_at, length-take, length-replicate, append-nil, take-append-drop, take_more, take-append-le, drop-append-le, replicate-append-replicate}
use Rattle.std.proofs.Math.Seq.{take-add, take-append-add, drop-append-add, take-nil}
use Rattle.std.proofs.Math.ListN.{drop_of_length-le}
use Rattle.object_store.proofs.Splice.{spliced_some}
use Rattle.object_store.specs.Object.{spliced, resized}
use Rattle.object_store.specs.Extents.{flat, cut}

pub flat-append : (xs ys : List (List ℕ)) → flat (xs ++ ys) ≡ flat xs ++ flat ys
flat-append [] ys = refl
flat-append (x ∷ xs) ys = ap (λ r. x ++ r) (flat-append xs ys) ∙ sym (append_assoc x (flat xs) (flat ys))

pub flat-push : (xs : List (List ℕ)) (x : List ℕ) → flat (xs ++ x ∷ []) ≡ flat xs ++ x
flat-push xs x = flat-append xs (x ∷ []) ∙ ap (λ r. flat xs ++ r) (append-nil _)

pub flat-halves : (xs : List (List ℕ)) (i : ℕ) → flat (take i xs) ++ flat (drop i xs) ≡ flat xs
flat-halves xs i = sym (flat-append (take i xs) (drop i xs)) ∙ ap flat (take-append-drop i xs)

pub length-flat-take : (xs : List (List ℕ)) (i : ℕ) → length (flat (take i xs)) ≤ length (flat xs)
length-flat-take xs i = omega (arith, sym (ap length (flat-halves xs i)), length-append (flat (take i xs)) (flat (drop i xs)))

pub flat-more : (xs : List (List ℕ)) (i : ℕ) (d : List ℕ) → i < length xs → flat (take (i + 1) xs) ≡ flat (take i xs) ++ (get_or xs i d)
flat-more xs i d h = ap flat (take_more xs i d h) ∙ flat-push (take i xs) (get_or xs i d)

pub length-flat-more : (xs : List (List ℕ)) (i : ℕ) (d : List ℕ) → i < length xs → length (flat (take (i + 1) xs)) ≡ length (flat (take i xs)) + length (get_or xs i d)
length-flat-more xs i d h = ap length (flat-more xs i d h) ∙ length-append (flat (take i xs)) (get_or xs i d)

pub flat-more-fits : (xs : List (List ℕ)) (i : ℕ) (d : List ℕ) → i < length xs → length (flat (take i xs)) + length (get_or xs i d) ≤ length (flat xs)
flat-more-fits xs i d h = omega (arith, length-flat-take xs (i + 1), length-flat-more xs i d h)

le_or : (a b : ℕ) → (a ≤ b) ⊎ (b ≤ a)
le_or zero b = inl (omega arith)
le_or (suc a) zero = inr (omega arith)
le_or (suc a) (suc b) = elim (le_or a b) [ inl p ↦ inl (omega (arith, p)) | inr p ↦ inr (omega (arith, p)) ]

take_whole : (xs : List ℕ) (n : ℕ) → length xs ≤ n → take n xs ≡ xs
take_whole xs n h =
    let e : n ≡ length xs + (n - length xs) = omega arith in
    ap (λ l. take n l) (sym (append-nil xs)) ∙ ap (λ m. take m (xs ++ [])) e ∙ take-append-add xs [] (n - length xs) ∙ ap (λ l. xs ++ l) (take-nil (n - length xs)) ∙ append-nil xs

pub drop-both : (n : ℕ) (xs ys : List ℕ) → drop n (xs ++ ys) ≡ drop n xs ++ drop (n - length xs) ys
drop-both n xs ys =
    elim (le_or n (length xs)) [
      | inl h ↦ let e : 0 ≡ n - length xs = omega (arith, h) in drop-append-le n xs ys h ∙ ap (λ m. drop n xs ++ drop m ys) e
      | inr h ↦ let e : n ≡ length xs + (n - length xs) = omega (arith, h) in
          ap (λ m. drop m (xs ++ ys)) e ∙ drop-append-add xs ys (n - length xs) ∙ ap (λ l. l ++ drop (n - length xs) ys) (sym (drop_of_length-le xs h))
    ]

pub take-both : (n : ℕ) (xs ys : List ℕ) → take n (xs ++ ys) ≡ take n xs ++ take (n - length xs) ys
take-both n xs ys =
    elim (le_or n (length xs)) [
      | inl h ↦ let e : 0 ≡ n - length xs = omega (arith, h) in take-append-le n xs ys h ∙ sym (append-nil (take n xs)) ∙ ap (λ m. take n xs ++ take m ys) e
      | inr h ↦ let e : n ≡ length xs + (n - length xs) = omega (arith, h) in
          ap (λ m. take m (xs ++ ys)) e ∙ take-append-add xs ys (n - length xs) ∙ ap (λ l. l ++ take (n - length xs) ys) (sym (take_whole xs n h))
    ]

-- a range over two parts
pub cut-append : (from to : ℕ) (xs ys : List ℕ) → from ≤ to → cut from to (xs ++ ys) ≡ cut from to xs ++ cut (from - length xs) (to - length xs) ys
cut-append from to xs ys h =
    let e : (to - from) - length (drop from xs) ≡ (to - length xs) - (from - length xs) = omega (arith, length-drop from xs) in
    ap (take (to - from)) (drop-both from xs ys)
    ∙ take-both (to - from) (drop from xs) (drop (from - length xs) ys)
    ∙ ap (λ m. cut from to xs ++ take m (drop (from - length xs) ys)) e

-- a range as far as there are bytes
pub cut-min : (from to : ℕ) (xs : List ℕ) → from ≤ to → cut (min from (length xs)) (min to (length xs)) xs ≡ cut from to xs
cut-min from to xs h =
    elim (le_or from (length xs)) [
      | inl p ↦
          let f : min from (length xs) ≡ from = omega (arith, p) in
          ap (λ m. take (min to (length xs) - m) (drop m xs)) f
          ∙ elim (le_or to (length xs)) [
            | inl q ↦ let t : min to (length xs) ≡ to = omega (arith, q) in ap (λ m. take (m - from) (drop from xs)) t
            | inr q ↦ take_whole (drop from xs) (min to (length xs) - from) (omega (arith, length-drop from xs, q)) ∙ sym (take_whole (drop from xs) (to - from) (omega (arith, length-drop from xs, q)))
          ]
      | inr p ↦
          ap (take (min to (length xs) - min from (length xs))) (drop_of_length-le xs {i = min from (length xs)} (omega (arith, p)))
          ∙ take-nil _
          ∙ sym (ap (take (to - from)) (drop_of_length-le xs {i = from} p) ∙ take-nil _)
    ]

front_parts : (from at : ℕ) (s : List ℕ) → from ≤ at → take from s ++ cut from at s ≡ take at s
front_parts from at s h =
    let e : from + (at - from) ≡ at = omega (arith, h) in
    sym (take-add from (at - from) s) ∙ ap (λ n. take n s) e

back_parts : (end to : ℕ) (s : List ℕ) → min end (length s) ≤ to → cut (min end to) to s ++ drop to s ≡ drop end s
back_parts end to s h =
    elim (le_or end to) [
      | inl p ↦
          let e : min end to ≡ end = omega (arith, p) in
          let t : end + (to - end) ≡ to = omega (arith, p) in
          ap (λ m. cut m to s ++ drop to s) e
          ∙ ap (λ l. cut end to s ++ l) (ap (λ n. drop n s) (sym t) ∙ sym (drop-drop (to - end) end s))
          ∙ take-append-drop (to - end) (drop end s)
      | inr p ↦
          let e : min end to ≡ to = omega (arith, p) in
          let z : to - to ≡ 0 = omega arith in
          ap (λ m. cut m to s ++ drop to s) e
          ∙ ap (λ n. take n (drop to s) ++ drop to s) z
          ∙ elim (le_or end (length s)) [
            | inl q ↦ let same : to ≡ end = omega (arith, p, q, h) in ap (λ n. drop n s) same
            | inr q ↦ drop_of_length-le s {i = to} (omega (arith, q, h)) ∙ sym (drop_of_length-le s {i = end} q)
          ]
    ]

-- text laid over bytes at a place, with zeros in a gap
abbrev pub laid : List ℕ → ℕ → List ℕ → List ℕ
laid bytes at text = take at bytes ++ replicate (at - length bytes) 0 ++ text ++ drop (at + length text) bytes

pub overlay_next : (front chunk rest : List ℕ) (done : ℕ) → done ≡ length front →
    take done (front ++ drop done rest) ++ chunk ++ drop (done + length chunk) (front ++ drop done rest) ≡ (front ++ chunk) ++ drop (done + length chunk) rest
overlay_next front chunk rest done e =
    ap (λ l. (l ++ chunk) ++ drop (done + length chunk) (front ++ drop done rest)) (take_at front (drop done rest) done (sym e))
    ∙ ap (λ l. (front ++ chunk) ++ l) (ap (λ n. drop (n + length chunk) (front ++ drop done rest)) e ∙ drop-append-add front (drop done rest) (length chunk) ∙ drop-drop (length chunk) done rest)

pub length-cut : (from to : ℕ) (xs : List ℕ) → length (cut from to xs) ≤ to - from
length-cut from to xs = omega (arith, length-take (to - from) (drop from xs))

-- the bytes that a write leaves, in the pieces that it makes
pub written : (s : List ℕ) (at : ℕ) (text : List ℕ) (from to : ℕ) → from ≤ at → min (at + length text) (length s) ≤ to →
    (take from s ++ (((cut from at s ++ replicate (at - length s) 0) ++ text) ++ cut (min (at + length text) to) to s)) ++ drop to s ≡ laid s at text
written s at text from to low high =
    let z = replicate (at - length s) 0 in
    let x = cut from at s in
    let y = cut (min (at + length text) to) to s in
    ap (λ l. l ++ drop to s) (sym (append_assoc (take from s) ((x ++ z) ++ text) y)
    ∙ ap (λ l. l ++ y) (sym (append_assoc (take from s) (x ++ z) text) ∙ ap (λ l. l ++ text) (sym (append_assoc (take from s) x z) ∙ ap (λ l. l ++ z) (front_parts from at s low))))
    ∙ append_assoc ((take at s ++ z) ++ text) y (drop to s)
    ∙ ap (λ l. ((take at s ++ z) ++ text) ++ l) (back_parts (at + length text) to s high)

pub length-flat-drop : (xs : List (List ℕ)) (i : ℕ) → length (flat (drop i xs)) ≤ length (flat xs)
length-flat-drop xs i = omega (arith, sym (ap length (flat-halves xs i)), length-append (flat (take i xs)) (flat (drop i xs)))

-- a range is one of the extents after those before it
pub cut-after : (xs : List (List ℕ)) (k from to start : ℕ) → start ≡ length (flat (take k xs)) → start ≤ from → from ≤ to →
    cut (from - start) (to - start) (flat (drop k xs)) ≡ cut from to (flat xs)
cut-after xs k from to start e low h =
    let a = flat (take k xs) in
    let b = flat (drop k xs) in
    let none : cut from to a ≡ [] = ap (take (to - from)) (drop_of_length-le a {i = from} (omega (arith, e, low))) ∙ take-nil _ in
    ap (λ s. cut (from - s) (to - s) b) e
    ∙ sym (ap (λ l. l ++ cut (from - length a) (to - length a) b) none)
    ∙ sym (cut-append from to a b h)
    ∙ ap (cut from to) (flat-halves xs k)

-- a range is one of the extents up to those past it
pub cut-before : (xs : List (List ℕ)) (n from to : ℕ) → from ≤ to → min to (length (flat xs)) ≤ length (flat (take n xs)) →
    cut from to (flat (take n xs)) ≡ cut from to (flat xs)
cut-before xs n from to h enough =
    let a = flat (take n xs) in
    let b = flat (drop n xs) in
    let whole : length (flat xs) ≡ length a + length b = sym (ap length (flat-halves xs n)) ∙ length-append a b in
    let none : cut (from - length a) (to - length a) b ≡ [] =
    elim (leb_tells to (length a)) [
      | inl p ↦ let z : (to - length a) - (from - length a) ≡ 0 = omega (arith, p.1) in ap (λ m. take m (drop (from - length a) b)) z
      | inr p ↦ ap (take ((to - length a) - (from - length a))) (drop_of_length-le b {i = from - length a} (omega (arith, whole, enough, p.1))) ∙ take-nil _
    ] in
    sym (append-nil (cut from to a)) ∙ ap (λ l. cut from to a ++ l) (sym none) ∙ sym (cut-append from to a b h) ∙ ap (cut from to) (flat-halves xs n)

pub write_is : (xs : List (List ℕ)) (at : ℕ) (text : List ℕ) (kept from others to : ℕ) (m all : List ℕ) →
    from ≡ length (flat (take kept xs)) → from ≤ at → to ≡ length (flat (take others xs)) → min (at + length text) (length (flat xs)) ≤ to →
    m ≡ ((cut from at (flat xs) ++ replicate (at - length (flat xs)) 0) ++ text) ++ cut (min (at + length text) to) to (flat xs) →
    all ≡ (flat (take kept xs) ++ m) ++ flat (drop others xs) → all ≡ laid (flat xs) at text
write_is xs at text kept from others to m all ef low et high em ea =
    let front : flat (take kept xs) ≡ take from (flat xs) =
    sym (take_at (flat (take kept xs)) (flat (drop kept xs)) from (sym ef)) ∙ ap (take from) (flat-halves xs kept) in
    let back : flat (drop others xs) ≡ drop to (flat xs) =
    sym (drop_at (flat (take others xs)) (flat (drop others xs)) to (sym et)) ∙ ap (drop to) (flat-halves xs others) in
    ea
    ∙ ap (λ b. (flat (take kept xs) ++ m) ++ b) back
    ∙ ap (λ f. (f ++ m) ++ drop to (flat xs)) front
    ∙ ap (λ w. (take from (flat xs) ++ w) ++ drop to (flat xs)) em
    ∙ written (flat xs) at text from to low high

-- the same, where its pieces are of the extents that it touches
pub touched_is : (xs : List (List ℕ)) (at : ℕ) (text : List ℕ) (kept from count to : ℕ) (m all : List ℕ) →
    from ≡ length (flat (take kept xs)) → from ≤ at → to ≡ length (flat (take count (drop kept xs))) →
    min (at - from + length text) (length (flat (drop kept xs))) ≤ to →
    m ≡ ((cut 0 (at - from) (flat (take count (drop kept xs))) ++ replicate (at - length (flat xs)) 0) ++ text) ++ cut (min (at - from + length text) to) to (flat (take count (drop kept xs))) →
    all ≡ (flat (take kept xs) ++ m) ++ flat (drop (kept + count) xs) → all ≡ laid (flat xs) at text
touched_is xs at text kept from count to m all ef low et high em ea =
    let r = drop kept xs in
    let p = flat (take count r) in
    let z : List ℕ = replicate (at - length (flat xs)) 0 in
    let end = at - from + length text in
    let whole : length (flat xs) ≡ from + length (flat r) =
    sym (ap length (flat-halves xs kept)) ∙ length-append (flat (take kept xs)) (flat r) ∙ ap (λ n. n + length (flat r)) (sym ef) in
    let past : from + to ≡ length (flat (take (kept + count) xs)) =
    ap (λ n. n + to) ef
    ∙ ap (λ n. length (flat (take kept xs)) + n) et
    ∙ sym (length-append (flat (take kept xs)) p)
    ∙ sym (ap length (flat-append (take kept xs) (take count r)))
    ∙ sym (ap (λ l. length (flat l)) (take-add kept count xs)) in
    let none : 0 ≡ from - from = omega arith in
    let first : cut 0 (at - from) p ≡ cut from at (flat xs) =
    cut-before r count 0 (at - from) (omega arith) (omega (arith, et, high))
    ∙ ap (λ n. cut n (at - from) (flat r)) none
    ∙ cut-after xs kept from at from ef (omega arith) low in
    let behind : min end to ≡ min (at + length text) (from + to) - from = omega (arith, low) in
    let up : to ≡ from + to - from = omega arith in
    let last : cut (min end to) to p ≡ cut (min (at + length text) (from + to)) (from + to) (flat xs) =
    cut-before r count (min end to) to (omega arith) (omega (arith, et))
    ∙ ap (λ n. cut n to (flat r)) behind
    ∙ ap (λ n. cut (min (at + length text) (from + to) - from) n (flat r)) up
    ∙ cut-after xs kept (min (at + length text) (from + to)) (from + to) from ef (omega (arith, low)) (omega arith) in
    write_is xs at text kept from (kept + count) (from + to) m all ef low past (omega (arith, high, whole, low))
    (em ∙ ap (λ l. ((l ++ z) ++ text) ++ cut (min end to) to p) first ∙ ap (λ l. ((cut from at (flat xs) ++ z) ++ text) ++ l) last)
    ea

pub spliced_laid : (s : List ℕ) (at : ℕ) (text : List ℕ) → 0 < length text → spliced s at text ≡ laid s at text
spliced_laid s at text h = spliced_some s at text h

pub length_resized : (s : List ℕ) (len : ℕ) → length (resized s len) ≡ len
length_resized s len =
    let z : length {A = ℕ} (replicate (len - length s) 0) ≡ len - length s = length-replicate (len - length s) 0 in
    length-append (take len s) (replicate (len - length s) 0) ∙ omega (arith, z, length-take len s)

-- the bytes that a truncation leaves, in the pieces that it makes
pub resized_is : (xs : List (List ℕ)) (len kept from others : ℕ) (m all : List ℕ) →
    from ≡ length (flat (take kept xs)) → from ≤ len → others ≡ length xs →
    m ≡ ((cut from len (flat xs) ++ replicate (len - length (flat xs)) 0) ++ []) ++ cut 0 0 (flat xs) →
    all ≡ (flat (take kept xs) ++ m) ++ flat (drop others xs) → all ≡ resized (flat xs) len
resized_is xs len kept from others m all ef low eo em ea =
    let z : List ℕ = replicate (len - length (flat xs)) 0 in
    let front : flat (take kept xs) ≡ take from (flat xs) =
    sym (take_at (flat (take kept xs)) (flat (drop kept xs)) from (sym ef)) ∙ ap (take from) (flat-halves xs kept) in
    ea
    ∙ ap (λ n. (flat (take kept xs) ++ m) ++ flat (drop n xs)) eo
    ∙ ap (λ b. (flat (take kept xs) ++ m) ++ flat b) (drop_of_length-le xs {i = length xs} (omega arith))
    ∙ append-nil (flat (take kept xs) ++ m)
    ∙ ap (λ f. f ++ m) front
    ∙ ap (λ w. take from (flat xs) ++ w) (em ∙ append-nil _ ∙ append-nil _)
    ∙ sym (append_assoc (take from (flat xs)) (cut from len (flat xs)) z)
    ∙ ap (λ l. l ++ z) (front_parts from len (flat xs) low)

pub zeros_more : (a b c : ℕ) → a + b ≡ c → ◌≡◌ {A = List ℕ} (replicate a 0 ++ replicate b 0) (replicate c 0)
zeros_more a b c e = replicate-append-replicate a b 0 ∙ ap (λ n. replicate n 0) e

-- an extension in two steps
pub resized_twice : (s : List ℕ) (near len : ℕ) → length s ≤ near → near ≤ len → resized s near ++ replicate (len - near) 0 ≡ resized s len
resized_twice s near len low high =
    append_assoc (take near s) (replicate (near - length s) 0) (replicate (len - near) 0)
    ∙ ap (λ l. take near s ++ l) (zeros_more (near - length s) (len - near) (len - length s) (omega (arith, low, high)))
    ∙ ap (λ l. l ++ replicate (len - length s) 0) (take_whole s near low ∙ sym (take_whole s len (omega (arith, low, high))))
