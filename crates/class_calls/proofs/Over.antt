-- A list of edits over another object.
use Rattle.std.proofs.Common.{◌≡◌, ◌∙◌, ℕ, ◌+◌, ◌-◌, ◌<◌, ◌≤◌, min, Bool, true, false, cond, List, [], ◌∷◌, ◌++◌, Some, None, Result, Ok, Err, is_some, refl, ap, sym, subst, arith, length, take, drop, replicate, get_or, inl, inr, length-append, append_assoc}
use Rattle.std.specs.Prelude.{◌⊎◌, if◌then◌else◌, nat_lt, ◌==◌}
use Rattle.std.specs.FinMap as fin
use Rattle.std.specs.Ordering.{nat_cmp, is_eq, eq_by_cmp}
use Rattle.std.specs.Cmp.Lexicographic.{slice_cmp}
use Rattle.std.specs.declared.cmp.Ordering.{Ordering}
use Rattle.std.specs.declared.cmp.Ordering.TheVariants.{Less, Equal, Greater}
use Rattle.std.proofs.lemmas.Bool.{ltb-true, ltb-false, eqb-true, eqb-false}
use Rattle.std.proofs.lemmas.Cmp.{nat_list_cmp_total}
use Rattle.std.proofs.lemmas.List.{get_or-take, get_or-drop, get_or-replicate, get_or-append_right, get_or_append_left, length-take, length-drop, length-replicate}
use Rattle.std.proofs.Math.ListN.{get_or-eq_default}
use Rattle.std.proofs.lemmas.Map.Lookups.{exact_bytes}
use Rattle.std.specs.Cmp.{tied_itself}
use Rattle.object_store.specs.declared.store_error.StoreError.{StoreError}
use Rattle.object_store.specs.declared.store_error.StoreError.TheVariants.{TooBig, TooMany, NoAttr, Range, Absent}
use Rattle.object_store.specs.declared.limits.TheConstants.{DATA_LIMIT, VALUE_LIMIT, XATTR_LIMIT, KEY_LIMIT}
use Rattle.object_store.specs.Object.{Attributes, Content, PlainObject, nothing, content_of, spliced, resized}
use Rattle.object_store.specs.Calls as calls
use Rattle.txn.specs.Edits.{Edit, Create, Remove, SetXattr, RemoveXattr, SetKey, RemoveKey, SetLength, Write, there, edited, and_then, all_edited}
use Rattle.txn.specs.Made.{made, all_made}
use Rattle.class_calls.specs.Over.{Position, Byte, Xattr, Key, AreSameAt, AreOfOneSize, WritesByte, Writes, Wrote, MadeIsEdited, ListsStand}

-- ---- the bytes
under : (a b : ℕ) → (a < b) ⊎ (b ≤ a)
under a b = by (nat_lt a b) refl
  where
    by : (t : Bool) → nat_lt a b ≡ t → (a < b) ⊎ (b ≤ a)
    by true e = inl (ltb-true a b e)
    by false e = inr (omega (arith, ltb-false a b e))

-- a new length: bytes below both stay, the others are zeros
cut_low : (xs : List ℕ) (len i : ℕ) → i < len → i < length xs → get_or (resized xs len) i 0 ≡ get_or xs i 0
cut_low xs len i h g =
    let front : i < length (take len xs) = omega (arith, length-take len xs) in
    get_or_append_left (take len xs) (replicate (len - length xs) 0) 0 i front ∙ get_or-take len xs i 0 h

cut_high : (xs : List ℕ) (len i : ℕ) → (length xs ≤ i) ⊎ (len ≤ i) → get_or (resized xs len) i 0 ≡ 0
cut_high xs len i h = by (under i (length (resized xs len)))
  where
    long : length (resized xs len) ≡ min len (length xs) + (len - length xs)
    long = length-append (take len xs) (replicate (len - length xs) 0) ∙ (λ j. length-take len xs j + length-replicate {A = ℕ} (len - length xs) 0 j)

    front : min len (length xs) ≤ i
    front = either h
      where
        either : (length xs ≤ i) ⊎ (len ≤ i) → min len (length xs) ≤ i
        either (inl g) = omega (arith, g)
        either (inr g) = omega (arith, g)

    by : (i < length (resized xs len)) ⊎ (length (resized xs len) ≤ i) → get_or (resized xs len) i 0 ≡ 0
    by (inl g) =
        get_or-append_right (take len xs) (replicate (len - length xs) 0) (min len (length xs)) i 0 (length-take len xs) front
        ∙ get_or-replicate (len - length xs) (i - min len (length xs)) 0 0 (omega (arith, g, long, front))
    by (inr g) = get_or-eq_default (resized xs len) 0 g

-- a write, as its four pieces
abbrev pieces : List ℕ → ℕ → List ℕ → List ℕ
pieces xs at text = take at xs ++ (replicate (at - length xs) 0 ++ (text ++ drop (at + length text) xs))

abbrev raw : List ℕ → ℕ → List ℕ → List ℕ
raw xs at text = take at xs ++ replicate (at - length xs) 0 ++ text ++ drop (at + length text) xs

spliced_is : (xs : List ℕ) (at : ℕ) (text : List ℕ) → 0 < length text → spliced xs at text ≡ pieces xs at text
spliced_is xs at text h = by (length text == 0) refl
  where
    by : (b : Bool) → (length text == 0) ≡ b → (if b then xs else raw xs at text) ≡ pieces xs at text
    by true e = let none : length text ≡ 0 = eqb-true (length text) 0 e in absurd (omega (arith, h, none))
    by false e =
        let front = take at xs in
        let gap : List ℕ = replicate (at - length xs) 0 in
        let end = drop (at + length text) xs in
        append_assoc (front ++ gap) text end ∙ append_assoc front gap (text ++ end)

spliced_not : (xs : List ℕ) (at : ℕ) (text : List ℕ) → length text ≤ 0 → spliced xs at text ≡ xs
spliced_not xs at text h = by (length text == 0) refl
  where
    by : (b : Bool) → (length text == 0) ≡ b → (if b then xs else raw xs at text) ≡ xs
    by true e = refl
    by false e = absurd (eqb-false (length text) 0 e (omega (arith, h)))

-- below range and gap
below : (xs : List ℕ) (at : ℕ) (text : List ℕ) (i : ℕ) → i < at → i < length xs → get_or (pieces xs at text) i 0 ≡ get_or xs i 0
below xs at text i h g =
    let front : i < length (take at xs) = omega (arith, length-take at xs) in
    get_or_append_left (take at xs) _ 0 i front ∙ get_or-take at xs i 0 h

-- what the gap and the range get
abbrev range_byte : ℕ → ℕ → List ℕ → ℕ → ℕ
range_byte size at text i = get_or (replicate (at - size) 0 ++ text) (i - min at size) 0

within : (xs : List ℕ) (at : ℕ) (text : List ℕ) (i : ℕ) → min at (length xs) ≤ i → i < at + length text → get_or (pieces xs at text) i 0 ≡ range_byte (length xs) at text i
within xs at text i h g =
    let gap : List ℕ = replicate (at - length xs) 0 in
    let end = drop (at + length text) xs in
    let n = min at (length xs) in
    let long : length (gap ++ text) ≡ (at - length xs) + length text = length-append gap text ∙ ap (λ (k : ℕ). k + length text) (length-replicate {A = ℕ} (at - length xs) 0) in
    let inside : i - n < length (gap ++ text) = omega (arith, long, h, g) in
    get_or-append_right (take at xs) (gap ++ (text ++ end)) n i 0 (length-take at xs) h
    ∙ ap (λ (ys : List ℕ). get_or ys (i - n) 0) (sym (append_assoc gap text end))
    ∙ get_or_append_left (gap ++ text) end 0 (i - n) inside

behind : (xs : List ℕ) (at : ℕ) (text : List ℕ) (i : ℕ) → at + length text ≤ i → get_or (pieces xs at text) i 0 ≡ get_or xs i 0
behind xs at text i h =
    let gap : List ℕ = replicate (at - length xs) 0 in
    let end = drop (at + length text) xs in
    let n = min at (length xs) in
    let g = at - length xs in
    let first : n ≤ i = omega (arith, h) in
    let second : g ≤ i - n = omega (arith, h) in
    let third : length text ≤ i - n - g = omega (arith, h) in
    let place : at + length text + (i - n - g - length text) ≡ i = omega (arith, h) in
    get_or-append_right (take at xs) (gap ++ (text ++ end)) n i 0 (length-take at xs) first
    ∙ get_or-append_right gap (text ++ end) g (i - n) 0 (length-replicate {A = ℕ} g 0) second
    ∙ get_or-append_right text end (length text) (i - n - g) 0 refl third
    ∙ get_or-drop (at + length text) xs (i - n - g - length text) 0
    ∙ ap (λ (k : ℕ). get_or xs k 0) place

spliced_long : (xs ys : List ℕ) (at : ℕ) (text : List ℕ) → length xs ≡ length ys → length (spliced xs at text) ≡ length (spliced ys at text)
spliced_long xs ys at text e = by (under 0 (length text))
  where
    size : (zs : List ℕ) → length (pieces zs at text) ≡ min at (length zs) + ((at - length zs) + (length text + (length zs - (at + length text))))
    size zs =
        length-append (take at zs) _
        ∙ (λ j. length-take at zs j + length-append (replicate (at - length zs) 0) (text ++ drop (at + length text) zs) j)
        ∙ (λ j. min at (length zs) + (length-replicate {A = ℕ} (at - length zs) 0 j + length-append text (drop (at + length text) zs) j))
        ∙ (λ j. min at (length zs) + ((at - length zs) + (length text + length-drop (at + length text) zs j)))

    by : (0 < length text) ⊎ (length text ≤ 0) → length (spliced xs at text) ≡ length (spliced ys at text)
    by (inl h) =
        ap length (spliced_is xs at text h)
        ∙ size xs
        ∙ ap (λ (n : ℕ). min at n + ((at - n) + (length text + (n - (at + length text))))) e
        ∙ sym (size ys)
        ∙ sym (ap length (spliced_is ys at text h))
    by (inr h) = ap length (spliced_not xs at text h) ∙ e ∙ sym (ap length (spliced_not ys at text h))

resized_long : (xs ys : List ℕ) (len : ℕ) → length xs ≡ length ys → length (resized xs len) ≡ length (resized ys len)
resized_long xs ys len e =
    let size : (zs : List ℕ) → length (resized zs len) ≡ min len (length zs) + (len - length zs) =
    λ zs. length-append (take len zs) (replicate (len - length zs) 0) ∙ (λ j. length-take len zs j + length-replicate {A = ℕ} (len - length zs) 0 j) in
    size xs ∙ ap (λ (n : ℕ). min len n + (len - n)) e ∙ sym (size ys)

-- ---- names
tied : (q k : List ℕ) (r : Ordering) → slice_cmp nat_cmp q k ≡ r → is_eq r ≡ true → q ≡ k
tied q k Equal e t = exact_bytes q k e
tied q k Less e t = absurd (cc)
tied q k Greater e t = absurd (cc)

insert_kept : (m : Attributes) (k v q : List ℕ) → (q ≡ k → ⊥) → fin.get (fin.insert m k v) q ≡ fin.get m q
insert_kept m k v q other = fin.get-insert nat_list_cmp_total m k v q ∙ by (eq_by_cmp (slice_cmp nat_cmp) q k) refl
  where
    by : (b : Bool) → eq_by_cmp (slice_cmp nat_cmp) q k ≡ b → cond b (Some v) (fin.get m q) ≡ fin.get m q
    by true e = absurd (other (tied q k (slice_cmp nat_cmp q k) refl e))
    by false e = refl

insert_same : (m n : Attributes) (k v q : List ℕ) → (q ≡ k) ⊎ (fin.get m q ≡ fin.get n q) → fin.get (fin.insert m k v) q ≡ fin.get (fin.insert n k v) q
insert_same m n k v q h = fin.get-insert nat_list_cmp_total m k v q ∙ by h ∙ sym (fin.get-insert nat_list_cmp_total n k v q)
  where
    by : (q ≡ k) ⊎ (fin.get m q ≡ fin.get n q) → cond (eq_by_cmp (slice_cmp nat_cmp) q k) (Some v) (fin.get m q) ≡ cond (eq_by_cmp (slice_cmp nat_cmp) q k) (Some v) (fin.get n q)
    by (inl e) =
        let self : eq_by_cmp (slice_cmp nat_cmp) q k ≡ true = ap (λ (x : List ℕ). eq_by_cmp (slice_cmp nat_cmp) x k) e ∙ ap is_eq (tied_itself nat_list_cmp_total k) in
        ap (λ (b : Bool). cond b (Some v) (fin.get m q)) self ∙ sym (ap (λ (b : Bool). cond b (Some v) (fin.get n q)) self)
    by (inr e) = ap (cond (eq_by_cmp (slice_cmp nat_cmp) q k) (Some v)) e

remove_kept : (m : Attributes) (k q : List ℕ) → (q ≡ k → ⊥) → fin.get (fin.remove m k) q ≡ fin.get m q
remove_kept m k q other = fin.get-remove nat_list_cmp_total m k q ∙ by (eq_by_cmp (slice_cmp nat_cmp) q k) refl
  where
    by : (b : Bool) → eq_by_cmp (slice_cmp nat_cmp) q k ≡ b → cond b None (fin.get m q) ≡ fin.get m q
    by true e = absurd (other (tied q k (slice_cmp nat_cmp q k) refl e))
    by false e = refl

remove_same : (m n : Attributes) (k q : List ℕ) → (q ≡ k) ⊎ (fin.get m q ≡ fin.get n q) → fin.get (fin.remove m k) q ≡ fin.get (fin.remove n k) q
remove_same m n k q h = fin.get-remove nat_list_cmp_total m k q ∙ by h ∙ sym (fin.get-remove nat_list_cmp_total n k q)
  where
    by : (q ≡ k) ⊎ (fin.get m q ≡ fin.get n q) → cond (eq_by_cmp (slice_cmp nat_cmp) q k) None (fin.get m q) ≡ cond (eq_by_cmp (slice_cmp nat_cmp) q k) None (fin.get n q)
    by (inl e) =
        let self : eq_by_cmp (slice_cmp nat_cmp) q k ≡ true = ap (λ (x : List ℕ). eq_by_cmp (slice_cmp nat_cmp) x k) e ∙ ap is_eq (tied_itself nat_list_cmp_total k) in
        ap (λ (b : Bool). cond b None (fin.get m q)) self ∙ sym (ap (λ (b : Bool). cond b None (fin.get n q)) self)
    by (inr e) = ap (cond (eq_by_cmp (slice_cmp nat_cmp) q k) None) e

-- ---- positions
false_true : {A : Type 0} → false ≡ true → A
false_true e = cc

ok_is : (x y : PlainObject) → ◌≡◌ {A = Result PlainObject StoreError} (Ok x) (Ok y) → x ≡ y
ok_is x y e = cc

refl_at : (p : Position) (o : PlainObject) → AreSameAt p o o
refl_at (Byte i) o = refl
refl_at (Xattr name) o = refl
refl_at (Key key) o = refl

joined_at : (p : Position) (a b c : PlainObject) → AreSameAt p a b → AreSameAt p b c → AreSameAt p a c
joined_at (Byte i) a b c g h = g ∙ h
joined_at (Xattr name) a b c g h = g ∙ h
joined_at (Key key) a b c g h = g ∙ h

-- ---- one edit
abbrev bytes_of : PlainObject → List ℕ
bytes_of o = (content_of o).bytes

-- over both objects the same presence and size are left
one_size : (e : Edit) (o p : PlainObject) → AreOfOneSize o p → AreOfOneSize (made e o) (made e p)
one_size Create None None g = record { there = refl; size = refl }
one_size Create (Some c) (Some d) g = g
one_size Create None (Some d) g = absurd (false_true g.there)
one_size Create (Some c) None g = absurd (false_true (sym g.there))
one_size Remove o p g = record { there = refl; size = refl }
one_size (SetXattr name value) o p g = record { there = refl; size = g.size }
one_size (RemoveXattr name) None None g = g
one_size (RemoveXattr name) (Some c) (Some d) g = record { there = refl; size = g.size }
one_size (RemoveXattr name) None (Some d) g = absurd (false_true g.there)
one_size (RemoveXattr name) (Some c) None g = absurd (false_true (sym g.there))
one_size (SetKey key value) o p g = record { there = refl; size = g.size }
one_size (RemoveKey key) None None g = g
one_size (RemoveKey key) (Some c) (Some d) g = record { there = refl; size = g.size }
one_size (RemoveKey key) None (Some d) g = absurd (false_true g.there)
one_size (RemoveKey key) (Some c) None g = absurd (false_true (sym g.there))
one_size (SetLength len) None None g = g
one_size (SetLength len) (Some c) (Some d) g = record { there = refl; size = resized_long c.bytes d.bytes len g.size }
one_size (SetLength len) None (Some d) g = absurd (false_true g.there)
one_size (SetLength len) (Some c) None g = absurd (false_true (sym g.there))
one_size (Write at text) o p g = record { there = refl; size = spliced_long (bytes_of o) (bytes_of p) at text g.size }

-- a byte that a write covers
covered : (xs ys : List ℕ) (at : ℕ) (text : List ℕ) (i : ℕ) → length xs ≡ length ys → 0 < length text → (at ≤ i) ⊎ (length xs ≤ i) → i < at + length text → get_or (spliced xs at text) i 0 ≡ get_or (spliced ys at text) i 0
covered xs ys at text i size some from to =
    ap (λ (zs : List ℕ). get_or zs i 0) (spliced_is xs at text some)
    ∙ within xs at text i (least from) to
    ∙ ap (λ (n : ℕ). range_byte n at text i) size
    ∙ sym (within ys at text i (subst (λ (n : ℕ). min at n ≤ i) size (least from)) to)
    ∙ sym (ap (λ (zs : List ℕ). get_or zs i 0) (spliced_is ys at text some))
  where
    least : (at ≤ i) ⊎ (length xs ≤ i) → min at (length xs) ≤ i
    least (inl h) = omega (arith, h)
    least (inr h) = omega (arith, h)

-- one that it doesn't
uncovered : (xs : List ℕ) (at : ℕ) (text : List ℕ) (i : ℕ) → (WritesByte (length xs) (Write at text) i → ⊥) → get_or (spliced xs at text) i 0 ≡ get_or xs i 0
uncovered xs at text i not_written = by (under 0 (length text)) (under i at) (under i (length xs)) (under i (at + length text))
  where
    whole : 0 < length text → get_or (pieces xs at text) i 0 ≡ get_or xs i 0 → get_or (spliced xs at text) i 0 ≡ get_or xs i 0
    whole h e = ap (λ (zs : List ℕ). get_or zs i 0) (spliced_is xs at text h) ∙ e

    by : (0 < length text) ⊎ (length text ≤ 0) → (i < at) ⊎ (at ≤ i) → (i < length xs) ⊎ (length xs ≤ i) → (i < at + length text) ⊎ (at + length text ≤ i) → get_or (spliced xs at text) i 0 ≡ get_or xs i 0
    by (inr none) a b c = ap (λ (zs : List ℕ). get_or zs i 0) (spliced_not xs at text none)
    by (inl h) a b (inr past) = whole h (behind xs at text i past)
    by (inl h) (inr from) b (inl to) = absurd (not_written (h, inl from, to))
    by (inl h) (inl low) (inr from) (inl to) = absurd (not_written (h, inr from, to))
    by (inl h) (inl low) (inl short) (inl to) = whole h (below xs at text i low short)

cut_kept : (xs : List ℕ) (len i : ℕ) → (WritesByte (length xs) (SetLength len) i → ⊥) → get_or (resized xs len) i 0 ≡ get_or xs i 0
cut_kept xs len i not_written = by (under i len) (under i (length xs))
  where
    by : (i < len) ⊎ (len ≤ i) → (i < length xs) ⊎ (length xs ≤ i) → get_or (resized xs len) i 0 ≡ get_or xs i 0
    by (inl h) (inl g) = cut_low xs len i h g
    by (inl h) (inr g) = absurd (not_written (inl (g, h)))
    by (inr h) (inl g) = absurd (not_written (inr (h, g)))
    by (inr h) (inr g) = cut_high xs len i (inr h) ∙ sym (get_or-eq_default xs 0 g)

cut_written : (xs ys : List ℕ) (len i : ℕ) → length xs ≡ length ys → WritesByte (length xs) (SetLength len) i → get_or (resized xs len) i 0 ≡ get_or (resized ys len) i 0
cut_written xs ys len i size (inl h) = cut_high xs len i (inl h.0) ∙ sym (cut_high ys len i (inl (omega (arith, size, h.0))))
cut_written xs ys len i size (inr h) = cut_high xs len i (inr h.0) ∙ sym (cut_high ys len i (inr h.0))

-- where both have the same byte, both have it afterwards
cut_same : (xs ys : List ℕ) (len i : ℕ) → length xs ≡ length ys → get_or xs i 0 ≡ get_or ys i 0 → get_or (resized xs len) i 0 ≡ get_or (resized ys len) i 0
cut_same xs ys len i size same = by (under i len) (under i (length xs))
  where
    by : (i < len) ⊎ (len ≤ i) → (i < length xs) ⊎ (length xs ≤ i) → get_or (resized xs len) i 0 ≡ get_or (resized ys len) i 0
    by (inl h) (inl g) = cut_low xs len i h g ∙ same ∙ sym (cut_low ys len i h (omega (arith, g, size)))
    by (inl h) (inr g) = cut_high xs len i (inl g) ∙ sym (cut_high ys len i (inl (omega (arith, g, size))))
    by (inr h) g = cut_high xs len i (inr h) ∙ sym (cut_high ys len i (inr h))

write_same : (xs ys : List ℕ) (at : ℕ) (text : List ℕ) (i : ℕ) → length xs ≡ length ys → get_or xs i 0 ≡ get_or ys i 0 → get_or (spliced xs at text) i 0 ≡ get_or (spliced ys at text) i 0
write_same xs ys at text i size same = by (under 0 (length text)) (under i at) (under i (length xs)) (under i (at + length text))
  where
    alike : 0 < length text → get_or (pieces xs at text) i 0 ≡ get_or xs i 0 → get_or (pieces ys at text) i 0 ≡ get_or ys i 0 → get_or (spliced xs at text) i 0 ≡ get_or (spliced ys at text) i 0
    alike h e f = ap (λ (zs : List ℕ). get_or zs i 0) (spliced_is xs at text h) ∙ e ∙ same ∙ sym f ∙ sym (ap (λ (zs : List ℕ). get_or zs i 0) (spliced_is ys at text h))

    by : (0 < length text) ⊎ (length text ≤ 0) → (i < at) ⊎ (at ≤ i) → (i < length xs) ⊎ (length xs ≤ i) → (i < at + length text) ⊎ (at + length text ≤ i) → get_or (spliced xs at text) i 0 ≡ get_or (spliced ys at text) i 0
    by (inr none) a b c = ap (λ (zs : List ℕ). get_or zs i 0) (spliced_not xs at text none) ∙ same ∙ sym (ap (λ (zs : List ℕ). get_or zs i 0) (spliced_not ys at text none))
    by (inl h) a b (inr past) = alike h (behind xs at text i past) (behind ys at text i past)
    by (inl h) (inr from) b (inl to) = covered xs ys at text i size h (inl from) to
    by (inl h) (inl low) (inr from) (inl to) = covered xs ys at text i size h (inr from) to
    by (inl h) (inl low) (inl short) (inl to) = alike h (below xs at text i low short) (below ys at text i low (omega (arith, short, size)))

-- what an edit writes is the same over both
written_once : (e : Edit) (o x : PlainObject) (p : Position) → AreOfOneSize o x → Writes e o p → AreSameAt p (made e x) (made e o)
written_once Create o x (Byte i) g w = absurd w
written_once Create o x (Xattr name) g w = absurd w
written_once Create o x (Key key) g w = absurd w
written_once Remove o x (Byte i) g w = refl
written_once Remove o x (Xattr name) g w = refl
written_once Remove o x (Key key) g w = refl
written_once (SetXattr own value) o x (Byte i) g w = absurd w
written_once (SetXattr own value) o x (Xattr name) g w = insert_same (content_of x).xattrs (content_of o).xattrs own value name (inl w)
written_once (SetXattr own value) o x (Key key) g w = absurd w
written_once (RemoveXattr own) o x (Byte i) g w = absurd w
written_once (RemoveXattr own) None None (Xattr name) g w = refl
written_once (RemoveXattr own) (Some c) (Some d) (Xattr name) g w = remove_same d.xattrs c.xattrs own name (inl w)
written_once (RemoveXattr own) None (Some d) (Xattr name) g w = absurd (false_true g.there)
written_once (RemoveXattr own) (Some c) None (Xattr name) g w = absurd (false_true (sym g.there))
written_once (RemoveXattr own) o x (Key key) g w = absurd w
written_once (SetKey own value) o x (Byte i) g w = absurd w
written_once (SetKey own value) o x (Xattr name) g w = absurd w
written_once (SetKey own value) o x (Key key) g w = insert_same (content_of x).omap (content_of o).omap own value key (inl w)
written_once (RemoveKey own) o x (Byte i) g w = absurd w
written_once (RemoveKey own) o x (Xattr name) g w = absurd w
written_once (RemoveKey own) None None (Key key) g w = refl
written_once (RemoveKey own) (Some c) (Some d) (Key key) g w = remove_same d.omap c.omap own key (inl w)
written_once (RemoveKey own) None (Some d) (Key key) g w = absurd (false_true g.there)
written_once (RemoveKey own) (Some c) None (Key key) g w = absurd (false_true (sym g.there))
written_once (SetLength len) None None (Byte i) g w = refl
written_once (SetLength len) (Some c) (Some d) (Byte i) g w = sym (cut_written c.bytes d.bytes len i g.size w)
written_once (SetLength len) None (Some d) (Byte i) g w = absurd (false_true g.there)
written_once (SetLength len) (Some c) None (Byte i) g w = absurd (false_true (sym g.there))
written_once (SetLength len) o x (Xattr name) g w = absurd w
written_once (SetLength len) o x (Key key) g w = absurd w
written_once (Write at text) o x (Byte i) g w = sym (covered (bytes_of o) (bytes_of x) at text i g.size w.0 w.1 w.2)
written_once (Write at text) o x (Xattr name) g w = absurd w
written_once (Write at text) o x (Key key) g w = absurd w

-- what it doesn't write stays; `x` has the presence and size of the object whose edits they are
kept_once : (e : Edit) (o x : PlainObject) (p : Position) → AreOfOneSize o x → (Writes e o p → ⊥) → AreSameAt p (made e x) x
kept_once Create o None (Byte i) g w = refl
kept_once Create o None (Xattr name) g w = refl
kept_once Create o None (Key key) g w = refl
kept_once Create o (Some d) (Byte i) g w = refl
kept_once Create o (Some d) (Xattr name) g w = refl
kept_once Create o (Some d) (Key key) g w = refl
kept_once Remove o x (Byte i) g w = absurd (w tt)
kept_once Remove o x (Xattr name) g w = absurd (w tt)
kept_once Remove o x (Key key) g w = absurd (w tt)
kept_once (SetXattr own value) o x (Byte i) g w = refl
kept_once (SetXattr own value) o x (Xattr name) g w = insert_kept (content_of x).xattrs own value name w
kept_once (SetXattr own value) o x (Key key) g w = refl
kept_once (RemoveXattr own) o None (Byte i) g w = refl
kept_once (RemoveXattr own) o None (Xattr name) g w = refl
kept_once (RemoveXattr own) o None (Key key) g w = refl
kept_once (RemoveXattr own) o (Some d) (Byte i) g w = refl
kept_once (RemoveXattr own) o (Some d) (Xattr name) g w = remove_kept d.xattrs own name w
kept_once (RemoveXattr own) o (Some d) (Key key) g w = refl
kept_once (SetKey own value) o x (Byte i) g w = refl
kept_once (SetKey own value) o x (Xattr name) g w = refl
kept_once (SetKey own value) o x (Key key) g w = insert_kept (content_of x).omap own value key w
kept_once (RemoveKey own) o None (Byte i) g w = refl
kept_once (RemoveKey own) o None (Xattr name) g w = refl
kept_once (RemoveKey own) o None (Key key) g w = refl
kept_once (RemoveKey own) o (Some d) (Byte i) g w = refl
kept_once (RemoveKey own) o (Some d) (Xattr name) g w = refl
kept_once (RemoveKey own) o (Some d) (Key key) g w = remove_kept d.omap own key w
kept_once (SetLength len) o None (Byte i) g w = refl
kept_once (SetLength len) o None (Xattr name) g w = refl
kept_once (SetLength len) o None (Key key) g w = refl
kept_once (SetLength len) o (Some d) (Byte i) g w = cut_kept d.bytes len i (λ h. w (subst (λ (n : ℕ). WritesByte n (SetLength len) i) (sym g.size) h))
kept_once (SetLength len) o (Some d) (Xattr name) g w = refl
kept_once (SetLength len) o (Some d) (Key key) g w = refl
kept_once (Write at text) o x (Byte i) g w = uncovered (bytes_of x) at text i (λ h. w (subst (λ (n : ℕ). WritesByte n (Write at text) i) (sym g.size) h))
kept_once (Write at text) o x (Xattr name) g w = refl
kept_once (Write at text) o x (Key key) g w = refl

-- where both have the same, both have it afterwards
same_once : (e : Edit) (o x : PlainObject) (p : Position) → AreOfOneSize o x → AreSameAt p x o → AreSameAt p (made e x) (made e o)
same_once Create None None p g s = refl_at p (Some nothing)
same_once Create (Some c) (Some d) p g s = s
same_once Create None (Some d) p g s = absurd (false_true g.there)
same_once Create (Some c) None p g s = absurd (false_true (sym g.there))
same_once Remove o x p g s = refl_at p None
same_once (SetXattr own value) o x (Byte i) g s = s
same_once (SetXattr own value) o x (Xattr name) g s = insert_same (content_of x).xattrs (content_of o).xattrs own value name (inr s)
same_once (SetXattr own value) o x (Key key) g s = s
same_once (RemoveXattr own) None None p g s = refl_at p None
same_once (RemoveXattr own) (Some c) (Some d) (Byte i) g s = s
same_once (RemoveXattr own) (Some c) (Some d) (Xattr name) g s = remove_same d.xattrs c.xattrs own name (inr s)
same_once (RemoveXattr own) (Some c) (Some d) (Key key) g s = s
same_once (RemoveXattr own) None (Some d) p g s = absurd (false_true g.there)
same_once (RemoveXattr own) (Some c) None p g s = absurd (false_true (sym g.there))
same_once (SetKey own value) o x (Byte i) g s = s
same_once (SetKey own value) o x (Xattr name) g s = s
same_once (SetKey own value) o x (Key key) g s = insert_same (content_of x).omap (content_of o).omap own value key (inr s)
same_once (RemoveKey own) None None p g s = refl_at p None
same_once (RemoveKey own) (Some c) (Some d) (Byte i) g s = s
same_once (RemoveKey own) (Some c) (Some d) (Xattr name) g s = s
same_once (RemoveKey own) (Some c) (Some d) (Key key) g s = remove_same d.omap c.omap own key (inr s)
same_once (RemoveKey own) None (Some d) p g s = absurd (false_true g.there)
same_once (RemoveKey own) (Some c) None p g s = absurd (false_true (sym g.there))
same_once (SetLength len) None None p g s = refl_at p None
same_once (SetLength len) (Some c) (Some d) (Byte i) g s = cut_same d.bytes c.bytes len i (sym g.size) s
same_once (SetLength len) (Some c) (Some d) (Xattr name) g s = s
same_once (SetLength len) (Some c) (Some d) (Key key) g s = s
same_once (SetLength len) None (Some d) p g s = absurd (false_true g.there)
same_once (SetLength len) (Some c) None p g s = absurd (false_true (sym g.there))
same_once (Write at text) o x (Byte i) g s = write_same (bytes_of x) (bytes_of o) at text i (sym g.size) s
same_once (Write at text) o x (Xattr name) g s = s
same_once (Write at text) o x (Key key) g s = s

-- ---- a list
alike_after : (es : List Edit) (o x : PlainObject) → AreOfOneSize o x → AreOfOneSize (all_made es o) (all_made es x)
alike_after [] o x g = g
alike_after (e ∷ es) o x g = alike_after es (made e o) (made e x) (one_size e o x g)

same_after : (es : List Edit) (o x : PlainObject) (p : Position) → AreOfOneSize o x → AreSameAt p x o → AreSameAt p (all_made es x) (all_made es o)
same_after [] o x p g s = s
same_after (e ∷ es) o x p g s = same_after es (made e o) (made e x) p (one_size e o x g) (same_once e o x p g s)

written_after : (es : List Edit) (o x : PlainObject) (p : Position) → AreOfOneSize o x → Wrote es o p → AreSameAt p (all_made es x) (all_made es o)
written_after [] o x p g w = absurd w
written_after (e ∷ es) o x p g (inl w) = same_after es (made e o) (made e x) p (one_size e o x g) (written_once e o x p g w)
written_after (e ∷ es) o x p g (inr w) = written_after es (made e o) (made e x) p (one_size e o x g) w

kept_after : (es : List Edit) (o x : PlainObject) (p : Position) → AreOfOneSize o x → (Wrote es o p → ⊥) → AreSameAt p (all_made es x) x
kept_after [] o x p g w = refl_at p x
kept_after (e ∷ es) o x p g w =
    joined_at p (all_made es (made e x)) (made e x) x
    (kept_after es (made e o) (made e x) p (one_size e o x g) (λ h. w (inr h)))
    (kept_once e o x p g (λ h. w (inl h)))

pub lists_stand : ListsStand
lists_stand es own other g = record {
  alike = alike_after es own other g;
  written = λ p w. written_after es own other p g w;
  kept = λ p w. kept_after es own other p g w;
}

-- ---- an edit that isn't refused
made_once : (e : Edit) (o p : PlainObject) → edited e o ≡ Ok p → made e o ≡ p
made_once Create None p h = ok_is _ _ h
made_once Create (Some c) p h = absurd (cc)
made_once Remove None p h = absurd (cc)
made_once Remove (Some c) p h = ok_is _ _ h
made_once (SetXattr name value) o p h = named (calls.is_named name) h
  where
    c : Content
    c = content_of o

    fits : (b t : Bool) → there (calls.with_xattrs c (if b then Ok (fin.insert c.xattrs name value) else if t then Ok (fin.insert c.xattrs name value) else Err TooMany)) ≡ Ok p → Some (record c { xattrs = fin.insert c.xattrs name value }) ≡ p
    fits true t h = ok_is _ _ h
    fits false true h = ok_is _ _ h
    fits false false h = absurd (cc)

    short : (b : Bool) → there (if b then Err TooBig else calls.with_xattrs c (calls.set_in XATTR_LIMIT c.xattrs name value)) ≡ Ok p → Some (record c { xattrs = fin.insert c.xattrs name value }) ≡ p
    short true h = absurd (cc)
    short false h = fits (is_some (fin.get c.xattrs name)) (nat_lt (fin.len c.xattrs) XATTR_LIMIT) h

    named : (b : Bool) → there (if b then (if nat_lt VALUE_LIMIT (length value) then Err TooBig else calls.with_xattrs c (calls.set_in XATTR_LIMIT c.xattrs name value)) else Err Range) ≡ Ok p → Some (record c { xattrs = fin.insert c.xattrs name value }) ≡ p
    named true h = short (nat_lt VALUE_LIMIT (length value)) h
    named false h = absurd (cc)
made_once (SetKey key value) o p h = named (calls.is_named key) h
  where
    c : Content
    c = content_of o

    fits : (b t : Bool) → there (calls.with_omap c (if b then Ok (fin.insert c.omap key value) else if t then Ok (fin.insert c.omap key value) else Err TooMany)) ≡ Ok p → Some (record c { omap = fin.insert c.omap key value }) ≡ p
    fits true t h = ok_is _ _ h
    fits false true h = ok_is _ _ h
    fits false false h = absurd (cc)

    short : (b : Bool) → there (if b then Err TooBig else calls.with_omap c (calls.set_in KEY_LIMIT c.omap key value)) ≡ Ok p → Some (record c { omap = fin.insert c.omap key value }) ≡ p
    short true h = absurd (cc)
    short false h = fits (is_some (fin.get c.omap key)) (nat_lt (fin.len c.omap) KEY_LIMIT) h

    named : (b : Bool) → there (if b then (if nat_lt VALUE_LIMIT (length value) then Err TooBig else calls.with_omap c (calls.set_in KEY_LIMIT c.omap key value)) else Err Range) ≡ Ok p → Some (record c { omap = fin.insert c.omap key value }) ≡ p
    named true h = short (nat_lt VALUE_LIMIT (length value)) h
    named false h = absurd (cc)
made_once (RemoveXattr name) None p h = absurd (absent_not (calls.is_named name) h)
  where
    absent_not : (b : Bool) → there (if b then Err Absent else Err Range) ≡ Ok p → ⊥
    absent_not true h = absurd (cc)
    absent_not false h = absurd (cc)
made_once (RemoveXattr name) (Some c) p h = named (calls.is_named name) h
  where
    has : (b : Bool) → there (calls.with_xattrs c (if b then Ok (fin.remove c.xattrs name) else Err NoAttr)) ≡ Ok p → Some (record c { xattrs = fin.remove c.xattrs name }) ≡ p
    has true h = ok_is _ _ h
    has false h = absurd (cc)

    named : (b : Bool) → there (if b then calls.with_xattrs c (calls.removed_in c.xattrs name) else Err Range) ≡ Ok p → Some (record c { xattrs = fin.remove c.xattrs name }) ≡ p
    named true h = has (is_some (fin.get c.xattrs name)) h
    named false h = absurd (cc)
made_once (RemoveKey key) None p h = absurd (absent_not (calls.is_named key) h)
  where
    absent_not : (b : Bool) → there (if b then Err Absent else Err Range) ≡ Ok p → ⊥
    absent_not true h = absurd (cc)
    absent_not false h = absurd (cc)
made_once (RemoveKey key) (Some c) p h = named (calls.is_named key) h
  where
    has : (b : Bool) → there (calls.with_omap c (if b then Ok (fin.remove c.omap key) else Err NoAttr)) ≡ Ok p → Some (record c { omap = fin.remove c.omap key }) ≡ p
    has true h = ok_is _ _ h
    has false h = absurd (cc)

    named : (b : Bool) → there (if b then calls.with_omap c (calls.removed_in c.omap key) else Err Range) ≡ Ok p → Some (record c { omap = fin.remove c.omap key }) ≡ p
    named true h = has (is_some (fin.get c.omap key)) h
    named false h = absurd (cc)
made_once (SetLength len) None p h = absurd (absent_not (nat_lt DATA_LIMIT len) h)
  where
    absent_not : (b : Bool) → there (if b then Err TooBig else Err Absent) ≡ Ok p → ⊥
    absent_not true h = absurd (cc)
    absent_not false h = absurd (cc)
made_once (SetLength len) (Some c) p h = by (nat_lt DATA_LIMIT len) h
  where
    by : (b : Bool) → there (if b then Err TooBig else Ok (record c { bytes = resized c.bytes len })) ≡ Ok p → Some (record c { bytes = resized c.bytes len }) ≡ p
    by true h = absurd (cc)
    by false h = ok_is _ _ h
made_once (Write at text) o p h = by (nat_lt DATA_LIMIT (at + length text)) h
  where
    by : (b : Bool) → there (if b then Err TooBig else Ok (record (content_of o) { bytes = spliced (content_of o).bytes at text })) ≡ Ok p → Some (record (content_of o) { bytes = spliced (content_of o).bytes at text }) ≡ p
    by true h = absurd (cc)
    by false h = ok_is _ _ h

pub made_is_edited : MadeIsEdited
made_is_edited [] o p h = ok_is _ _ h
made_is_edited (e ∷ es) o p h = by (edited e o) refl (λ q rest. made_is_edited es q p rest) h
  where
    by : (r : Result PlainObject StoreError) → edited e o ≡ r → ((q : PlainObject) → all_edited es q ≡ Ok p → all_made es q ≡ p) → and_then r (λ after. all_edited es after) ≡ Ok p → all_made es (made e o) ≡ p
    by (Ok q) is more rest = ap (all_made es) (made_once e o q is) ∙ more q rest
    by (Err x) is more rest = absurd (cc)
