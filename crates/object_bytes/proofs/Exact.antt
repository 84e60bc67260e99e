-- Bytes that are read as an object are its flat form.
use Rattle.std.proofs.Common.{◌≡◌, ◌∙◌, ℕ, zero, suc, ◌+◌, ◌*◌, ◌%◌, ◌/◌, ◌<◌, ◌≤◌, Bool, true, false, cond, List, [], ◌∷◌, ◌++◌, Option, Some, None, Result, Ok, Err, is_some, refl, ap, sym, subst, arith, length, append_assoc, take, drop}
use Rattle.std.specs.Prelude.{T, if◌then◌else◌, nat_lt, nat_le, ◌&&◌, ◌==◌}
use Rattle.std.specs.List.{flat_map}
use Rattle.std.specs.Option.{option_or}
use Rattle.std.specs.FinMap as fin
use Rattle.std.specs.FinMap.{find, is_sorted}
use Rattle.std.specs.FinMap.Entries.{below_all, same_entries}
use Rattle.std.specs.Ordering.{is_lt}
use Rattle.std.specs.declared.cmp.Ordering.TheVariants.{Less, Equal}
use Rattle.std.proofs.lemmas.Cmp.{nat_list_cmp_total}
use Rattle.std.proofs.lemmas.Map.Lookups.{exact_bytes}
use Rattle.std.proofs.lemmas.List.{take-append-drop, append-nil, length-take-le}
use Rattle.std.proofs.lemmas.Bool.{eqb-true, leb-true}
use Rattle.byteorder.specs.Endian.{little_bytes, little_number}
use Rattle.bpf_decode.specs.Reading.{◌>>=◌, checked}
use Rattle.object_store.specs.declared.limits.TheConstants.{DATA_LIMIT, XATTR_LIMIT, KEY_LIMIT, VALUE_LIMIT}
use Rattle.object_store.specs.declared.store_error.StoreError.{StoreError}
use Rattle.object_store.specs.declared.store_error.StoreError.TheVariants.{TooBig, Range, TooMany}
use Rattle.object_store.specs.Object.{Attributes, Content, PlainObject, AreBytes, nothing, spliced}
use Rattle.object_store.specs.Calls as calls
use Rattle.object_bytes.specs.declared.flat.FlatError.{FlatError}
use Rattle.object_bytes.specs.declared.flat.FlatError.TheVariants.{Malformed}
use Rattle.object_bytes.specs.declared.part.Part.{Part}
use Rattle.object_bytes.specs.declared.part.Part.TheVariants.{Xattrs, Keys}
use Rattle.object_bytes.specs.Part.{names}
use Rattle.object_bytes.specs.Flat.{entry_bytes, entries_bytes, content_bytes, flat}
use Rattle.object_bytes.specs.Reading.{stored, set_in, rises, byte_at, number_at, bytes_at, entry_at, entries_at, part_at, data_at, content_at, object_at, there}
use Rattle.object_bytes.proofs.Entries.{R, Rows, first as before, second as after, less}
use Rattle.object_bytes.proofs.Maps.{inserted, get_inserted, or_none}
use Rattle.object_bytes.proofs.Again.{with_names, with_same, with_twice, names_with, spliced_whole}

-- ---- what gave a result
module _ {X Y : Type 0} (f : X → Result Y FlatError) where
  pub record Came (r : Result X FlatError) (y : Y) : Type 0 where
    pub of : X
    pub read : r ≡ Ok of
    pub gives : f of ≡ Ok y

  came : (r : Result X FlatError) (y : Y) → (r >>= f) ≡ Ok y → Came r y
  came (Ok x) y e = record { of = x; read = refl; gives = e }
  came (Err x) y e = absurd (cc)

ok_is : {X : Type 0} (x y : X) → ◌≡◌ {A = Result X FlatError} (Ok x) (Ok y) → x ≡ y
ok_is x y e = cc

was_checked : {X : Type 0} (b : Bool) (x y : X) → ◌≡◌ {A = Result X FlatError} (checked b Malformed x) (Ok y) → (b ≡ true) × (x ≡ y)
was_checked true x y e = (refl, cc)
was_checked false x y e = absurd (cc)

first_is : {X Y : Type 0} (x z : X) (y w : Y) → ◌≡◌ {A = X × Y} (x, y) (z, w) → x ≡ z
first_is x z y w e = ap (λ p. p.0) e

second_is : {X Y : Type 0} (x z : X) (y w : Y) → ◌≡◌ {A = X × Y} (x, y) (z, w) → y ≡ w
second_is x z y w e = ap (λ p. p.1) e

-- ---- fields
are_behind : (xs ys : List ℕ) → AreBytes (xs ++ ys) → AreBytes ys
are_behind [] ys h = h
are_behind (x ∷ xs) ys h = are_behind xs ys h.1

byte_exact : (bytes : List ℕ) (b : ℕ) (rest : List ℕ) → byte_at bytes ≡ Ok (b, rest) → bytes ≡ b ∷ rest
byte_exact [] b rest e = absurd (cc)
byte_exact (x ∷ xs) b rest e =
    let p = ok_is (x, xs) (b, rest) e in
    ap (λ (y : ℕ). y ∷ xs) (first_is x b xs rest p) ∙ ap (λ (ys : List ℕ). b ∷ ys) (second_is x b xs rest p)

pub record Cut (n : ℕ) (bytes x rest : List ℕ) : Type 0 where
  pub text : bytes ≡ x ++ rest
  pub long : length x ≡ n

bytes_exact : (n : ℕ) (bytes x rest : List ℕ) → bytes_at n bytes ≡ Ok (x, rest) → Cut n bytes x rest
bytes_exact n bytes x rest e =
    let c = was_checked (nat_le n (length bytes)) (take n bytes, drop n bytes) (x, rest) e in
    let p = first_is (take n bytes) x (drop n bytes) rest c.1 in
    let q = second_is (take n bytes) x (drop n bytes) rest c.1 in
    record {
      text = sym (take-append-drop n bytes) ∙ ap (λ (y : List ℕ). y ++ drop n bytes) p ∙ ap (λ (y : List ℕ). x ++ y) q;
      long = ap length (sym p) ∙ length-take-le n bytes (leb-true n (length bytes) c.0);
    }

two_bytes : (a b : ℕ) (xs : List ℕ) → a < 256 → b < 256 → a ∷ b ∷ xs ≡ little_bytes 2 (little_number 2 (a ∷ b ∷ xs)) ++ xs
two_bytes a b xs g h =
    let n = a + 256 * (b + 256 * 0) in
    let low : n % 256 ≡ a = omega (arith, g) in
    let high : n / 256 % 256 ≡ b = omega (arith, g, h) in
    λ i. sym low i ∷ sym high i ∷ xs

four_bytes : (a b c d : ℕ) (xs : List ℕ) → a < 256 → b < 256 → c < 256 → d < 256 → a ∷ b ∷ c ∷ d ∷ xs ≡ little_bytes 4 (little_number 4 (a ∷ b ∷ c ∷ d ∷ xs)) ++ xs
four_bytes a b c d xs g h j k =
    let n = a + 256 * (b + 256 * (c + 256 * (d + 256 * 0))) in
    let one : n % 256 ≡ a = omega (arith, g) in
    let two : n / 256 % 256 ≡ b = omega (arith, g, h) in
    let three : n / 65536 % 256 ≡ c = omega (arith, g, h, j) in
    let four : n / 16777216 % 256 ≡ d = omega (arith, g, h, j, k) in
    λ i. sym one i ∷ sym two i ∷ sym three i ∷ sym four i ∷ xs

number_exact_2 : (bytes : List ℕ) (n : ℕ) (rest : List ℕ) → AreBytes bytes → number_at 2 bytes ≡ Ok (n, rest) → bytes ≡ little_bytes 2 n ++ rest
number_exact_2 [] n rest are e = absurd (cc)
number_exact_2 (a ∷ []) n rest are e = absurd (cc)
number_exact_2 (a ∷ b ∷ xs) n rest are e =
    let p = (was_checked (nat_le 2 (length (a ∷ b ∷ xs))) (little_number 2 (a ∷ b ∷ xs), xs) (n, rest) e).1 in
    two_bytes a b xs are.0 are.1.0
    ∙ ap (λ (m : ℕ). little_bytes 2 m ++ xs) (first_is (little_number 2 (a ∷ b ∷ xs)) n xs rest p)
    ∙ ap (λ (ys : List ℕ). little_bytes 2 n ++ ys) (second_is (little_number 2 (a ∷ b ∷ xs)) n xs rest p)

number_exact_4 : (bytes : List ℕ) (n : ℕ) (rest : List ℕ) → AreBytes bytes → number_at 4 bytes ≡ Ok (n, rest) → bytes ≡ little_bytes 4 n ++ rest
number_exact_4 [] n rest are e = absurd (cc)
number_exact_4 (a ∷ []) n rest are e = absurd (cc)
number_exact_4 (a ∷ b ∷ []) n rest are e = absurd (cc)
number_exact_4 (a ∷ b ∷ c ∷ []) n rest are e = absurd (cc)
number_exact_4 (a ∷ b ∷ c ∷ d ∷ xs) n rest are e =
    let whole = a ∷ b ∷ c ∷ d ∷ xs in
    let p = (was_checked (nat_le 4 (length whole)) (little_number 4 whole, xs) (n, rest) e).1 in
    four_bytes a b c d xs are.0 are.1.0 are.1.1.0 are.1.1.1.0
    ∙ ap (λ (m : ℕ). little_bytes 4 m ++ xs) (first_is (little_number 4 whole) n xs rest p)
    ∙ ap (λ (ys : List ℕ). little_bytes 4 n ++ ys) (second_is (little_number 4 whole) n xs rest p)

-- ---- an entry
entry_exact : (bytes : List ℕ) (e : List ℕ × List ℕ) (rest : List ℕ) → AreBytes bytes → entry_at bytes ≡ Ok (e, rest) → bytes ≡ entry_bytes e ++ rest
unfolding entry_at
entry_exact bytes e rest are read =
    let k = came _ (byte_at bytes) (e, rest) read in
    let name = came _ (bytes_at k.of.0 k.of.1) (e, rest) k.gives in
    let m = came _ (number_at 2 name.of.1) (e, rest) name.gives in
    let value = came _ (bytes_at m.of.0 m.of.1) (e, rest) m.gives in
    let made = ok_is ((name.of.0, value.of.0), value.of.1) (e, rest) value.gives in
    let a : bytes ≡ k.of.0 ∷ k.of.1 = byte_exact bytes k.of.0 k.of.1 k.read in
    let b = bytes_exact k.of.0 k.of.1 name.of.0 name.of.1 name.read in
    let are_1 : AreBytes k.of.1 = are_behind (k.of.0 ∷ []) k.of.1 (subst AreBytes a are) in
    let are_2 : AreBytes name.of.1 = are_behind name.of.0 name.of.1 (subst AreBytes b.text are_1) in
    let c : name.of.1 ≡ little_bytes 2 m.of.0 ++ m.of.1 = number_exact_2 name.of.1 m.of.0 m.of.1 are_2 m.read in
    let d = bytes_exact m.of.0 m.of.1 value.of.0 value.of.1 value.read in
    let n : List ℕ = name.of.0 in
    let v : List ℕ = value.of.0 in
    let spelled : bytes ≡ length n ∷ (n ++ (little_bytes 2 (length v) ++ (v ++ value.of.1))) =
    a
    ∙ ap (λ (more : List ℕ). k.of.0 ∷ more) b.text
    ∙ ap (λ (x : ℕ). x ∷ (n ++ name.of.1)) (sym b.long)
    ∙ ap (λ (more : List ℕ). length n ∷ (n ++ more)) c
    ∙ ap (λ (more : List ℕ). length n ∷ (n ++ (little_bytes 2 m.of.0 ++ more))) d.text
    ∙ ap (λ (x : ℕ). length n ∷ (n ++ (little_bytes 2 x ++ (v ++ value.of.1)))) (sym d.long) in
    let joined : length n ∷ (n ++ (little_bytes 2 (length v) ++ (v ++ value.of.1))) ≡ entry_bytes (n, v) ++ value.of.1 = simp append_assoc in
    spelled
    ∙ joined
    ∙ ap (λ (p : (List ℕ × List ℕ) × List ℕ). entry_bytes p.0 ++ p.1) made

-- ---- a set that wasn't refused
set_is : (part : Part) (c d : Content) (e : List ℕ × List ℕ) → set_in part c e ≡ Ok d → d ≡ with_names part c (fin.insert (names part c) e.0 e.1)
set_is Xattrs c d e h = named (calls.is_named e.0) h
  where
    inner : Bool → Bool → Result Attributes StoreError
    inner there room = if there then Ok (fin.insert c.xattrs e.0 e.1) else if room then Ok (fin.insert c.xattrs e.0 e.1) else Err TooMany

    fits : (there room : Bool) → stored (calls.with_xattrs c (inner there room)) ≡ Ok d → d ≡ record c { xattrs = fin.insert c.xattrs e.0 e.1 }
    fits true room h = sym (ok_is _ _ h)
    fits false true h = sym (ok_is _ _ h)
    fits false false h = absurd (cc)

    short : (b : Bool) → stored (if b then Err TooBig else calls.with_xattrs c (calls.set_in XATTR_LIMIT c.xattrs e.0 e.1)) ≡ Ok d → d ≡ record c { xattrs = fin.insert c.xattrs e.0 e.1 }
    short true h = absurd (cc)
    short false h = fits (is_some (fin.get c.xattrs e.0)) (nat_lt (fin.len c.xattrs) XATTR_LIMIT) h

    named : (b : Bool) → stored (if b then (if nat_lt VALUE_LIMIT (length e.1) then Err TooBig else calls.with_xattrs c (calls.set_in XATTR_LIMIT c.xattrs e.0 e.1)) else Err Range) ≡ Ok d → d ≡ record c { xattrs = fin.insert c.xattrs e.0 e.1 }
    named true h = short (nat_lt VALUE_LIMIT (length e.1)) h
    named false h = absurd (cc)
set_is Keys c d e h = named (calls.is_named e.0) h
  where
    inner : Bool → Bool → Result Attributes StoreError
    inner there room = if there then Ok (fin.insert c.omap e.0 e.1) else if room then Ok (fin.insert c.omap e.0 e.1) else Err TooMany

    fits : (there room : Bool) → stored (calls.with_omap c (inner there room)) ≡ Ok d → d ≡ record c { omap = fin.insert c.omap e.0 e.1 }
    fits true room h = sym (ok_is _ _ h)
    fits false true h = sym (ok_is _ _ h)
    fits false false h = absurd (cc)

    short : (b : Bool) → stored (if b then Err TooBig else calls.with_omap c (calls.set_in KEY_LIMIT c.omap e.0 e.1)) ≡ Ok d → d ≡ record c { omap = fin.insert c.omap e.0 e.1 }
    short true h = absurd (cc)
    short false h = fits (is_some (fin.get c.omap e.0)) (nat_lt (fin.len c.omap) KEY_LIMIT) h

    named : (b : Bool) → stored (if b then (if nat_lt VALUE_LIMIT (length e.1) then Err TooBig else calls.with_omap c (calls.set_in KEY_LIMIT c.omap e.0 e.1)) else Err Range) ≡ Ok d → d ≡ record c { omap = fin.insert c.omap e.0 e.1 }
    named true h = short (nat_lt VALUE_LIMIT (length e.1)) h
    named false h = absurd (cc)

-- ---- all entries
true_t : (b : Bool) → b ≡ true → T b
true_t true e = tt
true_t false e = absurd (cc)

both_t : (a b : Bool) → T a → T b → T (a && b)
both_t true b p q = q
both_t false b p q = absurd p

-- what is above a name is above those before it
below_before : (x y : List ℕ) (es : Rows) → R x y ≡ Less → T (below_all R y es) → T (below_all R x es)
below_before x y [] less_y h = tt
below_before x y (f ∷ es) less_y h =
    both_t _ _ (subst (λ o. T (is_lt o)) (sym (nat_list_cmp_total.trans x y f.0 less_y (less _ (before _ _ h)))) tt) (below_before x y es less_y (after _ _ h))

pub record AreRead (part : Part) (n : ℕ) (last : List ℕ) (c d : Content) (bytes rest : List ℕ) : Type 0 where
  pub es : Rows
  pub text : bytes ≡ flat_map entry_bytes es ++ rest
  pub made : d ≡ with_names part c (inserted (names part c) es)
  pub above : T (below_all R last es)
  pub sorted : T (is_sorted R es)
  pub count : length es ≡ n

entries_exact : (part : Part) (n : ℕ) (last : List ℕ) (c d : Content) (bytes rest : List ℕ) → AreBytes bytes → entries_at part n last c bytes ≡ Ok (d, rest) → AreRead part n last c d bytes rest
unfolding entries_at
entries_exact part zero last c d bytes rest are read =
    let p = ok_is (c, bytes) (d, rest) read in
    record {
      es = [];
      text = second_is c d bytes rest p;
      made = sym (first_is c d bytes rest p) ∙ sym (with_same part c);
      above = tt;
      sorted = tt;
      count = refl;
    }
entries_exact part (suc n) last c d bytes rest are read =
    let e = came _ (entry_at bytes) (d, rest) read in
    let x : List ℕ × List ℕ = e.of.0 in
    let f = came _ (checked (rises last x.0) Malformed x) (d, rest) e.gives in
    let check = was_checked (rises last x.0) x f.of f.read in
    let m = came _ (set_in part c f.of) (d, rest) f.gives in
    let here : bytes ≡ entry_bytes x ++ e.of.1 = entry_exact bytes x e.of.1 are e.read in
    let are_more : AreBytes e.of.1 = are_behind (entry_bytes x) e.of.1 (subst AreBytes here are) in
    let more = entries_exact part n f.of.0 m.of d e.of.1 rest are_more m.gives in
    let set : m.of ≡ with_names part c (fin.insert (names part c) x.0 x.1) =
    set_is part c m.of f.of m.read ∙ ap (λ (y : List ℕ × List ℕ). with_names part c (fin.insert (names part c) y.0 y.1)) (sym check.1) in
    let grown = fin.insert (names part c) x.0 x.1 in
    let above_x : T (below_all R x.0 more.es) = subst (λ (y : List ℕ × List ℕ). T (below_all R y.0 more.es)) (sym check.1) more.above in
    let behind : T (rises last x.0) = true_t _ check.0 in
    record {
      es = x ∷ more.es;
      text = here ∙ ap (λ (ys : List ℕ). entry_bytes x ++ ys) more.text ∙ sym (append_assoc (entry_bytes x) (flat_map entry_bytes more.es) rest);
      made = more.made
          ∙ ap (λ (y : Content). with_names part y (inserted (names part y) more.es)) set
          ∙ ap (λ (a : Attributes). with_names part (with_names part c grown) (inserted a more.es)) (names_with part c grown)
          ∙ with_twice part c grown (inserted grown more.es);
      above = both_t _ _ behind (below_before last x.0 more.es (less _ behind) above_x);
      sorted = both_t _ _ above_x more.sorted;
      count = ap suc more.count;
    }

-- a map of entries that rise has these
entries_are : (es : Rows) → T (is_sorted R es) → fin.entries (inserted fin.empty es) ≡ es
entries_are es h =
    let m = inserted fin.empty es in
    same_entries R nat_list_cmp_total (λ x y e. exact_bytes x y e) (fin.entries m) es (fin.entries_sorted m) h
    (λ q. sym (fin.get-entries m q) ∙ get_inserted es fin.empty q h ∙ ap (option_or (find R q es)) (fin.get-empty R q) ∙ or_none _)

-- ---- a part
pub record PartIs (part : Part) (c d : Content) (bytes rest : List ℕ) : Type 0 where
  pub m : Attributes
  pub text : bytes ≡ entries_bytes m ++ rest
  pub made : d ≡ with_names part c m
  pub are : AreBytes rest

part_exact : (part : Part) (c d : Content) (bytes rest : List ℕ) → AreBytes bytes → names part c ≡ fin.empty → part_at part c bytes ≡ Ok (d, rest) → PartIs part c d bytes rest
unfolding part_at
part_exact part c d bytes rest are none read =
    let n = came _ (number_at 2 bytes) (d, rest) read in
    let a : bytes ≡ little_bytes 2 n.of.0 ++ n.of.1 = number_exact_2 bytes n.of.0 n.of.1 are n.read in
    let are_more : AreBytes n.of.1 = are_behind (little_bytes 2 n.of.0) n.of.1 (subst AreBytes a are) in
    let r = entries_exact part n.of.0 [] c d n.of.1 rest are_more n.gives in
    let m = inserted fin.empty r.es in
    let entries = entries_are r.es r.sorted in
    let count : n.of.0 ≡ fin.len m = sym r.count ∙ sym (ap length entries) ∙ sym (fin.len-entries m) in
    let lines : flat_map entry_bytes r.es ≡ flat_map entry_bytes (fin.entries m) = ap (flat_map entry_bytes) (sym entries) in
    record {
      m = m;
      text = a
          ∙ ap (λ (ys : List ℕ). little_bytes 2 n.of.0 ++ ys) r.text
          ∙ ap (λ (k : ℕ). little_bytes 2 k ++ (flat_map entry_bytes r.es ++ rest)) count
          ∙ ap (λ (ys : List ℕ). little_bytes 2 (fin.len m) ++ (ys ++ rest)) lines
          ∙ sym (append_assoc (little_bytes 2 (fin.len m)) (flat_map entry_bytes (fin.entries m)) rest);
      made = r.made ∙ ap (λ (x : Attributes). with_names part c (inserted x r.es)) none;
      are = are_behind (flat_map entry_bytes r.es) rest (subst AreBytes r.text are_more);
    }

-- ---- data
write_is : (text : List ℕ) (c : Content) → stored (calls.write None 0 text) ≡ Ok c → c ≡ record nothing { bytes = text }
write_is text c h = by (nat_lt DATA_LIMIT (0 + length text)) h
  where
    by : (b : Bool) → stored (if b then Err TooBig else Ok (record nothing { bytes = spliced [] 0 text })) ≡ Ok c → c ≡ record nothing { bytes = text }
    by true h = absurd (cc)
    by false h = sym (ok_is _ _ h) ∙ ap (λ (bytes : List ℕ). record nothing { bytes = bytes }) (spliced_whole text)

pub record DataIs (c : Content) (bytes rest : List ℕ) : Type 0 where
  pub content : List ℕ
  pub text : bytes ≡ little_bytes 4 (length content) ++ (content ++ rest)
  pub made : c ≡ record nothing { bytes = content }
  pub are : AreBytes rest

data_exact : (c : Content) (bytes rest : List ℕ) → AreBytes bytes → data_at bytes ≡ Ok (c, rest) → DataIs c bytes rest
unfolding data_at
data_exact c bytes rest are read =
    let n = came _ (number_at 4 bytes) (c, rest) read in
    let t = came _ (bytes_at n.of.0 n.of.1) (c, rest) n.gives in
    let w = came _ (stored (calls.write None 0 t.of.0)) (c, rest) t.gives in
    let made = ok_is (w.of, t.of.1) (c, rest) w.gives in
    let a : bytes ≡ little_bytes 4 n.of.0 ++ n.of.1 = number_exact_4 bytes n.of.0 n.of.1 are n.read in
    let b = bytes_exact n.of.0 n.of.1 t.of.0 t.of.1 t.read in
    let are_1 : AreBytes n.of.1 = are_behind (little_bytes 4 n.of.0) n.of.1 (subst AreBytes a are) in
    let same : t.of.1 ≡ rest = second_is w.of c t.of.1 rest made in
    record {
      content = t.of.0;
      text = a
          ∙ ap (λ (ys : List ℕ). little_bytes 4 n.of.0 ++ ys) b.text
          ∙ ap (λ (k : ℕ). little_bytes 4 k ++ (t.of.0 ++ t.of.1)) (sym b.long)
          ∙ ap (λ (ys : List ℕ). little_bytes 4 (length t.of.0) ++ (t.of.0 ++ ys)) same;
      made = sym (first_is w.of c t.of.1 rest made) ∙ write_is t.of.0 w.of w.read;
      are = subst AreBytes same (are_behind t.of.0 t.of.1 (subst AreBytes b.text are_1));
    }

-- ---- an object
none_left : (xs : List ℕ) → (length xs == 0) ≡ true → xs ≡ []
none_left [] e = refl
none_left (x ∷ xs) e = let none : suc (length xs) ≡ 0 = eqb-true (suc (length xs)) 0 e in absurd (omega (arith, none))

content_exact : (c : Content) (bytes : List ℕ) → AreBytes bytes → content_at bytes ≡ Ok c → content_bytes c ≡ bytes
unfolding content_at
content_exact c bytes are read =
    let t = came _ (data_at bytes) c read in
    let x = came _ (part_at Xattrs t.of.0 t.of.1) c t.gives in
    let k = came _ (part_at Keys x.of.0 x.of.1) c x.gives in
    let end = was_checked (length k.of.1 == 0) k.of.0 c k.gives in
    let d = data_exact t.of.0 bytes t.of.1 are t.read in
    let xattrs = part_exact Xattrs t.of.0 x.of.0 t.of.1 x.of.1 d.are (ap (λ (y : Content). y.xattrs) d.made) x.read in
    let c2 : x.of.0 ≡ record nothing { bytes = d.content; xattrs = xattrs.m } = xattrs.made ∙ ap (λ (y : Content). record y { xattrs = xattrs.m }) d.made in
    let keys = part_exact Keys x.of.0 k.of.0 x.of.1 k.of.1 xattrs.are (ap (λ (y : Content). y.omap) c2) k.read in
    let c3 : c ≡ record { bytes = d.content; xattrs = xattrs.m; omap = keys.m } = sym end.1 ∙ keys.made ∙ ap (λ (y : Content). record y { omap = keys.m }) c2 in
    let shape : little_bytes 4 (length d.content) ++ (d.content ++ (entries_bytes xattrs.m ++ (entries_bytes keys.m ++ []))) ≡ content_bytes (record { bytes = d.content; xattrs = xattrs.m; omap = keys.m }) = simp (append_assoc, append-nil) in
    ap content_bytes c3
    ∙ sym shape
    ∙ ap (λ (ys : List ℕ). little_bytes 4 (length d.content) ++ (d.content ++ (entries_bytes xattrs.m ++ (entries_bytes keys.m ++ ys)))) (sym (none_left k.of.1 end.0))
    ∙ ap (λ (ys : List ℕ). little_bytes 4 (length d.content) ++ (d.content ++ (entries_bytes xattrs.m ++ ys))) (sym keys.text)
    ∙ ap (λ (ys : List ℕ). little_bytes 4 (length d.content) ++ (d.content ++ ys)) (sym xattrs.text)
    ∙ sym d.text

some_is : (r : Result Content FlatError) (o : PlainObject) → there r ≡ Ok o → (c : Content) × (r ≡ Ok c) × (o ≡ Some c)
some_is (Ok c) o e = (c, refl, sym (ok_is (Some c) o e))
some_is (Err x) o e = absurd (cc)

pub object_exact : (bytes : List ℕ) (o : PlainObject) → AreBytes bytes → object_at bytes ≡ Ok o → flat o ≡ bytes
unfolding object_at
object_exact bytes o are read =
    let b = came _ (byte_at bytes) o read in
    let here : bytes ≡ b.of.0 ∷ b.of.1 = byte_exact bytes b.of.0 b.of.1 b.read in
    by b.of.0 b.of.1 here (subst AreBytes here are) (b.of.0 == 0) (b.of.0 == 1) refl refl b.gives
  where
    by : (x : ℕ) (xs : List ℕ) → bytes ≡ x ∷ xs → AreBytes (x ∷ xs) → (z u : Bool) → (x == 0) ≡ z → (x == 1) ≡ u
        → (if z then checked (length xs == 0) Malformed None else (if u then there (content_at xs) else Err Malformed)) ≡ Ok o → flat o ≡ bytes
    by x xs here are_x true u is_0 is_1 gives =
        let end = was_checked (length xs == 0) None o gives in
        ap flat (sym end.1) ∙ sym (ap (λ (ys : List ℕ). 0 ∷ ys) (none_left xs end.0)) ∙ ap (λ (y : ℕ). y ∷ xs) (sym (eqb-true x 0 is_0)) ∙ sym here
    by x xs here are_x false true is_0 is_1 gives =
        let s = some_is (content_at xs) o gives in
        ap flat s.2 ∙ ap (λ (ys : List ℕ). 1 ∷ ys) (content_exact s.0 xs are_x.1 s.1) ∙ ap (λ (y : ℕ). y ∷ xs) (sym (eqb-true x 1 is_1)) ∙ sym here
    by x xs here are_x false false is_0 is_1 gives = absurd (cc)
