-- A part is read exactly.
use Rattle.std.proofs.Common.{◌≡◌, ◌∙◌, ℕ, ◌*◌, ◌^◌, ◌<◌, ◌≤◌, Bool, true, false, List, [], ◌∷◌, ◌++◌, Option, Some, None, refl, ap, sym, subst, arith, length}
use Rattle.std.specs.Prelude.{◌&&◌, ◌==◌, nat_le, nat_lt, if◌then◌else◌}
use Rattle.std.specs.List.{flat_map}
use Rattle.std.proofs.lemmas.Bool.{le-leb, leb-true, lt-ltb, ltb-true, eqb-true}
use Rattle.byteorder.specs.Endian.{little_bytes}
use Rattle.object_store.specs.Object.{AreBytes}
use Rattle.object_store.specs.declared.limits.TheConstants.{XATTR_LIMIT, KEY_LIMIT, NAME_LIMIT, VALUE_LIMIT}
use Rattle.part_bytes.specs.declared.limits.TheConstants.{BLOCK, BLOCK_LIMIT, INTERVAL_LIMIT, PLACE_LIMIT}
use Rattle.part_bytes.specs.Part.{Block, Interval, Entry, Content, PlainPart, AreInTurn, IsBelow, block_length, IsBlock, after_block, IsBegin, IsInterval, after_interval, IsEntry, after_entry, AreIntervals, AreEntries, AreNames, IsContent, IsPart}
use Rattle.part_bytes.specs.Part.{pair_bytes, block_bytes, names_bytes, content_bytes, part_bytes, Spells}
use Rattle.part_bytes.specs.inner.Reading.{◌>>=◌, checked, passing, followed, formed, whole, number_at, bytes_at, pair_at, is_below, is_number, block_at, blocks_at, is_begin, is_end_of, is_interval, interval_at, intervals_at, is_entry, entry_at, entries_at, covers, Both, names_at, names_of, size_at, Fields, both_at, fields_at, content_of, part_at}
use Rattle.part_bytes.proofs.Exact.{IsExact, restated, passes, follows, forms, whole_again, whole_exact, came, was_checked, some_is}
use Rattle.part_bytes.proofs.ExactFields.{IsText, number_exact, bytes_exact, list_exact, pair_exact}
use Rattle.part_bytes.proofs.Held.{both_true, true_both, below_is, is_below_so, is_empty, to_end, end_so, covers_held, held_covers}

-- ---- blocks
block_is : (size least : ℕ) (b : Block) → ((b.0 < 256 ^ 8) × (is_number size least b.0 ≡ true)) × (length b.1 ≡ block_length size b.0) → IsBlock size least b
block_is size least b h =
    let t = both_true (nat_le least b.0) (nat_lt (BLOCK * b.0) size) h.0.1 in
    record { from = leb-true least b.0 t.0; begins = ltb-true (BLOCK * b.0) size t.1; length = h.1 }

block_so : (size least : ℕ) (b : Block) → size < 2 ^ 63 → IsBlock size least b → ((b.0 < 256 ^ 8) × (is_number size least b.0 ≡ true)) × (length b.1 ≡ block_length size b.0)
block_so size least b small h =
    let fits : b.0 < 256 ^ 8 = omega (arith, small, h.begins) in
    ((fits, true_both (nat_le least b.0) (nat_lt (BLOCK * b.0) size) (le-leb least b.0 h.from) (lt-ltb (BLOCK * b.0) size h.begins)), h.length)

block_exact : (size : ℕ) → size < 2 ^ 63 → (least : ℕ) → IsExact (block_at size least) block_bytes (IsBlock size least)
unfolding block_at
block_exact size small least =
    let number = passes (number_at 8) (little_bytes 8) (λ n. n < 256 ^ 8) (is_number size least) (number_exact 8) in
    restated (block_at size least) block_bytes _ (IsBlock size least)
    (follows (passing (number_at 8) (is_number size least)) (little_bytes 8) (λ n. (n < 256 ^ 8) × (is_number size least n ≡ true)) (λ b. bytes_at (block_length size b)) (λ _ x. x) (λ b x. length x ≡ block_length size b) number (λ b _. bytes_exact (block_length size b)))
    (block_is size least) (λ b h. block_so size least b small h)

-- ---- intervals
begin_is : (before : Option (List ℕ)) (low : List ℕ) → is_begin before low ≡ true → IsBegin before low
begin_is None low e = tt
begin_is (Some end) low e = let t = both_true (nat_le 1 (length end)) (is_below end low) e in (leb-true 1 (length end) t.0, below_is end low t.1)

begin_so : (before : Option (List ℕ)) (low : List ℕ) → IsBegin before low → is_begin before low ≡ true
begin_so None low h = refl
begin_so (Some end) low h = true_both (nat_le 1 (length end)) (is_below end low) (le-leb 1 (length end) h.0) (is_below_so end low h.1)

interval_is : (before : Option (List ℕ)) (i : Interval) → (IsText i.0 × IsText i.1) × (is_interval before i ≡ true) → IsInterval before i
interval_is before i h =
    let low = nat_le (length i.0) PLACE_LIMIT in
    let high = nat_le (length i.1) PLACE_LIMIT in
    let a = both_true (low && high && is_end_of i.0 i.1) (is_begin before i.0) h.1 in
    let b = both_true (low && high) (is_end_of i.0 i.1) a.0 in
    let c = both_true low high b.0 in
    record { low = leb-true (length i.0) PLACE_LIMIT c.0; high = leb-true (length i.1) PLACE_LIMIT c.1; rises = to_end i.0 i.1 b.1; begins = begin_is before i.0 a.1 }

interval_so : (before : Option (List ℕ)) (i : Interval) → IsInterval before i → (IsText i.0 × IsText i.1) × (is_interval before i ≡ true)
interval_so before i h =
    let low = nat_le (length i.0) PLACE_LIMIT in
    let high = nat_le (length i.1) PLACE_LIMIT in
    let lows : length i.0 < 65536 = omega (arith, h.low) in
    let highs : length i.1 < 65536 = omega (arith, h.high) in (
      (lows, highs),
      true_both (low && high && is_end_of i.0 i.1) (is_begin before i.0)
          (true_both (low && high) (is_end_of i.0 i.1) (true_both low high (le-leb (length i.0) PLACE_LIMIT h.low) (le-leb (length i.1) PLACE_LIMIT h.high)) (end_so i.0 i.1 h.rises))
          (begin_so before i.0 h.begins),
    )

interval_exact : (before : Option (List ℕ)) → IsExact (interval_at before) pair_bytes (IsInterval before)
unfolding interval_at
interval_exact before =
    restated (interval_at before) pair_bytes (λ i. (IsText i.0 × IsText i.1) × (is_interval before i ≡ true)) (IsInterval before) (passes pair_at pair_bytes (λ i. IsText i.0 × IsText i.1) (is_interval before) pair_exact) (interval_is before) (interval_so before)

-- ---- entries
above_some : (before name : List ℕ) → IsBelow before name → 1 ≤ length name
above_some [] [] h = absurd cc
above_some (x ∷ xs) [] h = absurd cc
above_some before (x ∷ xs) h = omega arith

entry_is : (before : List ℕ) (e : Entry) → (IsText e.0 × IsText e.1) × (is_entry before e ≡ true) → IsEntry before e
entry_is before e h =
    let name = nat_le (length e.0) NAME_LIMIT in
    let value = nat_le (length e.1) VALUE_LIMIT in
    let a = both_true (is_below before e.0 && name) value h.1 in
    let b = both_true (is_below before e.0) name a.0 in
    let above = below_is before e.0 b.0 in
    record { above = above; some = above_some before e.0 above; name = leb-true (length e.0) NAME_LIMIT b.1; value = leb-true (length e.1) VALUE_LIMIT a.1 }

entry_so : (before : List ℕ) (e : Entry) → IsEntry before e → (IsText e.0 × IsText e.1) × (is_entry before e ≡ true)
entry_so before e h =
    let name = nat_le (length e.0) NAME_LIMIT in
    let value = nat_le (length e.1) VALUE_LIMIT in
    let names : length e.0 < 65536 = omega (arith, h.name) in
    let values : length e.1 < 65536 = omega (arith, h.value) in (
      (names, values),
      true_both (is_below before e.0 && name) value (true_both (is_below before e.0) name (is_below_so before e.0 h.above) (le-leb (length e.0) NAME_LIMIT h.name)) (le-leb (length e.1) VALUE_LIMIT h.value),
    )

entry_exact : (before : List ℕ) → IsExact (entry_at before) pair_bytes (IsEntry before)
unfolding entry_at
entry_exact before =
    restated (entry_at before) pair_bytes (λ e. (IsText e.0 × IsText e.1) × (is_entry before e ≡ true)) (IsEntry before) (passes pair_at pair_bytes (λ e. IsText e.0 × IsText e.1) (is_entry before) pair_exact) (entry_is before) (entry_so before)

-- ---- names
abbrev list_bytes : List (List ℕ × List ℕ) → List ℕ
list_bytes xs = little_bytes 2 (length xs) ++ flat_map pair_bytes xs

abbrev AreRead : ℕ → Both → Type 0
AreRead most n = (((length n.0 ≤ INTERVAL_LIMIT) × AreIntervals n.0) × ((length n.1 ≤ most) × AreEntries n.1)) × (covers n.0 n.1 ≡ true)

names_are : (most : ℕ) (n : Both) → AreRead most n → AreNames most (names_of n)
names_are most n h = record {
  few_intervals = h.0.0.0;
  intervals = h.0.0.1;
  few_entries = h.0.1.0;
  entries = h.0.1.1;
  held = covers_held n.0 n.0 n.1 (λ q g. g) h.1;
}

names_so : (most : ℕ) (n : Both) → AreNames most (names_of n) → AreRead most n
names_so most n h = (((h.few_intervals, h.intervals), (h.few_entries, h.entries)), held_covers [] n.0 n.1 h.intervals h.entries h.held)

names_exact : (most : ℕ) → most < 65536 → IsExact (names_at most) (λ n. names_bytes (names_of n)) (λ n. AreNames most (names_of n))
unfolding names_at
names_exact most fits =
    let few : INTERVAL_LIMIT < 256 ^ 2 = omega arith in
    let is = list_exact 2 INTERVAL_LIMIT interval_at after_interval None pair_bytes IsInterval few interval_exact in
    let es = list_exact 2 most entry_at after_entry [] pair_bytes IsEntry fits entry_exact in
    let both = follows intervals_at list_bytes (λ is. (length is ≤ INTERVAL_LIMIT) × AreIntervals is) (λ _. entries_at most) (λ _. list_bytes) (λ _ es. (length es ≤ most) × AreEntries es) is (λ _ _. es) in
    restated (names_at most) (λ n. names_bytes (names_of n)) (AreRead most) (λ n. AreNames most (names_of n))
    (passes (followed intervals_at (λ _. entries_at most)) (λ n. names_bytes (names_of n)) (λ n. ((length n.0 ≤ INTERVAL_LIMIT) × AreIntervals n.0) × ((length n.1 ≤ most) × AreEntries n.1)) (λ n. covers n.0 n.1) both)
    (names_are most) (names_so most)

-- ---- what is known of an object that is there
abbrev fields_of : Content → Fields
fields_of c = (c.size, (c.blocks, ((c.xattrs.intervals, c.xattrs.entries), (c.keys.intervals, c.keys.entries))))

abbrev AreFields : Fields → Type 0
AreFields f =
    ((f.0 < 256 ^ 8) × (nat_lt f.0 (2 ^ 63) ≡ true))
    × (((length f.1.0 ≤ BLOCK_LIMIT) × AreInTurn (IsBlock f.0) after_block 0 f.1.0)
    × (AreNames XATTR_LIMIT (names_of f.1.1.0) × AreNames KEY_LIMIT (names_of f.1.1.1)))

fields_are : (f : Fields) → AreFields f → IsContent (content_of f)
fields_are f h = record { size = ltb-true f.0 (2 ^ 63) h.0.1; few_blocks = h.1.0.0; blocks = h.1.0.1; xattrs = h.1.1.0; keys = h.1.1.1 }

fields_so : (f : Fields) → IsContent (content_of f) → AreFields f
fields_so f h =
    let small : f.0 < 2 ^ 63 = h.size in
    let fits : f.0 < 256 ^ 8 = omega (arith, small) in
    ((fits, lt-ltb f.0 (2 ^ 63) small), ((h.few_blocks, h.blocks), (h.xattrs, h.keys)))

fields_exact : IsExact fields_at (λ f. content_bytes (content_of f)) (λ f. IsContent (content_of f))
fields_exact =
    let few : BLOCK_LIMIT < 256 ^ 4 = omega arith in
    let few_xattrs : XATTR_LIMIT < 65536 = omega arith in
    let few_keys : KEY_LIMIT < 65536 = omega arith in
    let size = passes (number_at 8) (little_bytes 8) (λ n. n < 256 ^ 8) (λ n. nat_lt n (2 ^ 63)) (number_exact 8) in
    let names = follows (names_at XATTR_LIMIT) (λ n. names_bytes (names_of n)) (λ n. AreNames XATTR_LIMIT (names_of n)) (λ _. names_at KEY_LIMIT) (λ _ n. names_bytes (names_of n)) (λ _ n. AreNames KEY_LIMIT (names_of n)) (names_exact XATTR_LIMIT few_xattrs) (λ _ _. names_exact KEY_LIMIT few_keys) in
    let spell_blocks : List Block → List ℕ = λ bs. little_bytes 4 (length bs) ++ flat_map block_bytes bs in
    let spell_names : Both × Both → List ℕ = λ n. names_bytes (names_of n.0) ++ names_bytes (names_of n.1) in
    let are_names : Both × Both → Type 0 = λ n. AreNames XATTR_LIMIT (names_of n.0) × AreNames KEY_LIMIT (names_of n.1) in
    let after_size = λ (n : ℕ) (h : (n < 256 ^ 8) × (nat_lt n (2 ^ 63) ≡ true)).
    follows (blocks_at n) spell_blocks (λ bs. (length bs ≤ BLOCK_LIMIT) × AreInTurn (IsBlock n) after_block 0 bs) (λ _. both_at) (λ _. spell_names) (λ _. are_names)
    (list_exact 4 BLOCK_LIMIT (block_at n) after_block 0 block_bytes (IsBlock n) few (block_exact n (ltb-true n (2 ^ 63) h.1))) (λ _ _. names) in
    restated fields_at (λ f. content_bytes (content_of f)) AreFields (λ f. IsContent (content_of f))
    (follows size_at (little_bytes 8) (λ n. (n < 256 ^ 8) × (nat_lt n (2 ^ 63) ≡ true)) (λ n. followed (blocks_at n) (λ _. both_at)) (λ _ f. spell_blocks f.0 ++ spell_names f.1)
    (λ n f. ((length f.0 ≤ BLOCK_LIMIT) × AreInTurn (IsBlock n) after_block 0 f.0) × are_names f.1) size after_size)
    fields_are fields_so

content_exact : IsExact (formed fields_at content_of) content_bytes IsContent
content_exact = forms fields_at (λ f. content_bytes (content_of f)) (λ f. IsContent (content_of f)) content_of fields_of (λ _. refl) (λ _. refl) fields_exact

-- ---- a part
pub part_again : (p : PlainPart) → IsPart p → part_at (part_bytes p) ≡ Some p
unfolding part_at
part_again None h = refl
part_again (Some c) h = ap (λ (r : Option Content). r >>= λ c. Some (Some c)) (whole_again (formed fields_at content_of) content_bytes IsContent content_exact c h)

pub part_exact : (bytes : List ℕ) (p : PlainPart) → AreBytes bytes → part_at bytes ≡ Some p → Spells bytes p
unfolding part_at
part_exact [] p are r = absurd cc
part_exact (kind ∷ rest) p are r = by (kind == 0) (kind == 1) refl refl r
  where
    by : (z u : Bool) → (kind == 0) ≡ z → (kind == 1) ≡ u
        → (if z then checked (length rest == 0) None else (if u then (whole (formed fields_at content_of) rest >>= λ c. Some (Some c)) else None)) ≡ Some p → Spells (kind ∷ rest) p
    by true u zero one r =
        let c = was_checked (length rest == 0) None p r in
        let spelled : part_bytes None ≡ kind ∷ rest = ap (λ (l : List ℕ). 0 ∷ l) (sym (is_empty rest c.0)) ∙ ap (λ (k : ℕ). k ∷ rest) (sym (eqb-true kind 0 zero)) in
        subst (λ (q : PlainPart). Spells (kind ∷ rest) q) c.1 (record { part = tt; spelled = spelled })
    by false true zero one r =
        let c = came (whole (formed fields_at content_of) rest) (λ c. Some (Some c)) p r in
        let e = whole_exact (formed fields_at content_of) content_bytes IsContent content_exact rest c.0 are.1 c.1 in
        let spelled : part_bytes (Some c.0) ≡ kind ∷ rest = ap (λ (l : List ℕ). 1 ∷ l) (sym e.0) ∙ ap (λ (k : ℕ). k ∷ rest) (sym (eqb-true kind 1 one)) in
        subst (λ (q : PlainPart). Spells (kind ∷ rest) q) (some_is (Some c.0) p c.2) (record { part = e.1; spelled = spelled })
    by false false zero one r = absurd cc

some_same : (p q : PlainPart) → ◌≡◌ {A = Option PlainPart} (Some p) (Some q) → p ≡ q
some_same p q e = cc

-- equal spellings are of equal parts
pub one_part : (p q : PlainPart) → IsPart p → IsPart q → part_bytes p ≡ part_bytes q → p ≡ q
one_part p q g h e = some_same p q (sym (part_again p g) ∙ ap part_at e ∙ part_again q h)

none_some : (p : PlainPart) → ◌≡◌ {A = Option PlainPart} None (Some p) → ⊥
none_some p e = cc

-- a spelling is not refused
pub never_refused : (bytes : List ℕ) (p : PlainPart) → part_at bytes ≡ None → Spells bytes p → ⊥
never_refused bytes p r s = none_some p (sym r ∙ ap part_at (sym s.spelled) ∙ part_again p s.part)
