-- A part that has all of an object is one, agrees with the object, and says all of it.
use Rattle.std.proofs.Common.{◌≡◌, ◌∙◌, ℕ, zero, suc, ◌+◌, ◌-◌, ◌*◌, ◌<◌, ◌≤◌, min, Bool, true, false, cond, List, [], ◌∷◌, ◌++◌, Some, None, Result, Ok, Err, IfOk, refl, ap, sym, subst, arith, inl, inr, length, take, drop, length-append, length-drop, lit≤, ◌^◌, add-one}
use Rattle.std.specs.Prelude.{◌⊎◌, ◌&&◌, T, slice_get, map}
use Rattle.std.specs.List.{AllByRecursion}
use Rattle.std.specs.Ordering.{nat_cmp, is_lt, is_eq, ordering_reverse}
use Rattle.std.specs.declared.cmp.Ordering.{Ordering}
use Rattle.std.specs.declared.cmp.Ordering.TheVariants.{Less, Equal, Greater}
use Rattle.std.specs.Cmp.{tied_itself}
use Rattle.std.specs.Cmp.Lexicographic.{slice_cmp}
use Rattle.std.specs.FinMap as fin
use Rattle.std.specs.FinMap.{find, is_sorted, nat_cmp-IsAntisymmetric, slice_cmp-IsAntisymmetric}
use Rattle.std.specs.FinMap.Entries.{below_all}
use Rattle.std.proofs.lemmas.Cmp.{nat_list_cmp_total}
use Rattle.std.proofs.lemmas.List.{length-take, map-append}
use Rattle.std.proofs.lemmas.Option.{none-some, same_Some}
use Rattle.std.proofs.lemmas.Grind.{div_ceil_times}
use Rattle.object_store.specs.Object as object
use Rattle.object_store.specs.Object.{Attributes, AreWithin, IsName, IsValue, part}
use Rattle.part_bytes.specs.Part.{Block, Entry, Names, Content, AreInTurn, IsBlock, IsEntry, IsBelow, IsHeld, AreNames, IsContent, Everything, after_block, after_entry}
use Rattle.part_bytes.specs.View.{block_view, entry_view}
use Rattle.part_bytes.specs.declared.blocks.Block as of_block
use Rattle.part_bytes.specs.declared.names.NamedValue as of_name
use Rattle.part_data.specs.Known.{block_of, blocks_of}
use Rattle.parts.specs.Agreed.{HasBlocks, IsInBlock, HasNoEntry, AgreeNames, AgreesContent, KnowsContent, KnowsAll}
use Rattle.parts.specs.Known.{KnownObject}
use Rattle.loop_objects.specs.inner.Whole.{AreNamesOf, IsAllOf, first_blocks}

-- ---- blocks
-- the least number that a block may have after some
abbrev next_of : ℕ → List Block → ℕ
next_of s [] = s
next_of s (b ∷ bs) = next_of (after_block b) bs

turn_more : (size s : ℕ) (bs : List Block) (b : Block) → AreInTurn (IsBlock size) after_block s bs → IsBlock size (next_of s bs) b → AreInTurn (IsBlock size) after_block s (bs ++ b ∷ [])
turn_more size s [] b h k = (k, tt)
turn_more size s (x ∷ bs) b h k = (h.0, turn_more size (after_block x) bs b h.1 k)

next_more : (s : ℕ) (bs : List Block) (b : Block) → next_of s (bs ++ b ∷ []) ≡ after_block b
next_more s [] b = refl
next_more s (x ∷ bs) b = next_more (after_block x) bs b

next_first : (bytes : List ℕ) (n : ℕ) → next_of 0 (first_blocks bytes n) ≡ n
next_first bytes zero = refl
next_first bytes (suc n) = next_more 0 (first_blocks bytes n) _ ∙ one n
  where
    one : (k : ℕ) → k + 1 ≡ suc k
    one k = omega arith

length_first : (bytes : List ℕ) (n : ℕ) → length (first_blocks bytes n) ≡ n
length_first bytes zero = refl
length_first bytes (suc n) = length-append (first_blocks bytes n) _ ∙ more (length (first_blocks bytes n)) n (length_first bytes n)
  where
    more : (k n : ℕ) → k ≡ n → k + 1 ≡ suc n
    more k n e = omega (arith, e)

-- a block that there is begins below the end
begins : (n size : ℕ) → n < blocks_of size → 4096 * n < size
begins n size h = let b = div_ceil_times size 4096 (omega arith) in omega (arith, b, h)

part_length : (bytes : List ℕ) (at n : ℕ) → length (part bytes at n) ≡ min n (length bytes - at)
part_length bytes at n = length-take n (drop at bytes) ∙ ap (min n) (length-drop at bytes)

turn_first : (bytes : List ℕ) (n : ℕ) → n ≤ blocks_of (length bytes) → AreInTurn (IsBlock (length bytes)) after_block 0 (first_blocks bytes n)
turn_first bytes zero h = tt
turn_first bytes (suc n) h =
    let below : n < blocks_of (length bytes) = omega (arith, h) in
    let from : next_of 0 (first_blocks bytes n) ≤ n = omega (arith, next_first bytes n) in
    turn_more (length bytes) 0 (first_blocks bytes n) (n, part bytes (4096 * n) 4096) (turn_first bytes n (omega (arith, h))) (record {
      from = from;
      begins = begins n (length bytes) below;
      length = part_length bytes (4096 * n) 4096;
    })

has_more : (bs : List Block) (b : Block) (bytes : List ℕ) → HasBlocks bs bytes → part bytes (4096 * b.0) 4096 ≡ b.1 → HasBlocks (bs ++ b ∷ []) bytes
has_more [] b bytes h k = (k, tt)
has_more (x ∷ bs) b bytes h k = (h.0, has_more bs b bytes h.1 k)

has_first : (bytes : List ℕ) (n : ℕ) → HasBlocks (first_blocks bytes n) bytes
has_first bytes zero = tt
has_first bytes (suc n) = has_more (first_blocks bytes n) (n, part bytes (4096 * n) 4096) bytes (has_first bytes n) refl

in_more : (bs : List Block) (b : Block) (at : ℕ) → (IsInBlock bs at ⊎ (block_of at ≡ b.0)) → IsInBlock (bs ++ b ∷ []) at
in_more [] b at (inl h) = absurd h
in_more [] b at (inr h) = inl h
in_more (x ∷ bs) b at (inl (inl h)) = inl h
in_more (x ∷ bs) b at (inl (inr h)) = inr (in_more bs b at (inl h))
in_more (x ∷ bs) b at (inr h) = inr (in_more bs b at (inr h))

last_or : (k n : ℕ) → k < suc n → (k < n) ⊎ (k ≡ n)
last_or k n h = grind arith

in_first : (bytes : List ℕ) (n at : ℕ) → block_of at < n → IsInBlock (first_blocks bytes n) at
in_first bytes zero at h = absurd (no (block_of at) h)
  where
    no : (k : ℕ) → k < 0 → ⊥
    no k h = omega (arith, h)
in_first bytes (suc n) at h =
    elim (last_or (block_of at) n h) [
      | inl less ↦ in_more (first_blocks bytes n) (n, part bytes (4096 * n) 4096) at (inl (in_first bytes n at less))
      | inr last ↦ in_more (first_blocks bytes n) (n, part bytes (4096 * n) 4096) at (inr last)
    ]

-- the next block
pub block_next : (items : List of_block.Block) (b : of_block.Block) (bytes : List ℕ) (n : ℕ) → map block_view items ≡ first_blocks bytes n → block_view b ≡ (n, part bytes (4096 * n) 4096) → map block_view (items ++ b ∷ []) ≡ first_blocks bytes (n + 1)
block_next items b bytes n e f =
    map-append block_view items (b ∷ [])
    ∙ ap (λ (bs : List Block). bs ++ block_view b ∷ []) e
    ∙ ap (λ (x : Block). first_blocks bytes n ++ x ∷ []) f
    ∙ ap (first_blocks bytes) (sym (add-one n))

-- ---- names
-- one more
pub take_next : {A : Type 0} (xs : List A) (n : ℕ) (x : A) → slice_get xs n ≡ Some x → take (n + 1) xs ≡ take n xs ++ x ∷ []
take_next [] n x at = absurd (none-some x at)
take_next (y ∷ ys) zero x at = ap (λ z. z ∷ []) (same_Some y x at)
take_next (y ∷ ys) (suc n) x at = ap (λ k. take k (y ∷ ys)) (add-one (suc n)) ∙ ap (λ zs. y ∷ zs) (ap (λ k. take k ys) (sym (add-one n)) ∙ take_next ys n x at)

-- or none
pub take_past : {A : Type 0} (xs : List A) (n : ℕ) → slice_get xs n ≡ None → take (n + 1) xs ≡ take n xs
take_past [] zero at = refl
take_past [] (suc n) at = ap (λ k. take k []) (add-one (suc n))
take_past (y ∷ ys) zero at = absurd (none-some y (sym at))
take_past (y ∷ ys) (suc n) at = ap (λ k. take k (y ∷ ys)) (add-one (suc n)) ∙ ap (λ zs. y ∷ zs) (ap (λ k. take k ys) (sym (add-one n)) ∙ take_past ys n at)

-- the next name
pub name_next : (items : List of_name.NamedValue) (b : of_name.NamedValue) (es : List Entry) (n : ℕ) → map entry_view items ≡ take n es → slice_get es n ≡ Some (entry_view b) → map entry_view (items ++ b ∷ []) ≡ take (n + 1) es
name_next items b es n e at =
    map-append entry_view items (b ∷ [])
    ∙ ap (λ (l : List Entry). l ++ entry_view b ∷ []) e
    ∙ sym (take_next es n (entry_view b) at)

abbrev Rows : Type 0
Rows = List Entry

abbrev R : List ℕ → List ℕ → Ordering
R x y = slice_cmp nat_cmp x y

first : (a b : Bool) → T (a && b) → T a
first true b p = tt
first false b p = p

second : (a b : Bool) → T (a && b) → T b
second true b p = p
second false b p = absurd p

less : (o : Ordering) → T (is_lt o) → o ≡ Less
less Less p = refl
less Equal p = absurd p
less Greater p = absurd p

-- a name below all entries is none of them
below_apart : (x : List ℕ) (f : Entry) (es : Rows) → T (below_all R x es) → (n : ℕ) → slice_get es n ≡ Some f → R x f.0 ≡ Less
below_apart x f [] h n at = absurd (none-some f at)
below_apart x f (e ∷ es) h zero at = subst (λ (g : Entry). R x g.0 ≡ Less) (same_Some e f at) (less _ (first _ _ h))
below_apart x f (e ∷ es) h (suc n) at = below_apart x f es (second _ _ h) n at

found_at : (es : Rows) (n : ℕ) (e : Entry) → T (is_sorted R es) → slice_get es n ≡ Some e → find R e.0 es ≡ Some e.1
found_at [] n e h at = absurd (none-some e at)
found_at (f ∷ es) zero e h at =
    let same : f ≡ e = same_Some f e at in
    subst (λ (g : Entry). find R g.0 (f ∷ es) ≡ Some g.1) same (ap (λ r. cond (is_eq r) (Some f.1) (find R f.0 es)) (tied_itself nat_list_cmp_total f.0))
found_at (f ∷ es) (suc n) e h at =
    let apart : R e.0 f.0 ≡ Greater = nat_list_cmp_total.antisymm e.0 f.0 ∙ ap ordering_reverse (below_apart f.0 e es (first _ _ h) n at) in
    ap (λ r. cond (is_eq r) (Some f.1) (find R e.0 es)) apart ∙ found_at es n e (second _ _ h) at

-- what holds at each place holds of all
all_at : (P : Entry → Type 0) (es : Rows) → ((n : ℕ) (e : Entry) → slice_get es n ≡ Some e → P e) → AllByRecursion P es
all_at P [] h = tt
all_at P (e ∷ es) h = (h zero e refl, all_at P es (λ n f at. h (suc n) f at))

got_all : (m : Attributes) → AllByRecursion (λ (e : Entry). fin.get m e.0 ≡ Some e.1) (fin.entries m)
got_all m = all_at _ (fin.entries m) (λ n e at. fin.get-entries m e.0 ∙ found_at (fin.entries m) n e (fin.entries_sorted m) at)

-- names with their values, as an object may have
abbrev IsNamed : Entry → Type 0
IsNamed e = IsName e.0 × IsValue e.1

all_named : (most : ℕ) (m : Attributes) → AreWithin most m → (es : Rows) → AllByRecursion (λ (e : Entry). fin.get m e.0 ≡ Some e.1) es → AllByRecursion IsNamed es
all_named most m w [] h = tt
all_named most m w (e ∷ es) h = (w.each e.0 e.1 h.0, all_named most m w es h.1)

turn_names : (s : List ℕ) (es : Rows) → T (below_all R s es) → T (is_sorted R es) → AllByRecursion IsNamed es → AreInTurn IsEntry after_entry s es
turn_names s [] b h k = tt
turn_names s (e ∷ es) b h k = (
  record { above = less _ (first _ _ b); some = k.0.0.0; name = k.0.0.1; value = k.0.1.0 },
  turn_names e.0 es (first _ _ h) (second _ _ h) k.1,
)

-- the empty name is below all others
empty_first : (name : List ℕ) → 1 ≤ length name → R [] name ≡ Less
empty_first [] h = absurd (no h)
  where
    no : 1 ≤ 0 → ⊥
    no h = omega (arith, h)
empty_first (x ∷ xs) h = refl

both : (a b : Bool) → T a → T b → T (a && b)
both true b p q = q
both false b p q = p

empty_below : (es : Rows) → AllByRecursion IsNamed es → T (below_all R [] es)
empty_below [] k = tt
empty_below (e ∷ es) k = both _ _ (subst (λ (o : Ordering). T (is_lt o)) (sym (empty_first e.0 k.0.0.0)) tt) (empty_below es k.1)

all_held : (name : List ℕ) → IsHeld Everything name
all_held name = inl (record { from = by name; to = inl refl })
  where
    by : (name : List ℕ) → IsBelow name [] → ⊥
    by [] h = cc
    by (x ∷ xs) h = cc

held_entries : (es : Rows) → AllByRecursion (λ (e : Entry). IsHeld Everything e.0) es
held_entries [] = tt
held_entries (e ∷ es) = (all_held e.0, held_entries es)

module _ (most : ℕ) (m : Attributes) (w : AreWithin most m) where
  named : AllByRecursion IsNamed (fin.entries m)
  named = all_named most m w (fin.entries m) (got_all m)

  are_names : AreNames most (record { intervals = Everything; entries = fin.entries m })
  are_names = record {
    few_intervals = lit≤ tt;
    intervals = (record { low = lit≤ tt; high = lit≤ tt; rises = inl refl; begins = tt }, tt);
    few_entries = omega (arith, fin.len-entries m, w.number);
    entries = turn_names [] (fin.entries m) (empty_below (fin.entries m) named) (fin.entries_sorted m) named;
    held = held_entries (fin.entries m);
  }

-- a name that no entry has isn't found
find_none : (name : List ℕ) (es : Rows) → HasNoEntry es name → find R name es ≡ None
find_none name [] h = refl
find_none name (e ∷ es) h =
    elim (R name e.0) as (λ r. R name e.0 ≡ r → cond (is_eq r) (Some e.1) (find R name es) ≡ None) [
      | Less ↦ λ p. find_none name es h.1
      | Equal ↦ λ p. absurd (h.0 (sym (slice_cmp-IsAntisymmetric nat_cmp-IsAntisymmetric name e.0 p)))
      | Greater ↦ λ p. find_none name es h.1
    ] refl

agree_names : (m : Attributes) → AgreeNames (record { intervals = Everything; entries = fin.entries m }) m
agree_names m = record {
  entries = got_all m;
  others = λ name held none. fin.get-entries m name ∙ find_none name (fin.entries m) none;
}

names_are : (n : Names) (m : Attributes) → AreNamesOf m n → record { intervals = Everything; entries = fin.entries m } ≡ n
names_are n m h = λ i. record { intervals = sym h.intervals i; entries = sym h.entries i }

pub whole_names : (most : ℕ) (m : Attributes) (n : Names) → AreWithin most m → AreNamesOf m n → AreNames most n
whole_names most m n w h = subst (AreNames most) (names_are n m h) (are_names most m w)

pub whole_agree : (m : Attributes) (n : Names) → AreNamesOf m n → AgreeNames n m
whole_agree m n h = subst (λ (x : Names). AgreeNames x m) (names_are n m h) (agree_names m)

-- ---- all of an object
few : (n size : ℕ) → size ≤ 65536 → n ≡ blocks_of size → n ≤ 1024
few n size h e = let b = div_ceil_times size 4096 (omega arith) in omega (arith, b, h, e)

same_size : (n m : ℕ) → n ≡ m → m ≤ 65536 → n < 2 ^ 63
same_size n m e h = omega (arith, e, h)

module _ (c : object.Content) (p : Content) (ok : object.IsContent c) (all : IsAllOf c p) where
  turn_all : AreInTurn (IsBlock p.size) after_block 0 p.blocks
  turn_all =
      subst (λ (s : ℕ). AreInTurn (IsBlock s) after_block 0 p.blocks) (sym all.size)
      (subst (λ (bs : List Block). AreInTurn (IsBlock (length c.bytes)) after_block 0 bs) (sym all.blocks) (turn_first c.bytes (blocks_of (length c.bytes)) (omega arith)))

  pub is_part : IsContent p
  is_part = record {
    size = same_size p.size (length c.bytes) all.size ok.length;
    few_blocks = few (length p.blocks) (length c.bytes) ok.length (ap length all.blocks ∙ length_first c.bytes (blocks_of (length c.bytes)));
    blocks = turn_all;
    xattrs = whole_names 32 c.xattrs p.xattrs ok.xattrs all.xattrs;
    keys = whole_names 1024 c.omap p.keys ok.omap all.keys;
  }

  pub agrees : AgreesContent p c
  agrees = record {
    size = sym all.size;
    blocks = subst (λ (bs : List Block). HasBlocks bs c.bytes) (sym all.blocks) (has_first c.bytes (blocks_of (length c.bytes)));
    xattrs = whole_agree c.xattrs p.xattrs all.xattrs;
    keys = whole_agree c.omap p.keys all.keys;
  }

  -- each position is in a block or past them
  pub each_known : (at : ℕ) → IsInBlock p.blocks at ⊎ (blocks_of p.size ≤ block_of at)
  each_known at =
      elim (below_or (block_of at) (blocks_of (length c.bytes))) [
        | inl below ↦ inl (subst (λ (bs : List Block). IsInBlock bs at) (sym all.blocks) (in_first c.bytes (blocks_of (length c.bytes)) at below))
        | inr past ↦ inr (subst (λ (s : ℕ). blocks_of s ≤ block_of at) (sym all.size) past)
      ]
    where
      below_or : (k n : ℕ) → (k < n) ⊎ (n ≤ k)
      below_or k n = grind arith

  held_all : (n : Names) (m : Attributes) → AreNamesOf m n → (name : List ℕ) → IsHeld n.intervals name
  held_all n m h name = subst (λ is. IsHeld is name) (sym h.intervals) (all_held name)

  pub knows_all : (k : KnownObject) → KnowsContent p k → KnowsAll k
  knows_all k h = record {
    bytes = λ at. (h.bytes at).1 (each_known at);
    xattrs = λ name. (h.xattrs name).1 (held_all p.xattrs c.xattrs all.xattrs name);
    keys = λ name. (h.keys name).1 (held_all p.keys c.omap all.keys name);
    xattrs_held = λ name. (h.xattrs_held name).1 (held_all p.xattrs c.xattrs all.xattrs name);
    keys_held = λ name. (h.keys_held name).1 (held_all p.keys c.omap all.keys name);
  }

-- what of each value that came follows from another
pub on_ok : {A E : Type 0} (r : Result A E) (P Q : A → Type 0) → ((x : A) → P x → Q x) → IfOk r P → IfOk r Q
on_ok (Ok x) P Q f h = f x h
on_ok (Err e) P Q f h = h
