-- The finite map of sorted entries.
use Rattle.std.proofs.Common.{◌≡◌, ℕ, ◌<◌, Bool, true, false, cond, not, IsTrue, List, [], length, Option, Some, None, is_some, refl, ap, sym, ◌∙◌, arith}
use Rattle.std.specs.Ordering.{nat_cmp, is_eq, eq_by_cmp}
use Rattle.std.specs.Cmp.{alike_right}
use Rattle.std.proofs.lemmas.Cmp.{nat_list_cmp_total, eq_by_cmp_equiv}
use Rattle.std.specs.Cmp.Lexicographic.{slice_cmp}
use Rattle.std.specs.Option.{option_copied}
use Rattle.std.specs.Borrow.{Bor}
use Rattle.std.specs.List.{slice_get}
use Rattle.std.specs.FinMap as fin
use Rattle.std.specs.FinMap.{put, find, nat_cmp-IsAntisymmetric, slice_cmp-IsAntisymmetric}
use Rattle.std.specs.FinMap.Entries.{find-where_key}
use Rattle.shared_map.specs.Entries.{Entries, ByteMap, sorted, least_above, without, key_above, nth}
use Rattle.shared_map.proofs.Places.{same_places}
use Rattle.shared_map.proofs.Halves.{to_T, sorted-put, sorted-without, tied}

turned : {A : Type 0} (b : Bool) (x y : A) → cond (not b) x y ≡ cond b y x
turned true x y = refl
turned false x y = refl

module _ {V : Type 0} where
  abbrev pub map_of : Entries V → ByteMap V
  map_of es = fin.from_sorted es

  same : (m n : ByteMap V) → ((q : List ℕ) → fin.get m q ≡ fin.get n q) → m ≡ n
  same m n h = fin.same_map nat_list_cmp_total (slice_cmp-IsAntisymmetric nat_cmp-IsAntisymmetric) m n h

  pub entries-map : (es : Entries V) → IsTrue (sorted es) → fin.entries (map_of es) ≡ es
  entries-map es h = fin.entries-from_sorted (slice_cmp nat_cmp) es (to_T _ h)

  pub get-map : (es : Entries V) (q : List ℕ) → IsTrue (sorted es) → fin.get (map_of es) q ≡ find (slice_cmp nat_cmp) q es
  get-map es q h = fin.get-from_sorted (slice_cmp nat_cmp) es q (to_T _ h)

  pub len-map : (es : Entries V) → IsTrue (sorted es) → fin.len (map_of es) ≡ length es
  len-map es h = fin.len-entries (map_of es) ∙ ap length (entries-map es h)

  pub above-map : (es : Entries V) (k : List ℕ) → IsTrue (sorted es) → key_above (map_of es) k ≡ least_above k es
  above-map es k h = ap (least_above k) (entries-map es h)

  pub nth-map : (es : Entries V) (n : ℕ) → IsTrue (sorted es) → nth (map_of es) n ≡ slice_get es n
  nth-map es n h = ap (λ (l : Entries V). slice_get l n) (entries-map es h)

  pub empty-map : map_of [] ≡ fin.empty
  empty-map = fin.empty_of_len (map_of []) (len-map [] refl)

  pub put-map : (es : Entries V) (k : List ℕ) (v : V) → IsTrue (sorted es) → map_of (put (slice_cmp nat_cmp) k v es) ≡ fin.insert (map_of es) k v
  put-map es k v h =
      fin.same_entries_map _ _
      (entries-map (put (slice_cmp nat_cmp) k v es) (sorted-put k v es h)
      ∙ ap (put (slice_cmp nat_cmp) k v) (sym (entries-map es h))
      ∙ sym (fin.entries-insert nat_list_cmp_total (map_of es) k v))

  pub without-map : (es : Entries V) (k : List ℕ) → IsTrue (sorted es) → map_of (without k es) ≡ fin.remove (map_of es) k
  without-map es k h =
      same _ _ (λ q.
      get-map (without k es) q (sorted-without k es h)
      ∙ find-where_key (slice_cmp nat_cmp) (λ x. not (eq_by_cmp (slice_cmp nat_cmp) k x)) q (λ x t. ap (λ r. not (is_eq r)) (sym (alike_right nat_list_cmp_total q x k t))) es
      ∙ turned (eq_by_cmp (slice_cmp nat_cmp) k q) _ _
      ∙ ap (λ b. cond b None (find (slice_cmp nat_cmp) q es)) ((eq_by_cmp_equiv nat_list_cmp_total).symm k q)
      ∙ ap (λ o. cond (eq_by_cmp (slice_cmp nat_cmp) q k) None o) (sym (get-map es q h))
      ∙ sym (fin.get-remove nat_list_cmp_total (map_of es) k q))

  none : (o : Option V) → is_some o ≡ false → o ≡ None
  none None e = refl
  none (Some x) e = absurd (cc)

  -- to remove what is not there changes nothing
  pub remove-absent : (m : ByteMap V) (k : List ℕ) → is_some (fin.get m k) ≡ false → m ≡ fin.remove m k
  remove-absent m k h =
      same _ _ (λ q. sym (fin.get-remove nat_list_cmp_total m k q
      ∙ elim (eq_by_cmp (slice_cmp nat_cmp) q k) as (λ b. eq_by_cmp (slice_cmp nat_cmp) q k ≡ b → cond b None (fin.get m q) ≡ fin.get m q) [
        | true ↦ λ e. sym (none _ h) ∙ fin.get_tied nat_list_cmp_total m q k (tied _ e)
        | false ↦ λ e. refl
      ] refl))

  pub is_some-copied : (o : Option (Bor V)) → is_some (option_copied o) ≡ is_some o
  is_some-copied None = refl
  is_some-copied (Some x) = refl

  -- maps of one length with the same entries at each place are equal
  pub same-places-map : (m n : ByteMap V) → fin.len m ≡ fin.len n → ((k : ℕ) → k < fin.len m → nth m k ≡ nth n k) → m ≡ n
  same-places-map m n e f =
      fin.same_entries_map m n
      (same_places (fin.entries m) (fin.entries n) (sym (fin.len-entries m) ∙ e ∙ fin.len-entries n) (λ k h. f k (omega (arith, h, fin.len-entries m))))
