-- The entries of a map: each is found by its name.
use Rattle.std.proofs.Common.{◌≡◌, ◌∙◌, ℕ, zero, suc, Bool, true, false, List, [], ◌∷◌, Some, refl, ap, subst}
use Rattle.std.specs.Prelude.{slice_get, T, ◌&&◌, cond}
use Rattle.std.specs.Ordering.{nat_cmp, is_lt, is_eq, ordering_reverse}
use Rattle.std.specs.declared.cmp.Ordering.{Ordering}
use Rattle.std.specs.declared.cmp.Ordering.TheVariants.{Less, Equal, Greater}
use Rattle.std.specs.Cmp.Lexicographic.{slice_cmp}
use Rattle.std.proofs.lemmas.Cmp.{nat_list_cmp_total}
use Rattle.std.specs.Cmp.{tied_itself}
use Rattle.std.specs.FinMap as fin
use Rattle.std.specs.FinMap.{find, is_sorted}
use Rattle.std.specs.FinMap.Entries.{below_all}
use Rattle.std.proofs.lemmas.Option.{none-some, same_Some}
use Rattle.shared_map.specs.Entries.{Entries, ByteMap, nth}

abbrev pub Rows : Type 0
Rows = Entries (List ℕ)

abbrev pub R : List ℕ → List ℕ → Ordering
R x y = slice_cmp nat_cmp x y

pub first : (a b : Bool) → T (a && b) → T a
first true b p = tt
first false b p = p

pub second : (a b : Bool) → T (a && b) → T b
second true b p = p
second false b p = absurd p

pub less : (o : Ordering) → T (is_lt o) → o ≡ Less
less Less p = refl
less Equal p = absurd p
less Greater p = absurd p

-- a key below all is below the one at a place
below_at : (x : List ℕ) (es : Rows) (n : ℕ) (e : List ℕ × List ℕ) → T (below_all R x es) → slice_get es n ≡ Some e → R x e.0 ≡ Less
below_at x [] n e h at = absurd (none-some e at)
below_at x (f ∷ es) zero e h at = subst (λ (g : List ℕ × List ℕ). R x g.0 ≡ Less) (same_Some f e at) (less _ (first _ _ h))
below_at x (f ∷ es) (suc n) e h at = below_at x es n e (second _ _ h) at

pub found_at : (es : Rows) (n : ℕ) (e : List ℕ × List ℕ) → T (is_sorted R es) → slice_get es n ≡ Some e → find R e.0 es ≡ Some e.1
found_at [] n e h at = absurd (none-some e at)
found_at (f ∷ es) zero e h at =
    let same : f ≡ e = same_Some f e at in
    subst (λ (g : List ℕ × List ℕ). find R g.0 (f ∷ es) ≡ Some g.1) same (ap (λ r. cond (is_eq r) (Some f.1) (find R f.0 es)) (tied_itself nat_list_cmp_total f.0))
found_at (f ∷ es) (suc n) e h at =
    let apart : R e.0 f.0 ≡ Greater = nat_list_cmp_total.antisymm e.0 f.0 ∙ ap ordering_reverse (below_at f.0 es n e (first _ _ h) at) in
    ap (λ r. cond (is_eq r) (Some f.1) (find R e.0 es)) apart ∙ found_at es n e (second _ _ h) at

-- an entry at a place is what its name has
pub got_at : (m : ByteMap (List ℕ)) (n : ℕ) (e : List ℕ × List ℕ) → nth m n ≡ Some e → fin.get m e.0 ≡ Some e.1
got_at m n e at = fin.get-entries m e.0 ∙ found_at (fin.entries m) n e (fin.entries_sorted m) at
