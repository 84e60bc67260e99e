-- An object that holds nothing has no entry at any place, and none above any bytes.
use Rattle.std.proofs.Common.{◌≡◌, ℕ, List, [], ◌∷◌, None, length, refl, sym, ◌∙◌}
use Rattle.std.specs.Cmp.Lexicographic.{slice_cmp}
use Rattle.std.specs.Ordering.{nat_cmp}
use Rattle.std.specs.List.{slice_get}
use Rattle.std.specs.FinMap as fin
use Rattle.shared_map.specs.Entries.{Entries, nth, key_above, least_above}
use Rattle.object_store.specs.Object.{nothing}

no_place : (es : Entries (List ℕ)) (n : ℕ) → length es ≡ 0 → None ≡ slice_get es n
no_place [] n e = refl
no_place (x ∷ es) n e = absurd (cc)

none_above : (k : List ℕ) (es : Entries (List ℕ)) → length es ≡ 0 → None ≡ least_above k es
none_above k [] e = refl
none_above k (x ∷ es) e = absurd (cc)

no_xattrs : length (fin.entries nothing.xattrs) ≡ 0
no_xattrs = sym (fin.len-entries nothing.xattrs) ∙ fin.len-empty (slice_cmp nat_cmp) (List ℕ)

no_keys : length (fin.entries nothing.omap) ≡ 0
no_keys = sym (fin.len-entries nothing.omap) ∙ fin.len-empty (slice_cmp nat_cmp) (List ℕ)

pub no_xattr : (n : ℕ) → None ≡ nth nothing.xattrs n
no_xattr n = no_place (fin.entries nothing.xattrs) n no_xattrs

pub no_key : (n : ℕ) → None ≡ nth nothing.omap n
no_key n = no_place (fin.entries nothing.omap) n no_keys

pub no_xattr_above : (name : List ℕ) → None ≡ key_above nothing.xattrs name
no_xattr_above name = none_above name (fin.entries nothing.xattrs) no_xattrs

pub no_key_above : (key : List ℕ) → None ≡ key_above nothing.omap key
no_key_above key = none_above key (fin.entries nothing.omap) no_keys
