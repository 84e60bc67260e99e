-- What isn't refused is a name, and its value.
use Rattle.std.proofs.Common.{◌≡◌, ◌+◌, ◌≤◌, ◌<◌, ℕ, Bool, true, false, List, Option, Some, None, arith, length, IsTrue, sym, suc}
use Rattle.std.specs.Prelude.{if◌then◌else◌, ◌==◌, ◌&&◌, not, nat_lt}
use Rattle.std.proofs.lemmas.Bool.Decides.{leb_tells}
use Rattle.std.proofs.lemmas.Bool.{eqb-true}
use Rattle.object_store.specs.declared.limits.TheConstants.{NAME_LIMIT, VALUE_LIMIT}
use Rattle.object_store.specs.declared.store_error.StoreError.{StoreError}
use Rattle.object_store.specs.declared.store_error.StoreError.TheVariants.{TooBig, Range}
use Rattle.object_store.specs.Calls.{is_named}
use Rattle.object_store.specs.Limits.{IsAnyObject}
use Rattle.object_store.specs.Object.{AreBytes, Content, IsName, IsValue}
use Rattle.large_objects.specs.declared.limits.TheConstants.{LARGE_LIMIT}
use Rattle.large_objects.specs.Large.{IsLarge, fits_data, set_refusal}

-- both tests hold
both : (a b : Bool) → (not a && not b) ≡ true → (a ≡ false) × (b ≡ false)
both true b e = absurd cc
both false true e = absurd cc
both false false e = (cc, cc)

some_bytes : (n : ℕ) → (n == 0) ≡ false → 1 ≤ n
some_bytes n e = grind (arith, eqb-true n 0)

at_most : (m n : ℕ) → nat_lt m n ≡ false → n ≤ m
at_most m n e = grind (arith, leb_tells (suc m) n)

refused_not : (a b : Bool) → ◌≡◌ {A = Option StoreError} (if a then if b then Some TooBig else None else Some Range) None → (a ≡ true) × (b ≡ false)
refused_not true true e = absurd cc
refused_not true false e = (cc, cc)
refused_not false b e = absurd cc

pub allowed : (name value : List ℕ) → None ≡ set_refusal name value → AreBytes name → AreBytes value → IsName name × IsValue value
allowed name value e n v =
    let r = refused_not (is_named name) (nat_lt VALUE_LIMIT (length value)) (sym e) in
    let t = both (length name == 0) (nat_lt NAME_LIMIT (length name)) r.0 in (
      (some_bytes (length name) t.0, at_most NAME_LIMIT (length name) t.1, n),
      (at_most VALUE_LIMIT (length value) r.1, v),
    )

-- such texts are short
pub short_name : (name : List ℕ) → IsTrue (is_named name) → length name < 65536
short_name name e =
    let t = both (length name == 0) (nat_lt NAME_LIMIT (length name)) e in
    let most = at_most NAME_LIMIT (length name) t.1 in
    omega (arith, most)

pub short_set : (name value : List ℕ) → set_refusal name value ≡ None → (length name < 65536) × (length value < 65536)
short_set name value e =
    let r = refused_not (is_named name) (nat_lt VALUE_LIMIT (length value)) e in
    let most = at_most VALUE_LIMIT (length value) r.1 in
    (short_name name r.0, omega (arith, most))

pub at_most_data : (at len : ℕ) → IsTrue (fits_data at len) → at + len ≤ LARGE_LIMIT
at_most_data at len e = grind (arith, leb_tells (at + len) LARGE_LIMIT)

-- an object within an OSD's limits is such as a host may have
pub any_object : (c : Content) → IsLarge c → IsAnyObject (Some c)
any_object c h =
    let short = h.length in
    record { length = omega (arith, short); bytes = h.bytes; xattrs = h.xattrs; omap = h.omap }
