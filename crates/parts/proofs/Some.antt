-- An object that may be the known one: the kept bytes and zeros elsewhere, and the kept names.
use Rattle.std.proofs.Common.{◌≡◌, ◌∙◌, ℕ, zero, suc, ◌<◌, ◌≤◌, ◌^◌, Bool, true, false, List, [], ◌∷◌, Option, Some, None, length, get_or, refl, ap, sym, arith}
use Rattle.std.specs.Option.{unwrap_or}
use Rattle.std.proofs.lemmas.Bool.Decides.{nat_tests}
use Rattle.object_store.specs.Object.{Attributes, PlainObject, AreBytes, IsName}
use Rattle.object_store.specs.Limits.{AreNames, IsAnyObject}
use Rattle.object_store.specs.Calls.{is_named}
use Rattle.part_data.specs.Known.{KnownData, known}
use Rattle.part_data.specs.Known as bytes_known
use Rattle.part_names.specs.Known.{AreKept}
use Rattle.parts.specs.Known.{KnownObject, Stands}
use Rattle.parts.specs.inner.Part.{IsNothing}
use Rattle.parts.proofs.Standing.{own_entries}

-- a function's first values
abbrev values : (ℕ → ℕ) → ℕ → List ℕ
values f zero = []
values f (suc n) = f 0 ∷ values (λ i. f (suc i)) n

length-values : (f : ℕ → ℕ) (n : ℕ) → length (values f n) ≡ n
length-values f zero = refl
length-values f (suc n) = ap suc (length-values (λ i. f (suc i)) n)

values_read : (f : ℕ → ℕ) (n p : ℕ) → p < n → get_or (values f n) p 0 ≡ f p
values_read f zero p h = absurd (omega (arith, h))
values_read f (suc n) zero h = refl
values_read f (suc n) (suc p) h = values_read (λ i. f (suc i)) n p (omega (arith, h))

values_bytes : (f : ℕ → ℕ) (n : ℕ) → ((p : ℕ) → f p < 256) → AreBytes (values f n)
values_bytes f zero h = tt
values_bytes f (suc n) h = (h 0, values_bytes (λ i. f (suc i)) n (λ p. h (suc p)))

-- ---- data
module _ (d : KnownData) where
  bytes : List ℕ
  bytes = values (λ p. unwrap_or (known d p) 0) d.size

  bytes_agree : bytes_known.Agrees d bytes
  unfolding bytes
  bytes_agree = record {
    length = length-values (λ p. unwrap_or (known d p) 0) d.size;
    each = λ p v lt e. values_read (λ p. unwrap_or (known d p) 0) d.size p lt ∙ ap (λ o. unwrap_or o 0) e;
  }

  bytes_are : ((p v : ℕ) → known d p ≡ Some v → v < 256) → AreBytes bytes
  unfolding bytes
  bytes_are h = values_bytes (λ p. unwrap_or (known d p) 0) d.size (λ p. by p (known d p) refl)
    where
      by : (p : ℕ) (o : Option ℕ) → known d p ≡ o → unwrap_or o 0 < 256
      by p None e = omega arith
      by p (Some v) e = h p v e

-- ---- names
is_name : (name : List ℕ) → is_named name ≡ true → AreBytes name → IsName name
is_name name e b = (some name e, short name e, b)
  where
    some : (name : List ℕ) → is_named name ≡ true → 1 ≤ length name
    some name e = grind (arith, nat_tests)

    short : (name : List ℕ) → is_named name ≡ true → length name ≤ 64
    short name e = grind (arith, nat_tests)

names_are : (most : ℕ) (m : Attributes) → AreKept most m → AreNames m
names_are most m k = λ name value e.
    let each = k.each name value e in
    let bytes = k.bytes name value e in
    (is_name name each.0 bytes.0, (each.1, bytes.1))

-- ---- the object
pub some_object : (k : KnownObject) → k.bytes.size < 2 ^ 63 → ((p v : ℕ) → known k.bytes p ≡ Some v → v < 256) → AreKept k.xattrs.most k.xattrs.entries → AreKept k.keys.most k.keys.entries → IsNothing k.present k.bytes k.xattrs k.keys → (o : PlainObject) × IsAnyObject o × Stands k o
some_object k size below xattrs keys nothing = by k.present refl
  where
    by : (b : Bool) → k.present ≡ b → (o : PlainObject) × IsAnyObject o × Stands k o
    by false e =
        let none = nothing e in (
          None,
          tt,
          record {
            presence = sym e;
            bytes = record { length = sym none.0; each = λ p v lt h. let s = none.0 in absurd (omega (arith, lt, s)) };
            xattrs = none.1;
            keys = none.2;
          },
        )
    by true e =
        let len = (bytes_agree k.bytes).length in (
          Some (record { bytes = bytes k.bytes; xattrs = k.xattrs.entries; omap = k.keys.entries }),
          record {
            length = omega (arith, len, size);
            bytes = bytes_are k.bytes below;
            xattrs = names_are k.xattrs.most k.xattrs.entries xattrs;
            omap = names_are k.keys.most k.keys.entries keys;
          },
          record {
            presence = sym e;
            bytes = bytes_agree k.bytes;
            xattrs = own_entries k.xattrs;
            keys = own_entries k.keys;
          },
        )
