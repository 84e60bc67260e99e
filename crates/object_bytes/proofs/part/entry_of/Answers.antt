use Rattle.std.proofs.Common.{◌≡◌, ℕ, List, Option, Some, None, sym, arith}
use Rattle.std.specs.Prelude.{IfSome}
use Rattle.std.specs.Borrow.{Bor}
use Rattle.shared_map.specs.Entries.{entry_behind, nth}
use Rattle.object_store.specs.Object.{Attributes, AreWithin}
use Rattle.object_bytes.specs.Part.{IsShort}
use Rattle.object_bytes.proofs.Entries.{got_at}
use Rattle.object_bytes.proofs.part.entry_of.Goals as goal

abbrev Refs : Type 0
Refs = Option (Bor (List ℕ) × Bor (List ℕ))

short_at : (most : ℕ) (m : Attributes) (n : ℕ) (o : Refs) → AreWithin most m → entry_behind o ≡ nth m n → IfSome o (λ e. IsShort (e.0.now, e.1.now))
short_at most m n None h e = tt
short_at most m n (Some x) h e =
    let fits = h.each x.0.now x.1.now (got_at m n (x.0.now, x.1.now) (sym e)) in
    record { name = omega (arith, fits.0.1); value = omega (arith, fits.1.0) }

pub returns-in-Xattrs-clause-short : goal.returns-in-Xattrs-clause-short
returns-in-Xattrs-clause-short c = short_at _ _ _ _ c.within.ensures.xattrs c.xattr_at.ensures

pub returns-in-Keys-clause-short : goal.returns-in-Keys-clause-short
returns-in-Keys-clause-short c = short_at _ _ _ _ c.within.ensures.omap c.key_at.ensures
