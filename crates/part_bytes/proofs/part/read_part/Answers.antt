use Rattle.std.proofs.Common.{◌≡◌, ℕ, suc, ◌<◌, List, [], ◌∷◌, Option, Result, Ok, Err, inl, inr, get_or, arith}
use Rattle.std.specs.Prelude.{IfOk}
use Rattle.object_store.specs.Object.{AreBytes}
use Rattle.part_bytes.specs.declared.part.ObjectPart.{ObjectPart}
use Rattle.part_bytes.specs.declared.part_error.PartError.{PartError}
use Rattle.part_bytes.specs.declared.part_error.PartError.TheVariants.{NoPart, NoMemory}
use Rattle.part_bytes.specs.Part.{PlainPart, Spells}
use Rattle.part_bytes.specs.View.{part_view}
use Rattle.part_bytes.specs.inner.Reading.{Gives, part_at}
use Rattle.part_bytes.proofs.Parts.{part_exact, never_refused}
use Rattle.part_bytes.proofs.part.read_part.Goals as goal

abbrev Read : Type 0
Read = Result (Option ObjectPart) PartError

each_below : (xs : List ℕ) → ((i : ℕ) → get_or xs i 0 < 256) → AreBytes xs
each_below [] h = tt
each_below (x ∷ xs) h = (h 0, each_below xs (λ i. h (suc i)))

found_in : (bytes : List ℕ) (r : Read) → AreBytes bytes → Gives part_view r (part_at bytes) → IfOk r (λ p. Spells bytes (part_view p))
found_in bytes (Ok p) are h = part_exact bytes (part_view p) are h
found_in bytes (Err e) are h = tt

not_memory : (e : PartError) → e ≡ NoMemory → ◌≡◌ {A = Read} (Err e) (Err NoPart) → ⊥
not_memory e m h = cc

refused_in : (bytes : List ℕ) (r : Read) → Gives part_view r (part_at bytes) → r ≡ Err NoPart → (p : PlainPart) → Spells bytes p → ⊥
refused_in bytes (Ok p) h is q s = absurd cc
refused_in bytes (Err e) (inl m) is p s = not_memory e m is
refused_in bytes (Err e) (inr none) is p s = never_refused bytes p none s

pub returns-clause-found : goal.returns-clause-found
returns-clause-found c = found_in c.args.bytes.now c.part_at.result (each_below c.args.bytes.now (λ i. omega (arith, c.type_inv.bytes i))) c.part_at.ensures

pub returns-clause-refused : goal.returns-clause-refused
returns-clause-refused c = refused_in c.args.bytes.now c.part_at.result c.part_at.ensures
