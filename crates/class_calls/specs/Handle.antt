-- What a handle tells of the class that it holds.
use Rattle.std.specs.Prelude.{◌≡◌, ℕ, List, Option, Some, None, slice_get}
use Rattle.std.specs.Borrow.{Bor}
use Rattle.bpf_decode.specs.Class.{ClassMethod}
use Rattle.verifier.specs.Verified.{method_named}
use Rattle.footprint.specs.Needed.{needed}
use Rattle.class_calls.specs.declared.handle.Declared.{Declared}

-- the number is that of the first method of the name
pub record IsPlace (class : List ClassMethod) (name : List ℕ) (n : ℕ) : Type 0 where
  pub method : ClassMethod
  pub named : method_named class name ≡ Some method
  pub at : slice_get class n ≡ Some method

-- what a method declares, and the parts that its code needs
abbrev pub declared_of : ClassMethod → Declared
declared_of m = record { flags = m.flags; in_cap = m.in_cap; out_cap = m.out_cap; parts = needed m.instructions }

-- a method's name beside it
abbrev pub told_of : ClassMethod → List ℕ × Declared
told_of m = (m.name, declared_of m)

-- what the code answers
abbrev pub told : Option (Bor (List ℕ) × Declared) → Option (List ℕ × Declared)
told None = None
told (Some x) = Some (x.0.now, x.1)
