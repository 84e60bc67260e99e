-- What a verified method and a verified class are, and the method of a name.
use Rattle.std.specs.Prelude.{ℕ, List, [], ◌∷◌, Option, Some, None, if◌then◌else◌}
use Rattle.std.specs.Borrow.{Bor}
use Rattle.std.specs.List.{AllByRecursion}
use Rattle.std.specs.Str.{bytes_eq}
use Rattle.bpf_decode.specs.Class.{ClassMethod, IsMethod, IsClass}
use Rattle.bpf_machine.specs.Safe.{IsSafe, IsSafeWithin, EndsAlways, EndsWithin}

-- a method within the limits that is safe, since every run of its instructions ends, also by any
-- host's limits
pub record IsVerified (m : ClassMethod) : Type 0 where
  pub method : IsMethod m
  pub ends : EndsAlways m
  pub safe : IsSafe m
  pub ends_within : EndsWithin m
  pub safe_within : IsSafeWithin m

-- a class each of whose methods is safe
pub record IsVerifiedClass (ms : List ClassMethod) : Type 0 where
  pub class : IsClass ms
  pub safe : AllByRecursion IsSafe ms

-- the method of a name, if a class has one
abbrev pub method_named : List ClassMethod → List ℕ → Option ClassMethod
method_named [] name = None
method_named (m ∷ ms) name = if bytes_eq m.name name then Some m else method_named ms name

-- what the code answers
abbrev pub given_method : Option (Bor ClassMethod) → Option ClassMethod
given_method None = None
given_method (Some m) = Some m.now
