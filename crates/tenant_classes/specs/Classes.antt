-- The classes that requests go to, and why they can't be loaded.
use Rattle.std.specs.Prelude.{◌≡◌, ◌⊎◌, ⊤, ℕ, List, [], ◌∷◌, ◌++◌, map, Option, codes}
use Rattle.bpf_decode.specs.Class.{ClassMethod}
use Rattle.builtin_classes.specs.BuiltIn.{AreLoaded, LoadFails as TextFails}
use Rattle.builtin_classes.specs.declared.failure.BuiltInFailure.{BuiltInFailure}
use Rattle.builtin_classes.specs.declared.failure.BuiltInFailure.TheVariants as built_in
use Rattle.builtin_classes.specs.declared.lock.TheConstants.{LOCK}
use Rattle.builtin_classes.specs.declared.obj.TheConstants.{OBJ}
use Rattle.program_files.specs.Files.{Disk}
use Rattle.program_files.specs.Image.{IsSafeIn, LoadFails}
use Rattle.program_files.specs.declared.failure.Failure.{Failure}
use Rattle.program_files.specs.declared.failure.Failure.TheVariants.{NoMemory, Text, Verdict}
use Rattle.pg_log.specs.Log.{Classes}
use Rattle.tenant_classes.specs.declared.tenant_class.TenantClass.{TenantClass}

-- the names of the classes in requests, by their ids
abbrev pub names_of : List TenantClass → List (List ℕ)
names_of tenants = codes "lock" ∷ codes "obj" ∷ map (λ o. o.name.now) tenants

-- the file of each tenant holds its class, and the class is safe
abbrev pub AreIn : Option Disk → List TenantClass → Classes → Type 0
AreIn disk [] [] = ⊤
AreIn disk [] (class ∷ classes) = ⊥
AreIn disk (o ∷ tenants) [] = ⊥
AreIn disk (o ∷ tenants) (class ∷ classes) = IsSafeIn disk o.image.now class × AreIn disk tenants classes

-- those classes were added to a table
pub record GrewByTenants (disk : Option Disk) (tenants : List TenantClass) (old new : Classes) : Type 0 where
  pub others : Classes
  pub added : new ≡ old ++ others
  pub loaded : AreIn disk tenants others

-- THE CLASSES: the built-in ones, `lock` 0 and `obj` 1, and from 2 on those of the tenants, in the
-- given order.
pub record AreClasses (disk : Option Disk) (tenants : List TenantClass) (classes : Classes) : Type 0 where
  pub ours : Classes
  pub built_in : AreLoaded LOCK.now OBJ.now ours
  pub loaded : GrewByTenants disk tenants ours classes

-- the failure of a built-in class as the program tells it
abbrev pub failure_of : BuiltInFailure → Failure
failure_of built_in.NoMemory = NoMemory
failure_of (built_in.Text error) = Text error
failure_of (built_in.Verdict refusal) = Verdict refusal

-- A built-in class can't be loaded.
abbrev pub BuiltInFails : Failure → Type 0
BuiltInFails failure =
    (why : BuiltInFailure) × (failure ≡ failure_of why) × (TextFails LOCK.now why ⊎ TextFails OBJ.now why)

-- a file holds a safe class
abbrev pub HoldsClass : Option Disk → TenantClass → Type 0
HoldsClass disk o = (class : List ClassMethod) × IsSafeIn disk o.image.now class

-- The first file from which no safe class was read, and why; each file before it holds one.
abbrev pub TenantsFail : Option Disk → List TenantClass → Failure → Type 0
TenantsFail disk [] failure = ⊥
TenantsFail disk (o ∷ tenants) failure =
    LoadFails disk o.image.now failure ⊎ (HoldsClass disk o × TenantsFail disk tenants failure)

-- Why the classes can't be loaded: because of a built-in class, or else because of a tenant's, the
-- first one that can't be loaded.
abbrev pub ClassesFail : Option Disk → List TenantClass → Failure → Type 0
ClassesFail disk tenants failure = BuiltInFails failure ⊎ TenantsFail disk tenants failure
