-- Tenants' classes, one after the other.
use Rattle.std.proofs.Common.{◌≡◌, ◌+◌, ◌<◌, ℕ, zero, suc, List, [], ◌∷◌, ◌++◌, ◌∙◌, Option, inl, inr, ap, arith, append_assoc, get_or, length, subst, sym, take}
use Rattle.std.proofs.lemmas.List.{take_more}
use Rattle.bpf_decode.specs.Class.{ClassMethod}
use Rattle.program_files.specs.Files.{Disk}
use Rattle.program_files.specs.Image.{IsSafeIn, LoadFails}
use Rattle.program_files.specs.declared.failure.Failure.{Failure}
use Rattle.pg_log.specs.Log.{Classes}
use Rattle.tenant_classes.specs.Classes.{AreIn, GrewByTenants, TenantsFail}
use Rattle.tenant_classes.specs.declared.tenant_class.TenantClass.{TenantClass}

-- one more class
AreIn-more : (disk : Option Disk) (tenants : List TenantClass) (classes : Classes) (o : TenantClass) (class : List ClassMethod)
    → AreIn disk tenants classes → IsSafeIn disk o.image.now class → AreIn disk (tenants ++ o ∷ []) (classes ++ class ∷ [])
AreIn-more disk [] [] o class are is = (is, tt)
AreIn-more disk [] (c ∷ classes) o class are is = absurd are
AreIn-more disk (p ∷ tenants) [] o class are is = absurd are
AreIn-more disk (p ∷ tenants) (c ∷ classes) o class are is = (are.0, AreIn-more disk tenants classes o class are.1 is)

-- the class of the next file was added to a table
pub GrewByTenants-more : (disk : Option Disk) (tenants : List TenantClass) (i : ℕ) (d : TenantClass) (old new next : Classes) (class : List ClassMethod)
    → i < length tenants → GrewByTenants disk (take i tenants) old new → IsSafeIn disk (get_or tenants i d).image.now class → next ≡ new ++ class ∷ []
    → GrewByTenants disk (take (i + 1) tenants) old next
GrewByTenants-more disk tenants i d old new next class lt is safe more = record {
  others = is.others ++ class ∷ [];
  added = more ∙ ap (λ (t : Classes). t ++ class ∷ []) is.added ∙ append_assoc old is.others (class ∷ []);
  loaded = subst (λ (os : List TenantClass). AreIn disk os (is.others ++ class ∷ [])) (sym (take_more tenants i d lt)) (AreIn-more disk (take i tenants) is.others (get_or tenants i d) class is.loaded safe);
}

fails_behind : (disk : Option Disk) (tenants : List TenantClass) (i : ℕ) (d : TenantClass) (classes : Classes) (failure : Failure)
    → i < length tenants → AreIn disk (take i tenants) classes → LoadFails disk (get_or tenants i d).image.now failure → TenantsFail disk tenants failure
fails_behind disk [] i d classes failure lt are why = absurd (omega arith)
fails_behind disk (o ∷ tenants) zero d classes failure lt are why = inl why
fails_behind disk (o ∷ tenants) (suc i) d [] failure lt are why = absurd are
fails_behind disk (o ∷ tenants) (suc i) d (c ∷ classes) failure lt are why = inr ((c, are.0), fails_behind disk tenants i d classes failure (omega arith) are.1 why)

-- no class was read of the next file
pub fails_at : (disk : Option Disk) (tenants : List TenantClass) (i : ℕ) (d : TenantClass) (old new : Classes) (failure : Failure)
    → i < length tenants → GrewByTenants disk (take i tenants) old new → LoadFails disk (get_or tenants i d).image.now failure → TenantsFail disk tenants failure
fails_at disk tenants i d old new failure lt is why = fails_behind disk tenants i d is.others failure lt is.loaded why
