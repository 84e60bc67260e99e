-- A cluster that a first line makes has numbers within their limits.
use Rattle.std.proofs.Common.{◌≡◌, Bool, true, false, Some, None, IsTrue, if◌then◌else◌, nat_le, ◌-◌, ◌^◌, refl, subst}
use Rattle.std.proofs.lemmas.Option.{none-some, same_Some}
use Rattle.osd.specs.Limits.{is_within_limits}
use Rattle.osd.specs.declared.config.Config.{Config}
use Rattle.cluster_file.specs.declared.cluster_numbers.ClusterNumbers.{ClusterNumbers}
use Rattle.cluster_tool.specs.Config.{config_of, same_numbers}

inner : (b : Bool) (x c : Config) → is_within_limits x ≡ b → (if b then Some x else None) ≡ Some c → IsTrue (is_within_limits c)
inner true x c is e = subst (λ (y : Config). is_within_limits y ≡ true) (same_Some x c e) is
inner false x c is e = absurd (none-some c e)

outer : (a : Bool) (x c : Config) → (if a then (if is_within_limits x then Some x else None) else None) ≡ Some c → IsTrue (is_within_limits c)
outer true x c e = inner (is_within_limits x) x c refl e
outer false x c e = absurd (none-some c e)

pub within_limits : (n : ClusterNumbers) (c : Config) → config_of n ≡ Some c → IsTrue (is_within_limits c)
within_limits n c e = outer (nat_le n.tries (2 ^ 32 - 1)) (same_numbers n) c e
