-- What every helper keeps.
use Rattle.std.specs.Prelude.{◌≡◌, ℕ, ◌≤◌, length}
use Rattle.std.specs.List.{AllByRecursion}
use Rattle.object_store.specs.Object.{PlainObject, AreBytes, IsObject}
use Rattle.object_store.specs.Limits.{profile, IsLimits, IsAnyObject}
use Rattle.helpers.specs.Effect.{Given, Effect}
use Rattle.helpers.specs.Table.{effect}

-- an object within the limits, and at most that many bytes to copy as there is room for
pub record IsWithinLimits (room : ℕ) (e : Effect) : Type 0 where
  pub object : IsObject e.object
  pub bytes : AreBytes e.bytes
  pub short : length e.bytes ≤ room

-- By the limits of all objects every helper leaves of an object within them one within them, if each
-- text that it is given is bytes.
abbrev pub EffectsAreWithinLimits : Type 0
EffectsAreWithinLimits =
    (id : ℕ) (object : PlainObject) (g : Given) → g.limits ≡ profile → IsObject object →
    AllByRecursion AreBytes g.texts → IsWithinLimits g.room (effect id object g)

-- a well-formed object, and at most that many bytes to copy as there is room for
pub record KeepsTheForm (room : ℕ) (e : Effect) : Type 0 where
  pub object : IsAnyObject e.object
  pub bytes : AreBytes e.bytes
  pub short : length e.bytes ≤ room

-- By a host's limits every helper leaves of a well-formed object one that is well formed.
abbrev pub EffectsKeepTheForm : Type 0
EffectsKeepTheForm =
    (id : ℕ) (object : PlainObject) (g : Given) → IsLimits g.limits → IsAnyObject object →
    AllByRecursion AreBytes g.texts → KeepsTheForm g.room (effect id object g)
