-- Values that may be missing, one after another.
use Rattle.std.proofs.Common.{◌≡◌, Option, Some, None, Bool, true, false, refl, subst}
use Rattle.bpf_machine.specs.State.{◌>>=◌, only}
use Rattle.interp.specs.inner.Run.{Gives}

-- what a chain's value came from
pub bind_exists : {A B : Type 0} (o : Option A) (f : A → Option B) (y : B) → o >>= f ≡ Some y → (x : A) × (o ≡ Some x) × (f x ≡ Some y)
bind_exists None f y h = cc
bind_exists (Some x) f y h = (x, refl, h)

pub bind_gives : {A B : Type 0} (o : Option A) (f : A → Option B) (P : B → Type 0) → ((x : A) → o ≡ Some x → Gives (f x) P) → Gives (o >>= f) P
bind_gives None f P h = tt
bind_gives (Some x) f P h = h x refl

-- a chain over what is known of its start
pub gives_then : {A B : Type 0} (o : Option A) (f : A → Option B) (Q : A → Type 0) (P : B → Type 0) → Gives o Q → ((x : A) → Q x → Gives (f x) P) → Gives (o >>= f) P
gives_then None f Q P g h = tt
gives_then (Some x) f Q P g h = h x g

pub only_gives : {A : Type 0} (b : Bool) (o : Option A) (P : A → Type 0) → (b ≡ true → Gives o P) → Gives (only b o) P
only_gives true o P h = h refl
only_gives false o P h = tt

pub only_exists : {A : Type 0} (b : Bool) (o : Option A) (y : A) → only b o ≡ Some y → (b ≡ true) × (o ≡ Some y)
only_exists true o y h = (refl, h)
only_exists false o y h = cc

-- what is given of a value that exists
pub gives_at : {A : Type 0} (o : Option A) (P : A → Type 0) (x : A) → Gives o P → o ≡ Some x → P x
gives_at None P x g h = cc
gives_at (Some y) P x g h =
    let e : y ≡ x = cc in
    subst P e g
