-- Where a partial result comes out, another comes out too, as its image.
use Rattle.std.proofs.Common.{◌≡◌, ℕ, zero, suc, List, [], ◌∷◌, Option, Some, None, Bool, true, false, cond, refl, ap, ◌∙◌, subst}
use Rattle.std.specs.Prelude.{map, slice_get}
use Rattle.std.specs.Option.{option_map}
use Rattle.std.proofs.lemmas.Option.{none-some, same_Some}
use Rattle.bpf_machine.specs.State.{◌>>=◌}

pub record Sim {A B : Type 0} (P : A → Type 0) (h : A → B) (a : Option A) (b : Option B) : Type 0 where
  pub by : (x : A) → a ≡ Some x → P x × (b ≡ Some (h x))

-- nothing is asked, and the image of a thing is itself
abbrev pub Any : {A : Type 0} → A → Type 0
Any x = Unit {0}

abbrev pub same : {A : Type 0} → A → A
same x = x

module _ {A B : Type 0} (P : A → Type 0) (h : A → B) where
  pub sim_none : (b : Option B) → Sim P h None b
  sim_none b = record { by = λ x e. absurd (none-some x e) }

  pub sim_some : (x : A) (y : B) → P x → y ≡ h x → Sim P h (Some x) (Some y)
  sim_some x y p e = record {
    by = λ z q.
        let same = same_Some x z q in (subst P same p, ap Some (e ∙ ap h same));
  }

  pub sim_if : (t : Bool) (a : Option A) (b : Option B) → (t ≡ true → Sim P h a b) → Sim P h (cond t a None) (cond t b None)
  sim_if true a b s = s refl
  sim_if false a b s = sim_none None

  pub sim_guard : (t : Bool) (a : Option A) (b : Option B) → (t ≡ true → Sim P h a b) → Sim P h (cond t a None) b
  sim_guard true a b s = s refl
  sim_guard false a b s = sim_none b

  pub sim_eq : (a : Option A) (b c : Option B) → b ≡ c → Sim P h a c → Sim P h a b
  sim_eq a b c e s = record { by = λ x q. let r = s.by x q in (r.0, e ∙ r.1) }

  pub sim_bind : {C D : Type 0} (Q : C → Type 0) (k : C → D) (a : Option A) (b : Option B) (f : A → Option C) (g : B → Option D) → Sim P h a b → ((x : A) → a ≡ Some x → P x → Sim Q k (f x) (g (h x))) → Sim Q k (a >>= f) (b >>= g)
  sim_bind Q k None b f g s t = record { by = λ x e. absurd (none-some x e) }
  sim_bind Q k (Some y) b f g s t = record {
    by = λ x e.
        let r = s.by y refl in
        let u = (t y refl r.0).by x e in
        (u.0, ap (λ o. o >>= g) r.1 ∙ u.1);
  }

pub sim_drop : {A C D : Type 0} (Q : C → Type 0) (k : C → D) (a : Option A) (f : A → Option C) (b : Option D) → ((x : A) → a ≡ Some x → Sim Q k (f x) b) → Sim Q k (a >>= f) b
sim_drop Q k None f b t = record { by = λ x e. absurd (none-some x e) }
sim_drop Q k (Some y) f b t = t y refl

pub sim_same : {A : Type 0} (a : Option A) → Sim Any same a a
sim_same a = record { by = λ x e. (tt, e) }

-- a register, in a list of registers
pub reg_sim : {A B : Type 0} (h : A → B) (xs : List (Option A)) (r : ℕ) → Sim Any h (slice_get xs r >>= λ c. c) (slice_get (map (option_map h) xs) r >>= λ c. c)
reg_sim h [] r = sim_none _ h None
reg_sim h (None ∷ xs) zero = sim_none _ h None
reg_sim h (Some y ∷ xs) zero = sim_some (λ _. Unit {0}) h y (h y) tt refl
reg_sim h (c ∷ xs) (suc r) = reg_sim h xs r
