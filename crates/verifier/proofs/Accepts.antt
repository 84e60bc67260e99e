-- A method that no rule refuses is verified, and so is each of a class.
use Rattle.std.proofs.Common.{◌≡◌, ℕ, zero, suc, ◌+◌, ◌-◌, ◌^◌, ◌<◌, ◌≤◌, List, [], ◌∷◌, ◌++◌, Option, Some, None, refl, ap, ◌∙◌, sym, subst, arith, length, take, length-append}
use Rattle.std.specs.Prelude.{slice_get, replicate}
use Rattle.std.specs.List.{AllByRecursion}
use Rattle.std.proofs.lemmas.List.{length-replicate}
use Rattle.std.proofs.lemmas.Option.{none-some, same_Some}
use Rattle.bpf_decode.specs.declared.insn.Insn.{Insn}
use Rattle.bpf_decode.specs.declared.insn.Insn.TheVariants.{Alu, Neg, Mov, MovSigned, End, LoadWide, Load, LoadSigned, Store, Jump, JumpLong, Branch, Call, CallLocal, Exit}
use Rattle.bpf_decode.specs.Instruction.{slots, slot_count, slot_total}
use Rattle.bpf_decode.specs.Class.{ClassMethod, IsMethod}
use Rattle.bpf_decode.specs.declared.rule_set.RuleSet.{RuleSet}
use Rattle.object_store.specs.Object.{PlainObject, IsObject}
use Rattle.object_store.specs.Limits.{profile, IsLimits, IsAnyObject}
use Rattle.bpf_machine.specs.Typed.{fetch, typed_host_entry}
use Rattle.bpf_machine.specs.State.{AreCapacities}
use Rattle.bpf_machine.specs.Safe.{caps_of, EndsAlways, EndsWithin, EndsAlwaysIsSafe, EndsWithinIsSafe}
use Rattle.verifier.specs.inner.Pass.{IsSpaced, AllSound}
use Rattle.verifier.specs.Verified.{IsVerified}
use Rattle.verifier.specs.Verdict.{method_verdict}
use Rattle.verifier.proofs.Runs.{ends_at_exit, none_named, entry_is_held}
use Rattle.verifier.proofs.Memory.{Laws}

pub length-slots : (is : List Insn) → length (slots is) ≡ slot_total is
length-slots [] = refl
length-slots (i ∷ is) =
    let h = length-slots is in
    let nothing : Option Insn = None in
    let a = length-append (replicate (slot_count i - 1) nothing) (slots is) in
    let b = length-replicate (slot_count i - 1) nothing in
    let c = some_slot i in
    omega arith
  where
    some_slot : (i : Insn) → 1 ≤ slot_count i
    some_slot (Alu bits operation dst source) = omega arith
    some_slot (Neg bits dst) = omega arith
    some_slot (Mov bits dst source) = omega arith
    some_slot (MovSigned extension dst src) = omega arith
    some_slot (End order width dst) = omega arith
    some_slot (LoadWide dst value) = omega arith
    some_slot (Load width dst from offset) = omega arith
    some_slot (LoadSigned width dst from offset) = omega arith
    some_slot (Store width to offset source) = omega arith
    some_slot (Jump offset) = omega arith
    some_slot (JumpLong distance) = omega arith
    some_slot (Branch bits comparison dst source offset) = omega arith
    some_slot (Call helper) = omega arith
    some_slot (CallLocal distance) = omega arith
    some_slot Exit = omega arith

pub first_begins : (is : List Insn) → 1 ≤ slot_total is → (i : Insn) × (fetch (slots is) 0 ≡ Some i)
first_begins [] h = absurd (omega arith)
first_begins (i ∷ is) h = (i, refl)

pub slots_small : (m : ClassMethod) → IsMethod m → length (slots m.instructions) < 2 ^ 32
slots_small m ok = let long = length-slots m.instructions in omega (arith, ok.slots)

-- no instruction begins within another
spaced_past : (n : ℕ) (xs : List (Option Insn)) (p q : ℕ) (i : Insn) → IsSpaced xs → fetch (replicate n None ++ xs) p ≡ Some i → p < q → q < p + slot_count i → fetch (replicate n None ++ xs) q ≡ None
spaced_past zero xs p q i h at lt le = h p q i at lt le
spaced_past (suc n) xs zero q i h at lt le = absurd (none-some i at)
spaced_past (suc n) xs (suc p) zero i h at lt le = absurd (omega arith)
spaced_past (suc n) xs (suc p) (suc q) i h at lt le = spaced_past n xs p q i h at (omega arith) (omega arith)

blank_at : (n : ℕ) (xs : List (Option Insn)) (q : ℕ) → q < n → fetch (replicate n None ++ xs) q ≡ None
blank_at zero xs q h = absurd (omega arith)
blank_at (suc n) xs zero h = refl
blank_at (suc n) xs (suc q) h = blank_at n xs q (omega arith)

pub slots_spaced : (is : List Insn) → IsSpaced (slots is)
slots_spaced [] p q i at lt le = absurd (none-some i at)
slots_spaced (j ∷ is) zero zero i at lt le = absurd (omega arith)
slots_spaced (j ∷ is) zero (suc q) i at lt le =
    let same = ap slot_count (same_Some j i at) in
    blank_at (slot_count j - 1) (slots is) q (omega (arith, same))
slots_spaced (j ∷ is) (suc p) zero i at lt le = absurd (omega arith)
slots_spaced (j ∷ is) (suc p) (suc q) i at lt le = spaced_past (slot_count j - 1) (slots is) p q i (slots_spaced is) at (omega arith) (omega arith)

ends_within : Laws → (rules : RuleSet) (m : ClassMethod) → IsMethod m → AllSound rules (caps_of m) (slots m.instructions) → method_verdict rules m ≡ None → EndsWithin m
ends_within laws rules m ok sound clear limits object caller input call =
    let sizes : AreCapacities (caps_of m) = record { input = ok.in_cap; output = ok.out_cap } in
    let first = first_begins m.instructions ok.some_slot in
    let s = typed_host_entry limits (caps_of m) object caller input in
    ends_at_exit laws (caps_of m) rules m.instructions sound ok.fit (none_named laws rules (caps_of m) sizes) (omega (arith, slots_small m ok)) clear object s first.0 refl first.1
    (entry_is_held laws rules (caps_of m) sizes limits call.allowed object caller input call.formed call.client call.short call.bytes)

-- the limits of all objects are such limits
pub profile_allowed : IsLimits profile
profile_allowed = record { bytes = omega arith; xattr_names = omega arith; key_names = omega arith }

-- every object is well formed
abbrev pub ObjectsAreFormed : Type 0
ObjectsAreFormed = (object : PlainObject) → IsObject object → IsAnyObject object

pub accept : EndsAlwaysIsSafe → EndsWithinIsSafe → ObjectsAreFormed → Laws → (rules : RuleSet) (m : ClassMethod) → IsMethod m → AllSound rules (caps_of m) (slots m.instructions) → method_verdict rules m ≡ None → IsVerified m
accept law law_within formed laws rules m ok sound clear =
    let within = ends_within laws rules m ok sound clear in
    let ends : EndsAlways m = λ object caller input call. within profile object caller input (record { allowed = profile_allowed; formed = formed object call.within_limits; client = call.client; short = call.short; bytes = call.bytes }) in
    record { method = ok; ends = ends; safe = law m ok.fit ends; ends_within = within; safe_within = law_within m ok.fit within }

-- a fact of all elements, of one
pub all_at : {A : Type 0} (P : A → Type 0) (xs : List A) (n : ℕ) (x : A) → slice_get xs n ≡ Some x → AllByRecursion P xs → P x
all_at P [] n x e h = absurd (none-some x e)
all_at P (y ∷ xs) zero x e h = subst P (same_Some y x e) h.0
all_at P (y ∷ xs) (suc n) x e h = all_at P xs n x e h.1

-- a fact of the first elements and of the next
pub all_more : {A : Type 0} (P : A → Type 0) (xs : List A) (n : ℕ) (x : A) → slice_get xs n ≡ Some x → AllByRecursion P (take n xs) → P x → AllByRecursion P (take (n + 1) xs)
all_more P [] n x e h p = absurd (none-some x e)
all_more P (y ∷ xs) zero x e h p = (subst P (sym (same_Some y x e)) p, tt)
all_more P (y ∷ xs) (suc n) x e h p =
    let more : suc (n + 1) ≡ suc n + 1 = omega arith in
    subst (λ k. AllByRecursion P (take k (y ∷ xs))) more (h.0, all_more P xs n x e h.1 p)

pub take_next : {A : Type 0} (xs : List A) (n : ℕ) (x : A) → slice_get xs n ≡ Some x → take (n + 1) xs ≡ take n xs ++ x ∷ []
take_next [] n x e = absurd (none-some x e)
take_next (y ∷ xs) zero x e = ap (λ z. z ∷ []) (same_Some y x e)
take_next (y ∷ xs) (suc n) x e =
    let more : suc n + 1 ≡ suc (n + 1) = omega arith in
    ap (λ k. take k (y ∷ xs)) more ∙ ap (λ zs. y ∷ zs) (take_next xs n x e)
