-- A jump is resolved exactly where the relations hold.
use Rattle.std.proofs.Common.{◌≡◌, ℕ, ℤ, pos, negsuc, ◌+◌, ◌-ℤ◌, ◌&&◌, int_le, Bool, true, false, List, cond, Option, Some, None, Ok, Err, refl, sym, ap, ◌∙◌, subst, arith, FitsSigned}
use Rattle.std.specs.Int.{w16, w32}
use Rattle.std.proofs.lemmas.Bool.Decides.{nat_tests}
use Rattle.bpf_decode.specs.declared.insn.Insn.{Insn}
use Rattle.bpf_decode.specs.declared.insn.Insn.TheVariants as insns
use Rattle.asm_lines.specs.declared.fault.AsmFault.TheVariants as faults
use Rattle.asm_lines.specs.declared.target.Target.{Target}
use Rattle.asm_lines.specs.declared.target.Target.TheVariants as targets
use Rattle.asm_lines.specs.declared.draft.Draft.{Draft}
use Rattle.asm_lines.specs.declared.draft.Draft.TheVariants as drafts
use Rattle.asm_lines.specs.declared.statement.Statement.{Statement}
use Rattle.asm_lines.specs.Operands.{filled}
use Rattle.bpf_asm.specs.Bodies.{slot_of_label, distance_within, distance_to, resolved, finished}
use Rattle.bpf_asm.specs.Grammar.{Reaches, GoesBy, SaysInsn}
use Rattle.bpf_asm.proofs.PlainBytes.{and_left, and_right}
use Rattle.bpf_asm.proofs.BodyTexts.{near_within, far_within}
use Rattle.bpf_asm.proofs.NumberRelations.{filled_is}

pub record IsWithin (low high z w : ℤ) : Type 0 where
  pub same : z ≡ w
  pub above : int_le low z ≡ true
  pub below : int_le z high ≡ true

within_at : (low high z w : ℤ) (b : Bool) → b ≡ (int_le low z && int_le z high) → cond b (Ok z) (Err faults.Range) ≡ Ok w → IsWithin low high z w
within_at low high z w true e h = record { same = cc; above = and_left (int_le low z) (int_le z high) (sym e); below = and_right (int_le low z) (int_le z high) (sym e) }
within_at low high z w false e h = absurd cc

pub within : (low high z w : ℤ) → distance_within low high z ≡ Ok w → IsWithin low high z w
within low high z w h = within_at low high z w (int_le low z && int_le z high) refl h

pub near_fits : (z : ℤ) → int_le (negsuc 32767) z ≡ true → int_le z (pos 32767) ≡ true → FitsSigned w16 z
near_fits (pos n) a b = grind (arith, nat_tests)
near_fits (negsuc n) a b = grind (arith, nat_tests)

pub far_fits : (z : ℤ) → int_le (negsuc 2147483647) z ≡ true → int_le z (pos 2147483647) ≡ true → FitsSigned w32 z
far_fits (pos n) a b = grind (arith, nat_tests)
far_fits (negsuc n) a b = grind (arith, nat_tests)

pub within_near : (z : ℤ) → FitsSigned w16 z → distance_within (negsuc 32767) (pos 32767) z ≡ Ok z
within_near z h = rw (near_within z h) refl

pub within_far : (z : ℤ) → FitsSigned w32 z → distance_within (negsuc 2147483647) (pos 2147483647) z ≡ Ok z
within_far z h = rw (far_within z h) refl

record IsReached (all : List Statement) (slot : ℕ) (target : Target) (low high z : ℤ) : Type 0 where
  reaches : Reaches all slot target z
  above : int_le low z ≡ true
  below : int_le z high ≡ true

label_reached : (all : List Statement) (slot : ℕ) (name : List ℕ) (low high z : ℤ) (o : Option ℕ) → o ≡ slot_of_label name 0 all → distance_to low high slot o ≡ Ok z → IsReached all slot (targets.Label name) low high z
label_reached all slot name low high z None e h = absurd cc
label_reached all slot name low high z (Some at) e h =
    let distance = pos at -ℤ pos (slot + 1) in
    let w = within low high distance z h in
    let reached : IsReached all slot (targets.Label name) low high distance = record { reaches = record { at = at; stands = sym e; is_distance = refl }; above = w.above; below = w.below } in
    subst (λ (d : ℤ). IsReached all slot (targets.Label name) low high d) w.same reached

reached : (all : List Statement) (slot : ℕ) (target : Target) (low high z : ℤ) → resolved low high all slot target ≡ Ok z → IsReached all slot target low high z
reached all slot (targets.Slots d) low high z h =
    let w = within low high d z h in
    let at : IsReached all slot (targets.Slots d) low high d = record { reaches = refl; above = w.above; below = w.below } in
    subst (λ (v : ℤ). IsReached all slot (targets.Slots d) low high v) w.same at
reached all slot (targets.Label name) low high z h = label_reached all slot name low high z (slot_of_label name 0 all) refl h

goes : (all : List Statement) (slot : ℕ) (target : Target) (low high : ℤ) (Fits : ℤ → Type 0) → ((z : ℤ) → int_le low z ≡ true → int_le z high ≡ true → Fits z) → (make : ℤ → Insn) (i : Insn) → filled make (resolved low high all slot target) ≡ Ok i → GoesBy all slot target Fits make i
goes all slot target low high Fits f make i h =
    let p = filled_is make (resolved low high all slot target) i h in
    let r = reached all slot target low high p.from p.read in
    record { distance = p.from; is_insn = p.is; reaches = r.reaches; fits = f p.from r.above r.below }

resolves : (all : List Statement) (slot : ℕ) (target : Target) (low high z : ℤ) → Reaches all slot target z → distance_within low high z ≡ Ok z → resolved low high all slot target ≡ Ok z
resolves all slot (targets.Slots d) low high z r w = ap (distance_within low high) r ∙ w
resolves all slot (targets.Label name) low high z r w = rw r.stands (ap (distance_within low high) (sym r.is_distance) ∙ w)

went : (all : List Statement) (slot : ℕ) (target : Target) (low high : ℤ) (Fits : ℤ → Type 0) → ((z : ℤ) → Fits z → distance_within low high z ≡ Ok z) → (make : ℤ → Insn) (i : Insn) → GoesBy all slot target Fits make i → filled make (resolved low high all slot target) ≡ Ok i
went all slot target low high Fits f make i g = ap (filled make) (resolves all slot target low high g.distance g.reaches (f g.distance g.fits)) ∙ ap (λ v. Ok v) g.is_insn

-- what a line is resolved to, it says
pub says_insn : (all : List Statement) (slot : ℕ) (d : Draft) (i : Insn) → finished all slot d ≡ Ok i → SaysInsn all slot (Ok d) i
says_insn all slot (drafts.Plain insn) i h = cc
says_insn all slot (drafts.Jump t) i h = goes all slot t (negsuc 32767) (pos 32767) (FitsSigned w16) near_fits insns.Jump i h
says_insn all slot (drafts.JumpLong t) i h = goes all slot t (negsuc 2147483647) (pos 2147483647) (FitsSigned w32) far_fits insns.JumpLong i h
says_insn all slot (drafts.Branch b c x s t) i h = goes all slot t (negsuc 32767) (pos 32767) (FitsSigned w16) near_fits (insns.Branch b c x s) i h
says_insn all slot (drafts.CallLocal t) i h = goes all slot t (negsuc 2147483647) (pos 2147483647) (FitsSigned w32) far_fits insns.CallLocal i h

-- and what it says it is resolved to
pub insn_said : (all : List Statement) (slot : ℕ) (d : Draft) (i : Insn) → SaysInsn all slot (Ok d) i → finished all slot d ≡ Ok i
insn_said all slot (drafts.Plain insn) i h = ap (λ v. Ok v) h
insn_said all slot (drafts.Jump t) i h = went all slot t (negsuc 32767) (pos 32767) (FitsSigned w16) within_near insns.Jump i h
insn_said all slot (drafts.JumpLong t) i h = went all slot t (negsuc 2147483647) (pos 2147483647) (FitsSigned w32) within_far insns.JumpLong i h
insn_said all slot (drafts.Branch b c x s t) i h = went all slot t (negsuc 32767) (pos 32767) (FitsSigned w16) within_near (insns.Branch b c x s) i h
insn_said all slot (drafts.CallLocal t) i h = went all slot t (negsuc 2147483647) (pos 2147483647) (FitsSigned w32) within_far insns.CallLocal i h
