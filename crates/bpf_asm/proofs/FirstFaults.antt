-- What a method's text is refused for is its first fault, and a text that is read has none.
use Rattle.std.proofs.Common.{◌≡◌, ◌⊎◌, inl, inr, IfOk, IfErr, ℕ, ℤ, pos, negsuc, ◌+◌, ◌-ℤ◌, ◌&&◌, ◌<◌, ◌≤◌, int_le, Bool, true, false, List, [], ◌∷◌, ◌++◌, cond, Option, Some, None, is_some, Result, Ok, Err, refl, sym, ap, ◌∙◌, subst, arith, FitsSigned}
use Rattle.std.specs.Prelude.{nat_le, IsSome}
use Rattle.std.specs.Int.{w16, w32}
use Rattle.std.proofs.lemmas.Bool.Decides.{nat_tests}
use Rattle.bpf_decode.specs.declared.insn.Insn.{Insn}
use Rattle.bpf_decode.specs.declared.insn.Insn.TheVariants as insns
use Rattle.bpf_decode.specs.Instruction.{slot_count}
use Rattle.asm_lines.specs.declared.fault.AsmFault.{AsmFault}
use Rattle.asm_lines.specs.declared.fault.AsmFault.TheVariants as faults
use Rattle.asm_lines.specs.declared.fault.AsmError.{AsmError}
use Rattle.asm_lines.specs.declared.target.Target.{Target}
use Rattle.asm_lines.specs.declared.target.Target.TheVariants as targets
use Rattle.asm_lines.specs.declared.draft.Draft.{Draft}
use Rattle.asm_lines.specs.declared.draft.Draft.TheVariants as drafts
use Rattle.asm_lines.specs.declared.statement.Statement.{Statement}
use Rattle.asm_lines.specs.declared.statement.Statement.TheVariants.{Empty, Label, Rules, Directive, Instruction}
use Rattle.asm_lines.specs.Operands.{filled}
use Rattle.asm_lines.specs.Statements.{statements_of}
use Rattle.bpf_asm.specs.Bodies.{draft_slots, slot_of_label, distance_within, distance_to, resolved, finished, proceed, body_from, body, bare_fault, has_instruction, read_text}
use Rattle.asm_lines.specs.Fault.{fault_number, no_memory}
use Rattle.bpf_asm.specs.Faults.{LabelFault, TargetFault, DraftFault, LineFault, slot_behind, LinesHaveFault, HasFault, IsFirstFault, RefusesText, IsFaultless}
use Rattle.bpf_asm.proofs.StatementRelations.{text_says}
use Rattle.bpf_asm.proofs.BodyTexts.{some_instruction}
use Rattle.bpf_asm.proofs.GrammarLemmas.{slots_of}
use Rattle.bpf_asm.proofs.JumpRelations.{near_fits, far_fits, within_near, within_far, within}
use Rattle.bpf_decode.specs.declared.limits.TheConstants.{SLOT_LIMIT}

-- ---- targets

no_range : (low high z : ℤ) (f : AsmFault) (b : Bool) → b ≡ (int_le low z && int_le z high) → cond b (Ok z) (Err faults.Range) ≡ Err f → f ≡ faults.Range
no_range low high z f true e h = absurd cc
no_range low high z f false e h = cc

-- the one fault of a target that isn't resolved
record IsTheFault (Has : AsmFault → Type 0) (f : AsmFault) : Type 0 where
  has : Has f
  only : (g : AsmFault) → Has g → g ≡ f
  late : 3 ≤ fault_number f

-- a distance is refused exactly where it doesn't fit
record Decides (low high : ℤ) (Fits : ℤ → Type 0) : Type 0 where
  fits : (z : ℤ) → int_le low z ≡ true → int_le z high ≡ true → Fits z
  within : (z : ℤ) → Fits z → distance_within low high z ≡ Ok z

distance_fault : (low high : ℤ) (Fits : ℤ → Type 0) → Decides low high Fits → (z : ℤ) (f : AsmFault) → distance_within low high z ≡ Err f → IsTheFault (λ g. (¬ Fits z) × (g ≡ faults.Range)) f
distance_fault low high Fits d z f h =
    let range = no_range low high z f (int_le low z && int_le z high) refl h in
    record {
      has = ((λ fit. let w = d.within z fit in absurd cc), range);
      only = λ g k. k.1 ∙ sym range;
      late = rw range (omega arith);
    }

distance_fits : (low high : ℤ) (Fits : ℤ → Type 0) → Decides low high Fits → (z w : ℤ) → distance_within low high z ≡ Ok w → Fits z
distance_fits low high Fits d z w h = let i = within low high z w h in d.fits z i.above i.below

label_fault : (low high : ℤ) (Fits : ℤ → Type 0) → Decides low high Fits → (slot : ℕ) (o : Option ℕ) (f : AsmFault) → distance_to low high slot o ≡ Err f → IsTheFault (λ g. LabelFault Fits slot o g) f
label_fault low high Fits d slot None f h =
    let label : f ≡ faults.Label = cc in
    record { has = label; only = λ g k. k ∙ sym label; late = rw label (omega arith) }
label_fault low high Fits d slot (Some at) f h = distance_fault low high Fits d (pos at -ℤ pos (slot + 1)) f h

target_fault : (low high : ℤ) (Fits : ℤ → Type 0) → Decides low high Fits → (all : List Statement) (slot : ℕ) (t : Target) (f : AsmFault) → resolved low high all slot t ≡ Err f → IsTheFault (λ g. TargetFault Fits all slot t g) f
target_fault low high Fits d all slot (targets.Slots z) f h = distance_fault low high Fits d z f h
target_fault low high Fits d all slot (targets.Label name) f h = label_fault low high Fits d slot (slot_of_label name 0 all) f h

label_fine : (low high : ℤ) (Fits : ℤ → Type 0) → Decides low high Fits → (slot : ℕ) (o : Option ℕ) (z : ℤ) → distance_to low high slot o ≡ Ok z → (g : AsmFault) → LabelFault Fits slot o g → ⊥
label_fine low high Fits d slot None z h g k = absurd cc
label_fine low high Fits d slot (Some at) z h g k = k.0 (distance_fits low high Fits d (pos at -ℤ pos (slot + 1)) z h)

target_fine : (low high : ℤ) (Fits : ℤ → Type 0) → Decides low high Fits → (all : List Statement) (slot : ℕ) (t : Target) (z : ℤ) → resolved low high all slot t ≡ Ok z → (g : AsmFault) → TargetFault Fits all slot t g → ⊥
target_fine low high Fits d all slot (targets.Slots w) z h g k = k.0 (distance_fits low high Fits d w z h)
target_fine low high Fits d all slot (targets.Label name) z h g k = label_fine low high Fits d slot (slot_of_label name 0 all) z h g k

near_decides : Decides (negsuc 32767) (pos 32767) (FitsSigned w16)
near_decides = record { fits = near_fits; within = within_near }

far_decides : Decides (negsuc 2147483647) (pos 2147483647) (FitsSigned w32)
far_decides = record { fits = far_fits; within = within_far }

-- ---- instructions

filled_fault : (make : ℤ → Insn) (r : Result ℤ AsmFault) (f : AsmFault) → filled make r ≡ Err f → r ≡ Err f
filled_fault make (Ok z) f h = absurd cc
filled_fault make (Err g) f h = cc

filled_fine : (make : ℤ → Insn) (r : Result ℤ AsmFault) (i : Insn) → filled make r ≡ Ok i → (z : ℤ) × (r ≡ Ok z)
filled_fine make (Ok z) i h = (z, refl)
filled_fine make (Err g) i h = absurd cc

draft_fault : (all : List Statement) (slot : ℕ) (d : Draft) (f : AsmFault) → finished all slot d ≡ Err f → IsTheFault (λ g. DraftFault all slot d g) f
draft_fault all slot (drafts.Plain insn) f h = absurd cc
draft_fault all slot (drafts.Jump t) f h = target_fault _ _ (FitsSigned w16) near_decides all slot t f (filled_fault insns.Jump _ f h)
draft_fault all slot (drafts.JumpLong t) f h = target_fault _ _ (FitsSigned w32) far_decides all slot t f (filled_fault insns.JumpLong _ f h)
draft_fault all slot (drafts.Branch b c x s t) f h = target_fault _ _ (FitsSigned w16) near_decides all slot t f (filled_fault (insns.Branch b c x s) _ f h)
draft_fault all slot (drafts.CallLocal t) f h = target_fault _ _ (FitsSigned w32) far_decides all slot t f (filled_fault insns.CallLocal _ f h)

draft_fine : (all : List Statement) (slot : ℕ) (d : Draft) (i : Insn) → finished all slot d ≡ Ok i → (g : AsmFault) → DraftFault all slot d g → ⊥
draft_fine all slot (drafts.Plain insn) i h g k = k
draft_fine all slot (drafts.Jump t) i h g k = let z = filled_fine insns.Jump _ i h in target_fine _ _ (FitsSigned w16) near_decides all slot t z.0 z.1 g k
draft_fine all slot (drafts.JumpLong t) i h g k = let z = filled_fine insns.JumpLong _ i h in target_fine _ _ (FitsSigned w32) far_decides all slot t z.0 z.1 g k
draft_fine all slot (drafts.Branch b c x s t) i h g k = let z = filled_fine (insns.Branch b c x s) _ i h in target_fine _ _ (FitsSigned w16) near_decides all slot t z.0 z.1 g k
draft_fine all slot (drafts.CallLocal t) i h g k = let z = filled_fine insns.CallLocal _ i h in target_fine _ _ (FitsSigned w32) far_decides all slot t z.0 z.1 g k

late_label : (Fits : ℤ → Type 0) (slot : ℕ) (o : Option ℕ) (g : AsmFault) → LabelFault Fits slot o g → 3 ≤ fault_number g
late_label Fits slot None g k = rw k (omega arith)
late_label Fits slot (Some at) g k = rw k.1 (omega arith)

late_target : (Fits : ℤ → Type 0) (all : List Statement) (slot : ℕ) (t : Target) (g : AsmFault) → TargetFault Fits all slot t g → 3 ≤ fault_number g
late_target Fits all slot (targets.Slots z) g k = rw k.1 (omega arith)
late_target Fits all slot (targets.Label name) g k = late_label Fits slot (slot_of_label name 0 all) g k

late_draft : (all : List Statement) (slot : ℕ) (d : Draft) (g : AsmFault) → DraftFault all slot d g → 3 ≤ fault_number g
late_draft all slot (drafts.Plain insn) g k = absurd k
late_draft all slot (drafts.Jump t) g k = late_target (FitsSigned w16) all slot t g k
late_draft all slot (drafts.JumpLong t) g k = late_target (FitsSigned w32) all slot t g k
late_draft all slot (drafts.Branch b c x s t) g k = late_target (FitsSigned w16) all slot t g k
late_draft all slot (drafts.CallLocal t) g k = late_target (FitsSigned w32) all slot t g k

-- ---- lines in order

-- what is answered about lines is right: they have no fault, or this is the first
abbrev pub Judged : {A : Type 0} → (ℕ → AsmFault → Type 0) → Result A AsmError → Type 0
Judged Has (Ok a) = (n : ℕ) (g : AsmFault) → ¬ Has n g
Judged Has (Err e) = IsFirstFault Has e.line e.fault

pub numbers_rise : (all above : List Statement) (line slot : ℕ) (ss : List Statement) (n : ℕ) (g : AsmFault) → LinesHaveFault all above line slot ss n g → line ≤ n
numbers_rise all above line slot [] n g h = absurd h
numbers_rise all above line slot (s ∷ ss) n g (inl h) = let same = h.0 in omega arith
numbers_rise all above line slot (s ∷ ss) n g (inr h) = let more = numbers_rise all (above ++ (s ∷ [])) (line + 1) (slot_behind slot s) ss n g h in omega arith

stops : (all above : List Statement) (line slot : ℕ) (s : Statement) (ss : List Statement) (f : AsmFault) → LineFault all above slot s f → ((g : AsmFault) → LineFault all above slot s g → fault_number f ≤ fault_number g) → IsFirstFault (LinesHaveFault all above line slot (s ∷ ss)) line f
stops all above line slot s ss f has least = record { has = inl (refl, has); least = among }
  where
    among : (n : ℕ) (g : AsmFault) → LinesHaveFault all above line slot (s ∷ ss) n g → (line < n) ⊎ ((line ≡ n) × (fault_number f ≤ fault_number g))
    among n g (inl h) = inr (sym h.0, least g h.1)
    among n g (inr h) = let more = numbers_rise all (above ++ (s ∷ [])) (line + 1) (slot_behind slot s) ss n g h in inl (omega arith)

goes_on : {A : Type 0} (all above : List Statement) (line slot : ℕ) (s : Statement) (ss : List Statement) (r : Result A AsmError) → ((g : AsmFault) → LineFault all above slot s g → ⊥) → Judged (LinesHaveFault all (above ++ (s ∷ [])) (line + 1) (slot_behind slot s) ss) r → Judged (LinesHaveFault all above line slot (s ∷ ss)) r
goes_on {A} all above line slot s ss (Ok a) fine j = among
  where
    among : (n : ℕ) (g : AsmFault) → LinesHaveFault all above line slot (s ∷ ss) n g → ⊥
    among n g (inl h) = fine g h.1
    among n g (inr h) = j n g h
goes_on {A} all above line slot s ss (Err e) fine j = record { has = inr j.has; least = among }
  where
    among : (n : ℕ) (g : AsmFault) → LinesHaveFault all above line slot (s ∷ ss) n g → (e.line < n) ⊎ ((e.line ≡ n) × (fault_number e.fault ≤ fault_number g))
    among n g (inl h) = absurd (fine g h.1)
    among n g (inr h) = j.least n g h

at_label : (all above : List Statement) (line slot : ℕ) (name : List ℕ) (ss : List Statement) (o : Option ℕ) → o ≡ slot_of_label name 0 above → (x : Result (List Insn) AsmError) (y : Insn → Result (List Insn) AsmError) → Judged (LinesHaveFault all (above ++ (Label name ∷ [])) (line + 1) slot ss) x → Judged (LinesHaveFault all above line slot (Label name ∷ ss)) (proceed line (cond (is_some o) (Err faults.Label) (Ok None)) x y)
at_label all above line slot name ss None e x y j = goes_on all above line slot (Label name) ss x (λ g h. let stands : IsSome {T = ℕ} None = subst (λ (v : Option ℕ). IsSome v) (sym e) h.0 in absurd cc) j
at_label all above line slot name ss (Some at) e x y j =
    stops all above line slot (Label name) ss faults.Label (subst (λ (v : Option ℕ). IsSome v) e refl, refl) (λ g h. rw h.1 (omega arith))

-- an instruction of the right form
at_draft : (all above : List Statement) (line slot : ℕ) (d : Draft) (ss : List Statement) (b : Bool) → b ≡ nat_le (slot + draft_slots (Ok d)) SLOT_LIMIT → (r : Result Insn AsmFault) → r ≡ finished all slot d → (x : Result (List Insn) AsmError) (y : Insn → Result (List Insn) AsmError) → ((i : Insn) → r ≡ Ok i → Judged (LinesHaveFault all (above ++ (Instruction (Ok d) ∷ [])) (line + 1) (slot + draft_slots (Ok d)) ss) (y i)) → Judged (LinesHaveFault all above line slot (Instruction (Ok d) ∷ ss)) (proceed line (cond b (filled Some r) (Err faults.Range)) x y)
at_draft all above line slot d ss false e r q x y j = stops all above line slot (Instruction (Ok d)) ss faults.Range (inl (grind (arith, nat_tests), refl)) late
  where
    late : (g : AsmFault) → LineFault all above slot (Instruction (Ok d)) g → fault_number faults.Range ≤ fault_number g
    late g (inl h) = rw h.1 (omega arith)
    late g (inr h) = late_draft all slot d g h
at_draft all above line slot d ss true e (Err f) q x y j = stops all above line slot (Instruction (Ok d)) ss f (inr the.has) least
  where
    the : IsTheFault (λ g. DraftFault all slot d g) f
    the = draft_fault all slot d f (sym q)

    least : (g : AsmFault) → LineFault all above slot (Instruction (Ok d)) g → fault_number f ≤ fault_number g
    least g (inl h) = let past = h.0 in let room : slot + draft_slots (Ok d) ≤ SLOT_LIMIT = grind (arith, nat_tests) in absurd (omega arith)
    least g (inr h) = rw (the.only g h) (omega arith)
at_draft all above line slot d ss true e (Ok i) q x y j = goes_on all above line slot (Instruction (Ok d)) ss (y i) none (j i refl)
  where
    none : (g : AsmFault) → LineFault all above slot (Instruction (Ok d)) g → ⊥
    none g (inl h) = let past = h.0 in let room : slot + draft_slots (Ok d) ≤ SLOT_LIMIT = grind (arith, nat_tests) in absurd (omega arith)
    none g (inr h) = draft_fine all slot d i (sym q) g h

pub judged : (all above : List Statement) (line slot : ℕ) (done : List Insn) (ss : List Statement) → Judged (LinesHaveFault all above line slot ss) (body_from all above line slot done ss)
unfolding body_from
judged all above line slot done [] = λ n g h. h
judged all above line slot done (Empty ∷ ss) = goes_on all above line slot Empty ss _ (λ g h. h) (judged all (above ++ (Empty ∷ [])) (line + 1) slot done ss)
judged all above line slot done (Label name ∷ ss) =
    at_label all above line slot name ss (slot_of_label name 0 above) refl _ (λ i. body_from all (above ++ (Label name ∷ [])) (line + 1) (slot + slot_count i) (done ++ (i ∷ [])) ss) (judged all (above ++ (Label name ∷ [])) (line + 1) slot done ss)
judged all above line slot done (Rules h ∷ ss) = stops all above line slot (Rules h) ss faults.Word refl (λ g k. rw k (omega arith))
judged all above line slot done (Directive h ∷ ss) = stops all above line slot (Directive h) ss faults.Word refl (λ g k. rw k (omega arith))
judged all above line slot done (Instruction (Err f) ∷ ss) = stops all above line slot (Instruction (Err f)) ss f refl (λ g k. rw k (omega arith))
judged all above line slot done (Instruction (Ok d) ∷ ss) =
    at_draft all above line slot d ss (nat_le (slot + draft_slots (Ok d)) SLOT_LIMIT) refl (finished all slot d) refl _
    (λ i. body_from all (above ++ (Instruction (Ok d) ∷ [])) (line + 1) (slot + slot_count i) (done ++ (i ∷ [])) ss)
    (λ i e. subst (λ (v : ℕ). Judged (LinesHaveFault all (above ++ (Instruction (Ok d) ∷ [])) (line + 1) v ss) (body_from all (above ++ (Instruction (Ok d) ∷ [])) (line + 1) (slot + slot_count i) (done ++ (i ∷ [])) ss))
    (ap (λ k. slot + k) (sym (slots_of all slot d i e)))
    (judged all (above ++ (Instruction (Ok d) ∷ [])) (line + 1) (slot + slot_count i) (done ++ (i ∷ [])) ss))

-- ---- texts

add_bare : {A : Type 0} (ss : List Statement) (r : Result A AsmError) → has_instruction ss ≡ true → Judged (LinesHaveFault ss [] 1 0 ss) r → Judged (HasFault ss) r
add_bare {A} ss (Ok a) some j = among
  where
    among : (n : ℕ) (g : AsmFault) → HasFault ss n g → ⊥
    among n g (inl h) = let none = h.1 in absurd cc
    among n g (inr h) = j n g h
add_bare {A} ss (Err e) some j = record { has = inr j.has; least = among }
  where
    among : (n : ℕ) (g : AsmFault) → HasFault ss n g → (e.line < n) ⊎ ((e.line ≡ n) × (fault_number e.fault ≤ fault_number g))
    among n g (inl h) = let none = h.1 in absurd cc
    among n g (inr h) = j.least n g h

-- a bare text: what its first line's faults are at least
bare_least : (ss : List Statement) → has_instruction ss ≡ false → (n : ℕ) (g : AsmFault) → LinesHaveFault ss [] 1 0 ss n g → (1 < n) ⊎ ((1 ≡ n) × (fault_number (bare_fault ss) ≤ fault_number g))
bare_least [] none n g h = absurd h
bare_least (Empty ∷ ss) none n g (inl h) = absurd h.1
bare_least (Empty ∷ ss) none n g (inr h) = let more = numbers_rise (Empty ∷ ss) (Empty ∷ []) 2 0 ss n g h in inl (omega arith)
bare_least (Label name ∷ ss) none n g (inl h) = inr (sym h.0, rw h.1.1 (omega arith))
bare_least (Label name ∷ ss) none n g (inr h) = let more = numbers_rise (Label name ∷ ss) (Label name ∷ []) 2 0 ss n g h in inl (omega arith)
bare_least (Rules d ∷ ss) none n g (inl h) = inr (sym h.0, rw h.1 (omega arith))
bare_least (Rules d ∷ ss) none n g (inr h) = let more = numbers_rise (Rules d ∷ ss) (Rules d ∷ []) 2 0 ss n g h in inl (omega arith)
bare_least (Directive d ∷ ss) none n g (inl h) = inr (sym h.0, rw h.1 (omega arith))
bare_least (Directive d ∷ ss) none n g (inr h) = let more = numbers_rise (Directive d ∷ ss) (Directive d ∷ []) 2 0 ss n g h in inl (omega arith)
bare_least (Instruction d ∷ ss) none n g h = let some = some_instruction d ss in absurd cc

bare_small : (ss : List Statement) → fault_number (bare_fault ss) ≤ 3
bare_small [] = omega arith
bare_small (Empty ∷ ss) = omega arith
bare_small (Label name ∷ ss) = omega arith
bare_small (Rules d ∷ ss) = omega arith
bare_small (Directive d ∷ ss) = omega arith
bare_small (Instruction d ∷ ss) = omega arith

bare_has : (ss : List Statement) → has_instruction ss ≡ false → HasFault ss 1 (bare_fault ss)
bare_has [] none = inl (refl, none, refl)
bare_has (Empty ∷ ss) none = inl (refl, none, refl)
bare_has (Label name ∷ ss) none = inl (refl, none, refl)
bare_has (Rules d ∷ ss) none = inr (inl (refl, refl))
bare_has (Directive d ∷ ss) none = inr (inl (refl, refl))
bare_has (Instruction d ∷ ss) none = inl (refl, none, refl)

by_lines : (ss : List Statement) (b : Bool) → b ≡ has_instruction ss → Judged (HasFault ss) (cond b (body 1 ss) (Err (record { line = 1; fault = bare_fault ss })))
by_lines ss true e = add_bare ss (body 1 ss) (sym e) (judged ss [] 1 0 [] ss)
by_lines ss false e = record { has = bare_has ss (sym e); least = among }
  where
    among : (n : ℕ) (g : AsmFault) → HasFault ss n g → (1 < n) ⊎ ((1 ≡ n) × (fault_number (bare_fault ss) ≤ fault_number g))
    among n g (inl h) = inr (sym h.0, rw h.2 (bare_small ss))
    among n g (inr h) = bare_least ss (sym e) n g h

pub text_judged : (text : List ℕ) → Judged (HasFault (statements_of text)) (read_text text)
unfolding read_text
text_judged text = by_lines (statements_of text) (has_instruction (statements_of text)) refl

refused_first : (text : List ℕ) (r : Result (List Insn) AsmError) → r ≡ read_text text → (e : AsmError) → r ≡ Err e → RefusesText text e
refused_first text (Ok is) q e h = absurd cc
refused_first text (Err d) q e h =
    let same : d ≡ e = cc in
    let first : IsFirstFault (HasFault (statements_of text)) d.line d.fault = subst (λ (v : Result (List Insn) AsmError). Judged (HasFault (statements_of text)) v) (sym q) (text_judged text) in
    subst (λ (v : AsmError). RefusesText text v) same (record { lines = statements_of text; say = text_says text; first = first })

read_faultless : (text : List ℕ) (r : Result (List Insn) AsmError) → r ≡ read_text text → (is : List Insn) → r ≡ Ok is → IsFaultless text
read_faultless text (Err d) q is h = absurd cc
read_faultless text (Ok js) q is h =
    record { lines = statements_of text; say = text_says text; none = subst (λ (v : Result (List Insn) AsmError). Judged (HasFault (statements_of text)) v) (sym q) (text_judged text) }

pub first_if_refused : {V : Type 0} (r : Result V AsmError) (text : List ℕ) → IfErr r (λ e. (e ≡ no_memory) ⊎ (read_text text ≡ Err e)) → IfErr r (λ e. (e ≡ no_memory) ⊎ RefusesText text e)
first_if_refused (Ok v) text h = tt
first_if_refused (Err e) text (inl h) = inl h
first_if_refused (Err e) text (inr h) = inr (refused_first text (read_text text) refl e h)

pub faultless_if_read : {V : Type 0} (items : V → List Insn) (r : Result V AsmError) (text : List ℕ) → IfOk r (λ v. read_text text ≡ Ok (items v)) → IfOk r (λ _. IsFaultless text)
faultless_if_read items (Err e) text h = tt
faultless_if_read items (Ok v) text h = read_faultless text (read_text text) refl (items v) h
