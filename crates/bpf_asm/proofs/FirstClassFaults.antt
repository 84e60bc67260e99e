-- What a class's text is refused for is its first fault, and a text that is read has none.
use Rattle.std.proofs.Common.{◌≡◌, ◌⊎◌, inl, inr, IfOk, IfErr, ℕ, ◌+◌, ◌==◌, ◌||◌, ◌<◌, ◌≤◌, not, Bool, true, false, List, [], ◌∷◌, ◌++◌, length, cond, Some, None, Result, Ok, Err, refl, sym, ap, ◌∙◌, subst, arith}
use Rattle.std.specs.Prelude.{nat_le}
use Rattle.std.specs.List.{before_first}
use Rattle.std.proofs.lemmas.Bool.Decides.{nat_tests}
use Rattle.std.proofs.lemmas.List.{length-append}
use Rattle.bpf_decode.specs.declared.insn.Insn.{Insn}
use Rattle.bpf_decode.specs.declared.rule_set.RuleSet.{RuleSet}
use Rattle.bpf_decode.specs.declared.rule_set.RuleSet.TheVariants.{One}
use Rattle.bpf_decode.specs.Class.{ClassMethod, Class}
use Rattle.bpf_decode.specs.ImageReading.{is_above}
use Rattle.asm_lines.specs.declared.fault.AsmFault.{AsmFault}
use Rattle.asm_lines.specs.declared.fault.AsmFault.TheVariants as faults
use Rattle.asm_lines.specs.declared.fault.AsmError.{AsmError}
use Rattle.asm_lines.specs.declared.draft.Draft.{Draft}
use Rattle.asm_lines.specs.declared.statement.Statement.{Statement}
use Rattle.asm_lines.specs.declared.statement.Statement.TheVariants.{Empty, Label, Rules, Directive, Instruction}
use Rattle.asm_lines.specs.Fault.{fault_number, no_memory}
use Rattle.asm_lines.specs.Headers.{MethodHeader}
use Rattle.asm_lines.specs.Statements.{statements_of}
use Rattle.bpf_asm.specs.Bodies.{body, has_instruction}
use Rattle.bpf_asm.specs.Classes.{is_directive, last_name, is_within_set, method_with, with_body, unless_fault, next_method, class_from, with_rules, ruled_from, bare_class_fault, read_class_text}
use Rattle.bpf_asm.specs.Faults.{LineFault, LinesHaveFault, slot_behind, Place, top, set_after, next_place, OpeningFault, RulesFault, EarlyFault, ClassLineFault, ClassLinesHaveFault, HasClassFault, IsFirstFault, RefusesClassText, IsFaultlessClass}
use Rattle.bpf_asm.proofs.StatementRelations.{text_says}
use Rattle.bpf_asm.proofs.BodyTexts.{some_instruction}
use Rattle.bpf_asm.proofs.ClassGrammar.{last_push, before_other, some_methods}
use Rattle.bpf_asm.proofs.ClassLemmas.{too_wide, not_too_wide}
use Rattle.bpf_asm.proofs.FirstFaults.{Judged, judged}
use Rattle.bpf_decode.specs.declared.limits.TheConstants.{METHOD_LIMIT}

some_number : (g : AsmFault) → 1 ≤ fault_number g
some_number faults.Word = omega arith
some_number faults.Operand = omega arith
some_number faults.Range = omega arith
some_number faults.Label = omega arith
some_number faults.NoMemory = omega arith

numbers_rise : (p : Place) (line : ℕ) (ss : List Statement) (n : ℕ) (g : AsmFault) → ClassLinesHaveFault p line ss n g → line ≤ n
numbers_rise p line [] n g h = absurd h
numbers_rise p line (s ∷ ss) n g (inl h) = let same = h.0 in omega arith
numbers_rise p line (s ∷ ss) n g (inr h) = let more = numbers_rise (next_place p s ss) (line + 1) ss n g h in omega arith

stops : (p : Place) (line : ℕ) (s : Statement) (ss : List Statement) (f : AsmFault) → ClassLineFault p s ss f → ((g : AsmFault) → ClassLineFault p s ss g → fault_number f ≤ fault_number g) → IsFirstFault (ClassLinesHaveFault p line (s ∷ ss)) line f
stops p line s ss f has low = record { has = inl (refl, has); least = among }
  where
    among : (n : ℕ) (g : AsmFault) → ClassLinesHaveFault p line (s ∷ ss) n g → (line < n) ⊎ ((line ≡ n) × (fault_number f ≤ fault_number g))
    among n g (inl h) = inr (sym h.0, low g h.1)
    among n g (inr h) = let more = numbers_rise (next_place p s ss) (line + 1) ss n g h in inl (omega arith)

goes_on : {A : Type 0} (p : Place) (line : ℕ) (s : Statement) (ss : List Statement) (r : Result A AsmError) → ((g : AsmFault) → ClassLineFault p s ss g → ⊥) → Judged (ClassLinesHaveFault (next_place p s ss) (line + 1) ss) r → Judged (ClassLinesHaveFault p line (s ∷ ss)) r
goes_on {A} p line s ss (Ok a) fine j = among
  where
    among : (n : ℕ) (g : AsmFault) → ClassLinesHaveFault p line (s ∷ ss) n g → ⊥
    among n g (inl h) = fine g h.1
    among n g (inr h) = j n g h
goes_on {A} p line s ss (Err e) fine j = record { has = inr j.has; least = among }
  where
    among : (n : ℕ) (g : AsmFault) → ClassLinesHaveFault p line (s ∷ ss) n g → (e.line < n) ⊎ ((e.line ≡ n) × (fault_number e.fault ≤ fault_number g))
    among n g (inl h) = absurd (fine g h.1)
    among n g (inr h) = j.least n g h

-- ---- below a `.method`

-- the answer of a method's lines, or what comes below them
abbrev then_methods : Result (List Insn) AsmError → Result (List ClassMethod) AsmError → Result (List ClassMethod) AsmError
then_methods (Ok is) below = below
then_methods (Err e) below = Err e

-- one line of a method: what is answered about the lines from it on, from those below it
record IsInside (p : Place) (s : Statement) (ss : List Statement) : Type 0 where
  above : (next_place p s ss).above ≡ p.above ++ (s ∷ [])
  to : (g : AsmFault) → ClassLineFault p s ss g → LineFault p.lines p.above p.slot s g
  from : (g : AsmFault) → LineFault p.lines p.above p.slot s g → ClassLineFault p s ss g

inside : (p : Place) (line : ℕ) (s : Statement) (ss bs : List Statement) (br : Result (List Insn) AsmError) (below : Result (List ClassMethod) AsmError) → IsInside p s ss → Judged (LinesHaveFault p.lines p.above line p.slot (s ∷ bs)) br → (Judged (LinesHaveFault p.lines (p.above ++ (s ∷ [])) (line + 1) (slot_behind p.slot s) bs) br → Judged (ClassLinesHaveFault (next_place p s ss) (line + 1) ss) (then_methods br below)) → Judged (ClassLinesHaveFault p line (s ∷ ss)) (then_methods br below)
inside p line s ss bs (Ok is) below i jb more = goes_on p line s ss below (λ g h. jb line g (inl (refl, i.to g h))) (more (λ n g h. jb n g (inr h)))
inside p line s ss bs (Err e) below i jb more = by_place jb.has
  where
    here : ((e.line ≡ line) × LineFault p.lines p.above p.slot s e.fault) → IsFirstFault (ClassLinesHaveFault p line (s ∷ ss)) e.line e.fault
    here h = record { has = inl (h.0, i.from e.fault h.1); least = among }
      where
        among : (n : ℕ) (g : AsmFault) → ClassLinesHaveFault p line (s ∷ ss) n g → (e.line < n) ⊎ ((e.line ≡ n) × (fault_number e.fault ≤ fault_number g))
        among n g (inl k) = jb.least n g (inl (k.0, i.to g k.1))
        among n g (inr k) = let at = h.0 in let later = numbers_rise (next_place p s ss) (line + 1) ss n g k in inl (omega arith)

    later : LinesHaveFault p.lines (p.above ++ (s ∷ [])) (line + 1) (slot_behind p.slot s) bs e.line e.fault → IsFirstFault (ClassLinesHaveFault p line (s ∷ ss)) e.line e.fault
    later h = record { has = inr first.has; least = among }
      where
        first : IsFirstFault (ClassLinesHaveFault (next_place p s ss) (line + 1) ss) e.line e.fault
        first = more (record { has = h; least = λ n g k. jb.least n g (inr k) })

        among : (n : ℕ) (g : AsmFault) → ClassLinesHaveFault p line (s ∷ ss) n g → (e.line < n) ⊎ ((e.line ≡ n) × (fault_number e.fault ≤ fault_number g))
        among n g (inl k) = jb.least n g (inl (k.0, i.to g k.1))
        among n g (inr k) = first.least n g k

    by_place : LinesHaveFault p.lines p.above line p.slot (s ∷ bs) e.line e.fault → IsFirstFault (ClassLinesHaveFault p line (s ∷ ss)) e.line e.fault
    by_place (inl h) = here h
    by_place (inr h) = later h

not_early : {P : Type 0} (p : Place) (g : AsmFault) → 1 ≤ p.methods → EarlyFault p g → P
not_early p g some h = let none = h.0 in absurd (omega arith)

label_inside : (p : Place) (name : List ℕ) (ss : List Statement) → 1 ≤ p.methods → IsInside p (Label name) ss
label_inside p name ss some = record { above = refl; to = at; from = λ g h. inr h }
  where
    at : (g : AsmFault) → ClassLineFault p (Label name) ss g → LineFault p.lines p.above p.slot (Label name) g
    at g (inl h) = not_early p g some h
    at g (inr h) = h

rules_inside : (p : Place) (r : Result RuleSet AsmFault) (ss : List Statement) → 1 ≤ p.methods → IsInside p (Rules r) ss
rules_inside p r ss some = record { above = refl; to = at; from = λ g h. inl (inr some, h) }
  where
    at : (g : AsmFault) → ClassLineFault p (Rules r) ss g → LineFault p.lines p.above p.slot (Rules r) g
    at g (inl h) = h.1
    at g (inr h) = let none = h.0 in absurd (omega arith)

instruction_inside : (p : Place) (d : Result Draft AsmFault) (ss : List Statement) → 1 ≤ p.methods → IsInside p (Instruction d) ss
instruction_inside p d ss some = record { above = refl; to = at; from = λ g h. inr h }
  where
    at : (g : AsmFault) → ClassLineFault p (Instruction d) ss g → LineFault p.lines p.above p.slot (Instruction d) g
    at g (inl h) = not_early p g some h
    at g (inr h) = h

-- ---- a `.method`

-- what is known of the methods above a place
record Knows (p : Place) (done : List ClassMethod) : Type 0 where
  count : p.methods ≡ length done
  named : p.name ≡ last_name [] done

-- what is answered about lines below a `.method`, of whose lines `br` was answered
abbrev Below : ℕ → List Statement → Type 0
Below line ss = (done : List ClassMethod) (p : Place) (br : Result (List Insn) AsmError) → Knows p done → 1 ≤ length done → Judged (LinesHaveFault p.lines p.above line p.slot (before_first is_directive ss)) br → Judged (ClassLinesHaveFault p line ss) (then_methods br (class_from p.rules done line ss))

late_opening : (p : Place) (h : MethodHeader) (ss : List Statement) (g : AsmFault) → OpeningFault p (Ok h) ss g → 3 ≤ fault_number g
late_opening p h ss g (inl k) = rw k.1 (omega arith)
late_opening p h ss g (inr (inl k)) = rw k.1 (omega arith)
late_opening p h ss g (inr (inr (inl k))) = rw k.1 (omega arith)
late_opening p h ss g (inr (inr (inr k))) = rw k.1 (omega arith)

opens : (done : List ClassMethod) (p : Place) (line : ℕ) (h : MethodHeader) (ss : List Statement) (br : Result (List Insn) AsmError) → Knows p done → ((g : AsmFault) → OpeningFault p (Ok h) ss g → ⊥) → Below (line + 1) ss → Judged (LinesHaveFault (before_first is_directive ss) [] (line + 1) 0 (before_first is_directive ss)) br → Judged (ClassLinesHaveFault p line (Directive (Ok h) ∷ ss)) (next_method (with_body h br) (λ m. class_from p.rules (done ++ (m ∷ [])) (line + 1) ss))
opens done p line h ss br k fine below jb = goes_on p line (Directive (Ok h)) ss _ fine (by_body br jb)
  where
    next : Place
    next = next_place p (Directive (Ok h)) ss

    known : (m : ClassMethod) → m.name ≡ h.name → Knows (next_place p (Directive (Ok h)) ss) (done ++ (m ∷ []))
    known m e = let pushed = length-append done (m ∷ []) in let count = k.count in record { count = omega arith; named = sym e ∙ sym (last_push [] done m) }

    some : (m : ClassMethod) → 1 ≤ length (done ++ (m ∷ []))
    some m = let pushed = length-append done (m ∷ []) in omega arith

    by_body : (r : Result (List Insn) AsmError) → Judged (LinesHaveFault (before_first is_directive ss) [] (line + 1) 0 (before_first is_directive ss)) r → Judged (ClassLinesHaveFault (next_place p (Directive (Ok h)) ss) (line + 1) ss) (next_method (with_body h r) (λ m. class_from p.rules (done ++ (m ∷ [])) (line + 1) ss))
    by_body (Ok is) j = below (done ++ (method_with h is ∷ [])) (next_place p (Directive (Ok h)) ss) (Ok is) (known (method_with h is) refl) (some (method_with h is)) j
    by_body (Err e) j = below (done ++ (method_with h [] ∷ [])) (next_place p (Directive (Ok h)) ss) (Err e) (known (method_with h []) refl) (some (method_with h [])) j

-- by the tests of a `.method` line: too many methods, an instruction among its lines, capacities
-- that the rule set allows, a name above the last
by_tests : (done : List ClassMethod) (p : Place) (line : ℕ) (h : MethodHeader) (ss : List Statement) (full has fits above : Bool) → full ≡ nat_le METHOD_LIMIT (length done) → has ≡ has_instruction (before_first is_directive ss) → fits ≡ is_within_set p.rules h → above ≡ is_above (last_name [] done) h.name → Knows p done → Below (line + 1) ss → Judged (ClassLinesHaveFault p line (Directive (Ok h) ∷ ss)) (next_method (unless_fault (cond (full || not has || not fits) (Some faults.Range) (cond above None (Some faults.Label))) line (with_body h (body (line + 1) (before_first is_directive ss)))) (λ m. class_from p.rules (done ++ (m ∷ [])) (line + 1) ss))
by_tests done p line h ss true has fits above a b w c k below =
    let count = k.count in
    stops p line (Directive (Ok h)) ss faults.Range (inl (grind (arith, nat_tests), refl)) (late_opening p h ss)
by_tests done p line h ss false false fits above a b w c k below = stops p line (Directive (Ok h)) ss faults.Range (inr (inl (sym b, refl))) (late_opening p h ss)
by_tests done p line h ss false true false above a b w c k below = stops p line (Directive (Ok h)) ss faults.Range (inr (inr (inl (too_wide p.rules h (sym w), refl)))) (late_opening p h ss)
by_tests done p line h ss false true true false a b w c k below = stops p line (Directive (Ok h)) ss faults.Label (inr (inr (inr (ap (λ v. is_above v h.name) k.named ∙ sym c, refl)))) low
  where
    low : (g : AsmFault) → OpeningFault p (Ok h) ss g → fault_number faults.Label ≤ fault_number g
    low g (inl x) = let many = x.0 in let count = k.count in let few : length done < METHOD_LIMIT = grind (arith, nat_tests) in absurd (omega arith)
    low g (inr (inl x)) = let none = x.0 in absurd cc
    low g (inr (inr (inl x))) = absurd (not_too_wide p.rules h (sym w) x.0)
    low g (inr (inr (inr x))) = rw x.1 (omega arith)
by_tests done p line h ss false true true true a b w c k below = opens done p line h ss (body (line + 1) (before_first is_directive ss)) k fine below (judged (before_first is_directive ss) [] (line + 1) 0 [] (before_first is_directive ss))
  where
    fine : (g : AsmFault) → OpeningFault p (Ok h) ss g → ⊥
    fine g (inl x) = let many = x.0 in let count = k.count in let few : length done < METHOD_LIMIT = grind (arith, nat_tests) in omega arith
    fine g (inr (inl x)) = let none = x.0 in absurd cc
    fine g (inr (inr (inl x))) = not_too_wide p.rules h (sym w) x.0
    fine g (inr (inr (inr x))) = let low = sym (ap (λ v. is_above v h.name) k.named) ∙ x.0 in absurd cc

directive : (done : List ClassMethod) (p : Place) (line : ℕ) (h : Result MethodHeader AsmFault) (ss : List Statement) → Knows p done → Below (line + 1) ss → Judged (ClassLinesHaveFault p line (Directive h ∷ ss)) (class_from p.rules done line (Directive h ∷ ss))
unfolding class_from
directive done p line (Err f) ss k below = stops p line (Directive (Err f)) ss f refl (λ g x. rw x (omega arith))
directive done p line (Ok h) ss k below = by_tests done p line h ss (nat_le METHOD_LIMIT (length done)) (has_instruction (before_first is_directive ss)) (is_within_set p.rules h) (is_above (last_name [] done) h.name) refl refl refl refl k below

-- ---- lines of a class

ends : (p : Place) (line : ℕ) (done : List ClassMethod) (b : Bool) → b ≡ (length done == 0) → 1 ≤ length done → (e : AsmError) → Judged (ClassLinesHaveFault p line []) (cond b (Err e) (Ok done))
ends p line done true t some e = absurd (grind (arith, nat_tests))
ends p line done false t some e = λ n g h. h

below : (line : ℕ) (ss : List Statement) → Below line ss
unfolding class_from
below line [] [] p br k some jb = absurd (omega arith)
below line [] (d ∷ ds) p (Ok is) k some jb = ends p line (d ∷ ds) (length (d ∷ ds) == 0) refl some _
below line [] (d ∷ ds) p (Err e) k some jb = absurd jb.has
below line (Directive h ∷ ss) done p (Ok is) k some jb = directive done p line h ss k (below (line + 1) ss)
below line (Directive h ∷ ss) done p (Err e) k some jb = absurd jb.has
below line (s ∷ ss) [] p br k some jb = absurd (omega arith)
below line (Empty ∷ ss) (d ∷ ds) p br k some jb =
    inside p line Empty ss (before_first is_directive ss) br _ (record { above = refl; to = λ g h. h; from = λ g h. h })
    (rw (before_other Empty ss refl) at jb)
    (below (line + 1) ss (d ∷ ds) (next_place p Empty ss) br (record { count = k.count; named = k.named }) some)
below line (Label name ∷ ss) (d ∷ ds) p br k some jb =
    let count = k.count in
    rw (some_methods d ds)
    (inside p line (Label name) ss (before_first is_directive ss) br _ (label_inside p name ss (omega arith))
    (rw (before_other (Label name) ss refl) at jb)
    (below (line + 1) ss (d ∷ ds) (next_place p (Label name) ss) br (record { count = k.count; named = k.named }) some))
below line (Rules r ∷ ss) (d ∷ ds) p (Ok is) k some jb = let none = (rw (before_other (Rules r) ss refl) at jb) line faults.Word (inl (refl, refl)) in absurd none
below line (Rules r ∷ ss) (d ∷ ds) p (Err e) k some jb =
    let count = k.count in
    inside p line (Rules r) ss (before_first is_directive ss) (Err e) (class_from (set_after p.rules r) (d ∷ ds) (line + 1) ss) (rules_inside p r ss (omega arith))
    (rw (before_other (Rules r) ss refl) at jb)
    (below (line + 1) ss (d ∷ ds) (next_place p (Rules r) ss) (Err e) (record { count = k.count; named = k.named }) some)
below line (Instruction i ∷ ss) (d ∷ ds) p br k some jb =
    let count = k.count in
    rw (some_methods d ds)
    (inside p line (Instruction i) ss (before_first is_directive ss) br _ (instruction_inside p i ss (omega arith))
    (rw (before_other (Instruction i) ss refl) at jb)
    (below (line + 1) ss (d ∷ ds) (next_place p (Instruction i) ss) br (record { count = k.count; named = k.named }) some))

-- before the first `.method`
early_label : (rules : RuleSet) (p : Place) (line : ℕ) (name : List ℕ) (ss : List Statement) → Knows p [] → Judged (ClassLinesHaveFault p line (Label name ∷ ss)) (class_from rules [] line (Label name ∷ ss))
unfolding class_from
early_label rules p line name ss k = stops p line (Label name) ss faults.Word (inl (k.count, refl)) (λ g h. some_number g)

early_instruction : (rules : RuleSet) (p : Place) (line : ℕ) (d : Result Draft AsmFault) (ss : List Statement) → Knows p [] → Judged (ClassLinesHaveFault p line (Instruction d ∷ ss)) (class_from rules [] line (Instruction d ∷ ss))
unfolding class_from
early_instruction rules p line d ss k = stops p line (Instruction d) ss faults.Word (inl (k.count, refl)) (λ g h. some_number g)

-- and after a `.rules`
early : (p : Place) (line : ℕ) (ss : List Statement) → Knows p [] → p.ruled ≡ true → has_instruction ss ≡ true → Judged (ClassLinesHaveFault p line ss) (class_from p.rules [] line ss)
unfolding class_from
early p line [] k ruled some = absurd cc
early p line (Empty ∷ ss) k ruled some = goes_on p line Empty ss _ (λ g h. h) (early (next_place p Empty ss) (line + 1) ss (record { count = k.count; named = k.named }) ruled some)
early p line (Label name ∷ ss) k ruled some = early_label p.rules p line name ss k
early p line (Rules r ∷ ss) k ruled some = stops p line (Rules r) ss faults.Word (inl (inl ruled, refl)) (λ g h. some_number g)
early p line (Instruction d ∷ ss) k ruled some = early_instruction p.rules p line d ss k
early p line (Directive h ∷ ss) k ruled some = directive [] p line h ss k (below (line + 1) ss)

-- the same answer with a rule set
ruled : (rules : RuleSet) (Has : ℕ → AsmFault → Type 0) (r : Result (List ClassMethod) AsmError) → Judged Has r → Judged Has (with_rules rules r)
ruled rules Has (Ok ms) j = j
ruled rules Has (Err e) j = j

-- a `.rules` that nothing stands above has no fault of its place
unruled : (p : Place) (r : Result RuleSet AsmFault) (g : AsmFault) → Knows p [] → p.ruled ≡ false → RulesFault p r g → (f : AsmFault) → r ≡ Err f → g ≡ f
unruled p r g k none (inl (inl h, w)) f e = absurd cc
unruled p r g k none (inl (inr h, w)) f e = let count = k.count in absurd (omega arith)
unruled p (Ok set) g k none (inr h) f e = absurd h.1
unruled p (Err d) g k none (inr h) f e = let same : d ≡ f = cc in h.1 ∙ same

fine_rules : (p : Place) (rules : RuleSet) (ss : List Statement) → Knows p [] → p.ruled ≡ false → (g : AsmFault) → ClassLineFault p (Rules (Ok rules)) ss g → ⊥
fine_rules p rules ss k none g (inl (inl h, w)) = absurd cc
fine_rules p rules ss k none g (inl (inr h, w)) = let count = k.count in absurd (omega arith)
fine_rules p rules ss k none g (inr h) = h.1

first : (p : Place) (line : ℕ) (ss : List Statement) → Knows p [] → p.ruled ≡ false → p.rules ≡ One → has_instruction ss ≡ true → Judged (ClassLinesHaveFault p line ss) (ruled_from line ss)
unfolding ruled_from
first p line [] k none set some = absurd cc
first p line (Empty ∷ ss) k none set some = goes_on p line Empty ss _ (λ g h. h) (first (next_place p Empty ss) (line + 1) ss (record { count = k.count; named = k.named }) none set some)
first p line (Label name ∷ ss) k none set some = ruled One (ClassLinesHaveFault p line (Label name ∷ ss)) _ (early_label One p line name ss k)
first p line (Rules (Ok rules) ∷ ss) k none set some =
    goes_on p line (Rules (Ok rules)) ss _ (fine_rules p rules ss k none)
    (ruled rules (ClassLinesHaveFault (next_place p (Rules (Ok rules)) ss) (line + 1) ss) _ (early (next_place p (Rules (Ok rules)) ss) (line + 1) ss (record { count = k.count; named = k.named }) refl some))
first p line (Rules (Err f) ∷ ss) k none set some = stops p line (Rules (Err f)) ss f (inr (k.count, refl)) (λ g h. rw (unruled p (Err f) g k none h f refl) (omega arith))
first p line (Instruction d ∷ ss) k none set some = ruled One (ClassLinesHaveFault p line (Instruction d ∷ ss)) _ (early_instruction One p line d ss k)
first p line (Directive h ∷ ss) k none set some =
    ruled One (ClassLinesHaveFault p line (Directive h ∷ ss)) (class_from One [] line (Directive h ∷ ss))
    (subst (λ (r : RuleSet). Judged (ClassLinesHaveFault p line (Directive h ∷ ss)) (class_from r [] line (Directive h ∷ ss))) set (directive [] p line h ss k (below (line + 1) ss)))

-- ---- texts

add_bare : {A : Type 0} (ss : List Statement) (r : Result A AsmError) → has_instruction ss ≡ true → Judged (ClassLinesHaveFault top 1 ss) r → Judged (HasClassFault ss) r
add_bare {A} ss (Ok a) some j = among
  where
    among : (n : ℕ) (g : AsmFault) → HasClassFault ss n g → ⊥
    among n g (inl h) = let none = h.1 in absurd cc
    among n g (inr h) = j n g h
add_bare {A} ss (Err e) some j = record { has = inr j.has; least = among }
  where
    among : (n : ℕ) (g : AsmFault) → HasClassFault ss n g → (e.line < n) ⊎ ((e.line ≡ n) × (fault_number e.fault ≤ fault_number g))
    among n g (inl h) = let none = h.1 in absurd cc
    among n g (inr h) = j.least n g h

-- the faults of the first line
abbrev FirstLine : List Statement → AsmFault → Type 0
FirstLine [] g = ⊥
FirstLine (s ∷ ss) g = ClassLineFault top s ss g

-- the fault of a bare text's first line: one that it has, and the least
record IsBareFault (ss : List Statement) (f : AsmFault) : Type 0 where
  has : HasClassFault ss 1 f
  small : fault_number f ≤ 3
  low : (g : AsmFault) → FirstLine ss g → fault_number f ≤ fault_number g

-- the lower of two numbers
lower_is : (f : AsmFault) (b : Bool) → b ≡ nat_le (fault_number f) 3 → (fault_number (cond b f faults.Range) ≤ 3) × (fault_number (cond b f faults.Range) ≤ fault_number f)
lower_is f true e = let low : fault_number f ≤ 3 = grind (arith, nat_tests) in (low, omega arith)
lower_is f false e = let high : 3 < fault_number f = grind (arith, nat_tests) in (omega arith, omega arith)

has_lower_rules : (f : AsmFault) (ss : List Statement) (b : Bool) → has_instruction (Rules (Err f) ∷ ss) ≡ false → HasClassFault (Rules (Err f) ∷ ss) 1 (cond b f faults.Range)
has_lower_rules f ss true none = inr (inl (refl, inr (refl, refl)))
has_lower_rules f ss false none = inl (refl, none, refl)

has_lower : (f : AsmFault) (ss : List Statement) (b : Bool) → has_instruction (Directive (Err f) ∷ ss) ≡ false → HasClassFault (Directive (Err f) ∷ ss) 1 (cond b f faults.Range)
has_lower f ss true none = inr (inl (refl, refl))
has_lower f ss false none = inl (refl, none, refl)

bare_fault : (ss : List Statement) → has_instruction ss ≡ false → IsBareFault ss (bare_class_fault ss)
bare_fault [] none = record { has = inl (refl, none, refl); small = omega arith; low = λ g h. absurd h }
bare_fault (Empty ∷ ss) none = record { has = inl (refl, none, refl); small = omega arith; low = λ g h. absurd h }
bare_fault (Label name ∷ ss) none = record { has = inr (inl (refl, inl (refl, refl))); small = omega arith; low = λ g h. some_number g }
bare_fault (Rules (Ok rules) ∷ ss) none =
    record { has = inl (refl, none, refl); small = omega arith; low = λ g h. absurd (fine_rules top rules ss (record { count = refl; named = refl }) refl g h) }
bare_fault (Rules (Err f) ∷ ss) none =
    let lower = lower_is f (nat_le (fault_number f) 3) refl in
    record { has = has_lower_rules f ss (nat_le (fault_number f) 3) none; small = lower.0; low = λ g h. rw (unruled top (Err f) g (record { count = refl; named = refl }) refl h f refl) lower.1 }
bare_fault (Directive (Ok h) ∷ ss) none = record { has = inl (refl, none, refl); small = omega arith; low = late_opening top h ss }
bare_fault (Directive (Err f) ∷ ss) none =
    let lower = lower_is f (nat_le (fault_number f) 3) refl in
    record { has = has_lower f ss (nat_le (fault_number f) 3) none; small = lower.0; low = λ g h. rw h lower.1 }
bare_fault (Instruction d ∷ ss) none = let some = some_instruction d ss in absurd cc

bare_among : (ss : List Statement) (f : AsmFault) → ((g : AsmFault) → FirstLine ss g → fault_number f ≤ fault_number g) → (n : ℕ) (g : AsmFault) → ClassLinesHaveFault top 1 ss n g → (1 < n) ⊎ ((1 ≡ n) × (fault_number f ≤ fault_number g))
bare_among [] f low n g h = absurd h
bare_among (s ∷ ss) f low n g (inl h) = inr (sym h.0, low g h.1)
bare_among (s ∷ ss) f low n g (inr h) = let more = numbers_rise (next_place top s ss) 2 ss n g h in inl (omega arith)

by_lines : (ss : List Statement) (b : Bool) → b ≡ has_instruction ss → Judged (HasClassFault ss) (cond b (ruled_from 1 ss) (Err (record { line = 1; fault = bare_class_fault ss })))
by_lines ss true e = add_bare ss (ruled_from 1 ss) (sym e) (first top 1 ss (record { count = refl; named = refl }) refl refl (sym e))
by_lines ss false e = record { has = bare.has; least = among }
  where
    bare : IsBareFault ss (bare_class_fault ss)
    bare = bare_fault ss (sym e)

    among : (n : ℕ) (g : AsmFault) → HasClassFault ss n g → (1 < n) ⊎ ((1 ≡ n) × (fault_number (bare_class_fault ss) ≤ fault_number g))
    among n g (inl h) = inr (sym h.0, rw h.2 bare.small)
    among n g (inr h) = bare_among ss (bare_class_fault ss) bare.low n g h

text_judged : (text : List ℕ) → Judged (HasClassFault (statements_of text)) (read_class_text text)
unfolding read_class_text
text_judged text = by_lines (statements_of text) (has_instruction (statements_of text)) refl

refused_first : (text : List ℕ) (r : Result Class AsmError) → r ≡ read_class_text text → (e : AsmError) → r ≡ Err e → RefusesClassText text e
refused_first text (Ok is) q e h = absurd cc
refused_first text (Err d) q e h =
    let same : d ≡ e = cc in
    let first : IsFirstFault (HasClassFault (statements_of text)) d.line d.fault = subst (λ (v : Result Class AsmError). Judged (HasClassFault (statements_of text)) v) (sym q) (text_judged text) in
    subst (λ (v : AsmError). RefusesClassText text v) same (record { lines = statements_of text; say = text_says text; first = first })

read_faultless : (text : List ℕ) (r : Result Class AsmError) → r ≡ read_class_text text → (c : Class) → r ≡ Ok c → IsFaultlessClass text
read_faultless text (Err d) q ms h = absurd cc
read_faultless text (Ok ns) q ms h =
    record { lines = statements_of text; say = text_says text; none = subst (λ (v : Result Class AsmError). Judged (HasClassFault (statements_of text)) v) (sym q) (text_judged text) }

pub first_if_refused : {V : Type 0} (r : Result V AsmError) (text : List ℕ) → IfErr r (λ e. (e ≡ no_memory) ⊎ (read_class_text text ≡ Err e)) → IfErr r (λ e. (e ≡ no_memory) ⊎ RefusesClassText text e)
first_if_refused (Ok v) text h = tt
first_if_refused (Err e) text (inl h) = inl h
first_if_refused (Err e) text (inr h) = inr (refused_first text (read_class_text text) refl e h)

pub faultless_if_read : (r : Result Class AsmError) (text : List ℕ) → IfOk r (λ c. read_class_text text ≡ Ok c) → IfOk r (λ _. IsFaultlessClass text)
faultless_if_read (Err e) text h = tt
faultless_if_read (Ok v) text h = read_faultless text (read_class_text text) refl v h
