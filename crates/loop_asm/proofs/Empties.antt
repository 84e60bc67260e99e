-- Lines that are empty change nothing of a class that is read: only the numbers of refused lines.
use Rattle.std.proofs.Common.{◌≡◌, ℕ, pos, negsuc, ◌==◌, ◌+◌, not, Bool, true, false, List, [], ◌∷◌, ◌++◌, length, cond, Option, Some, None, Result, Ok, Err, refl, sym, ap, subst, ◌∙◌, arith}
use Rattle.std.specs.List.{before_first, list_any}
use Rattle.std.proofs.lemmas.List.{append-nil}
use Rattle.bpf_decode.specs.declared.insn.Insn.{Insn}
use Rattle.bpf_decode.specs.declared.insn.Insn.TheVariants as insns
use Rattle.bpf_decode.specs.declared.rule_set.RuleSet.{RuleSet}
use Rattle.bpf_decode.specs.declared.rule_set.RuleSet.TheVariants.{One}
use Rattle.bpf_decode.specs.Instruction.{slot_count}
use Rattle.bpf_decode.specs.Class.{ClassMethod, Class}
use Rattle.asm_lines.specs.declared.draft.Draft.{Draft}
use Rattle.asm_lines.specs.declared.draft.Draft.TheVariants as drafts
use Rattle.asm_lines.specs.declared.fault.AsmFault.{AsmFault}
use Rattle.asm_lines.specs.declared.fault.AsmError.{AsmError}
use Rattle.asm_lines.specs.declared.statement.Statement.{Statement}
use Rattle.asm_lines.specs.declared.statement.Statement.TheVariants.{Empty, Label, Rules, Directive, Instruction}
use Rattle.asm_lines.specs.declared.target.Target.{Target}
use Rattle.asm_lines.specs.declared.target.Target.TheVariants as targets
use Rattle.asm_lines.specs.Headers.{MethodHeader}
use Rattle.asm_lines.specs.Operands.{filled}
use Rattle.bpf_asm.specs.Bodies.{draft_slots, is_label, slot_of_label, distance_to, near, far, finished, line_at, proceed, body_from, body, is_instruction, has_instruction}
use Rattle.bpf_asm.specs.Classes.{is_directive, opening_fault, with_body, unless_fault, method_at, next_method, class_from, with_rules, ruled_from, bare_class_fault, class_assembled}
use Rattle.bpf_asm.proofs.BodyLemmas.{any_counts}
use Rattle.bpf_asm.proofs.ClassGrammar.{before_other}
use Rattle.bpf_asm.proofs.PlainBytes.{before_at}

-- the lines that aren't empty
abbrev pub bare : List Statement → List Statement
bare [] = []
bare (Empty ∷ ss) = bare ss
bare (Label name ∷ ss) = Label name ∷ bare ss
bare (Rules rules ∷ ss) = Rules rules ∷ bare ss
bare (Directive header ∷ ss) = Directive header ∷ bare ss
bare (Instruction d ∷ ss) = Instruction d ∷ bare ss

-- below one line
pub bare_below : (s : Statement) (a b : List Statement) → bare a ≡ bare b → bare (s ∷ a) ≡ bare (s ∷ b)
bare_below Empty a b e = e
bare_below (Label name) a b e = ap (λ (ss : List Statement). Label name ∷ ss) e
bare_below (Rules rules) a b e = ap (λ (ss : List Statement). Rules rules ∷ ss) e
bare_below (Directive header) a b e = ap (λ (ss : List Statement). Directive header ∷ ss) e
bare_below (Instruction d) a b e = ap (λ (ss : List Statement). Instruction d ∷ ss) e

bare_append : (a b : List Statement) → bare (a ++ b) ≡ bare a ++ bare b
bare_append [] b = refl
bare_append (Empty ∷ ss) b = bare_append ss b
bare_append (Label name ∷ ss) b = ap (λ (r : List Statement). Label name ∷ r) (bare_append ss b)
bare_append (Rules rules ∷ ss) b = ap (λ (r : List Statement). Rules rules ∷ r) (bare_append ss b)
bare_append (Directive header ∷ ss) b = ap (λ (r : List Statement). Directive header ∷ r) (bare_append ss b)
bare_append (Instruction d ∷ ss) b = ap (λ (r : List Statement). Instruction d ∷ r) (bare_append ss b)

-- two answers that differ in their refusals alone
abbrev pub Alike : {A : Type 0} → Result A AsmError → Result A AsmError → Type 0
Alike (Ok a) (Ok b) = a ≡ b
Alike (Ok a) (Err e) = ⊥
Alike (Err e) (Ok b) = ⊥
Alike (Err e) (Err d) = Unit {0}

given : {A : Type 0} (a : A) (r s : Result A AsmError) → Alike r s → r ≡ Ok a → s ≡ Ok a
given a (Ok b) (Ok c) h e = ap (λ x. Ok x) (sym h) ∙ e
given a (Ok b) (Err d) h e = absurd h
given a (Err d) (Ok c) h e = absurd h
given a (Err d) (Err f) h e = absurd cc

taken : {A : Type 0} (a : A) (r s : Result A AsmError) → Alike r s → s ≡ Ok a → r ≡ Ok a
taken a (Ok b) (Ok c) h e = ap (λ x. Ok x) h ∙ e
taken a (Ok b) (Err d) h e = absurd h
taken a (Err d) (Ok c) h e = absurd h
taken a (Err d) (Err f) h e = absurd cc

-- ---- labels

zero_more : (slot : ℕ) → slot + 0 ≡ slot
zero_more slot = omega arith

label_bare : (name : List ℕ) (slot : ℕ) (ss : List Statement) → slot_of_label name slot ss ≡ slot_of_label name slot (bare ss)
unfolding slot_of_label
label_bare name slot [] = refl
label_bare name slot (Empty ∷ ss) = ap (λ (k : ℕ). slot_of_label name k ss) (zero_more slot) ∙ label_bare name slot ss
label_bare name slot (Label other ∷ ss) = ap (cond (is_label name (Label other)) (Some slot)) (label_bare name (slot + 0) ss)
label_bare name slot (Rules rules ∷ ss) = label_bare name (slot + 0) ss
label_bare name slot (Directive header ∷ ss) = label_bare name (slot + 0) ss
label_bare name slot (Instruction d ∷ ss) = label_bare name (slot + draft_slots d) ss

-- ---- one line

near_bare : (all : List Statement) (slot : ℕ) (t : Target) → near all slot t ≡ near (bare all) slot t
near_bare all slot (targets.Slots z) = refl
near_bare all slot (targets.Label name) = ap (distance_to (negsuc 32767) (pos 32767) slot) (label_bare name 0 all)

far_bare : (all : List Statement) (slot : ℕ) (t : Target) → far all slot t ≡ far (bare all) slot t
far_bare all slot (targets.Slots z) = refl
far_bare all slot (targets.Label name) = ap (distance_to (negsuc 2147483647) (pos 2147483647) slot) (label_bare name 0 all)

finished_bare : (all : List Statement) (slot : ℕ) (d : Draft) → finished all slot d ≡ finished (bare all) slot d
finished_bare all slot (drafts.Plain insn) = refl
finished_bare all slot (drafts.Jump t) = ap (filled insns.Jump) (near_bare all slot t)
finished_bare all slot (drafts.JumpLong t) = ap (filled insns.JumpLong) (far_bare all slot t)
finished_bare all slot (drafts.Branch bits comparison dst source t) = ap (filled (insns.Branch bits comparison dst source)) (near_bare all slot t)
finished_bare all slot (drafts.CallLocal t) = ap (filled insns.CallLocal) (far_bare all slot t)

line_bare : (all before : List Statement) (slot : ℕ) (s : Statement) → line_at all before slot s ≡ line_at (bare all) (bare before) slot s
line_bare all before slot Empty = refl
line_bare all before slot (Label name) = rw (label_bare name 0 before) refl
line_bare all before slot (Rules rules) = refl
line_bare all before slot (Directive header) = refl
line_bare all before slot (Instruction (Err fault)) = refl
line_bare all before slot (Instruction (Ok d)) = rw (finished_bare all slot d) refl

-- ---- a method's lines

alike_proceed : (line k : ℕ) (found : Result (Option Insn) AsmFault) (r s : Result (List Insn) AsmError) (f g : Insn → Result (List Insn) AsmError) → Alike r s → ((i : Insn) → Alike (f i) (g i)) → Alike (proceed line found r f) (proceed k found s g)
alike_proceed line k (Err fault) r s f g h many = tt
alike_proceed line k (Ok None) r s f g h many = h
alike_proceed line k (Ok (Some i)) r s f g h many = many i

-- a line that isn't empty, where the lines below are alike from any number, slot and instructions on
abbrev AlikeBelow : List Statement → List Statement → List Statement → Type 0
AlikeBelow all before ss = (line k slot : ℕ) (done : List Insn) → Alike (body_from all before line slot done ss) (body_from (bare all) (bare before) k slot done (bare ss))

one_bare : (all before : List Statement) (s : Statement) (ss : List Statement) → bare (s ∷ ss) ≡ s ∷ bare ss → bare (s ∷ []) ≡ s ∷ [] → AlikeBelow all (before ++ (s ∷ [])) ss → AlikeBelow all before (s ∷ ss)
unfolding body_from
one_bare all before s ss whole alone below line k slot done =
    let above : bare (before ++ (s ∷ [])) ≡ bare before ++ (s ∷ []) = bare_append before (s ∷ []) ∙ ap (λ (r : List Statement). bare before ++ r) alone in
    let next : (l j at : ℕ) (is : List Insn) → Alike (body_from all (before ++ (s ∷ [])) l at is ss) (body_from (bare all) (bare before ++ (s ∷ [])) j at is (bare ss)) =
    λ l j at is. subst (λ (r : List Statement). Alike (body_from all (before ++ (s ∷ [])) l at is ss) (body_from (bare all) r j at is (bare ss))) above (below l j at is)
    in
    subst (λ (r : List Statement). Alike (body_from all before line slot done (s ∷ ss)) (body_from (bare all) (bare before) k slot done r)) (sym whole)
    (subst (λ (found : Result (Option Insn) AsmFault). Alike (proceed line found (body_from all (before ++ (s ∷ [])) (line + 1) slot done ss) (λ i. body_from all (before ++ (s ∷ [])) (line + 1) (slot + slot_count i) (done ++ (i ∷ [])) ss)) (body_from (bare all) (bare before) k slot done (s ∷ bare ss))) (sym (line_bare all before slot s))
    (alike_proceed line k (line_at (bare all) (bare before) slot s) _ _ _ _ (next (line + 1) (k + 1) slot done) (λ i. next (line + 1) (k + 1) (slot + slot_count i) (done ++ (i ∷ [])))))

empty_bare : (all before ss : List Statement) → AlikeBelow all (before ++ (Empty ∷ [])) ss → AlikeBelow all before (Empty ∷ ss)
unfolding body_from
empty_bare all before ss below line k slot done =
    let above : bare (before ++ (Empty ∷ [])) ≡ bare before = bare_append before (Empty ∷ []) ∙ append-nil (bare before) in
    subst (λ (r : List Statement). Alike (body_from all (before ++ (Empty ∷ [])) (line + 1) slot done ss) (body_from (bare all) r k slot done (bare ss))) above (below (line + 1) k slot done)

body_bare : (all : List Statement) (ss before : List Statement) → AlikeBelow all before ss
unfolding body_from
body_bare all [] before line k slot done = refl
body_bare all (Empty ∷ ss) before line k slot done = empty_bare all before ss (body_bare all ss (before ++ (Empty ∷ []))) line k slot done
body_bare all (Label name ∷ ss) before line k slot done = one_bare all before (Label name) ss refl refl (body_bare all ss (before ++ (Label name ∷ []))) line k slot done
body_bare all (Rules rules ∷ ss) before line k slot done = one_bare all before (Rules rules) ss refl refl (body_bare all ss (before ++ (Rules rules ∷ []))) line k slot done
body_bare all (Directive header ∷ ss) before line k slot done = one_bare all before (Directive header) ss refl refl (body_bare all ss (before ++ (Directive header ∷ []))) line k slot done
body_bare all (Instruction d ∷ ss) before line k slot done = one_bare all before (Instruction d) ss refl refl (body_bare all ss (before ++ (Instruction d ∷ []))) line k slot done

any_bare : (ss : List Statement) → list_any is_instruction ss ≡ list_any is_instruction (bare ss)
any_bare [] = refl
any_bare (Empty ∷ ss) = any_bare ss
any_bare (Label name ∷ ss) = any_bare ss
any_bare (Rules rules ∷ ss) = any_bare ss
any_bare (Directive header ∷ ss) = any_bare ss
any_bare (Instruction d ∷ ss) = refl

has_bare : (ss : List Statement) → has_instruction ss ≡ has_instruction (bare ss)
has_bare ss = sym (any_counts is_instruction ss) ∙ any_bare ss ∙ any_counts is_instruction (bare ss)

before_bare : (ss : List Statement) → before_first is_directive (bare ss) ≡ bare (before_first is_directive ss)
before_bare [] = refl
before_bare (Empty ∷ ss) = before_bare ss ∙ ap bare (sym (before_other Empty ss refl))
before_bare (Label name ∷ ss) =
    before_other (Label name) (bare ss) refl ∙ ap (λ (r : List Statement). Label name ∷ r) (before_bare ss) ∙ ap bare (sym (before_other (Label name) ss refl))
before_bare (Rules rules ∷ ss) =
    before_other (Rules rules) (bare ss) refl ∙ ap (λ (r : List Statement). Rules rules ∷ r) (before_bare ss) ∙ ap bare (sym (before_other (Rules rules) ss refl))
before_bare (Directive header ∷ ss) = before_at is_directive [] (Directive header) (bare ss) tt refl ∙ ap bare (sym (before_at is_directive [] (Directive header) ss tt refl))
before_bare (Instruction d ∷ ss) =
    before_other (Instruction d) (bare ss) refl ∙ ap (λ (r : List Statement). Instruction d ∷ r) (before_bare ss) ∙ ap bare (sym (before_other (Instruction d) ss refl))

-- ---- a class's lines

alike_body : (h : MethodHeader) (r s : Result (List Insn) AsmError) → Alike r s → Alike (with_body h r) (with_body h s)
alike_body h (Ok a) (Ok b) e = ap (λ (is : List Insn). record { name = h.name; flags = h.flags; in_cap = h.in_cap; out_cap = h.out_cap; instructions = is; loops = None }) e
alike_body h (Ok a) (Err d) e = e
alike_body h (Err d) (Ok b) e = e
alike_body h (Err d) (Err f) e = tt

alike_unless : (o : Option AsmFault) (line k : ℕ) (r s : Result ClassMethod AsmError) → Alike r s → Alike (unless_fault o line r) (unless_fault o k s)
alike_unless None line k r s e = e
alike_unless (Some fault) line k r s e = tt

method_bare : (rules : RuleSet) (done : List ClassMethod) (line k : ℕ) (h : Result MethodHeader AsmFault) (ss : List Statement) → Alike (method_at rules done line h ss) (method_at rules done k h (bare ss))
method_bare rules done line k (Err fault) ss = tt
method_bare rules done line k (Ok h) ss =
    subst (λ (b : Bool). Alike (method_at rules done line (Ok h) ss) (unless_fault (opening_fault rules done (not b) h) k (with_body h (body (k + 1) (bare ss))))) (has_bare ss)
    (alike_unless (opening_fault rules done (not (has_instruction ss)) h) line k (with_body h (body (line + 1) ss)) (with_body h (body (k + 1) (bare ss))) (alike_body h (body (line + 1) ss) (body (k + 1) (bare ss)) (body_bare ss ss [] (line + 1) (k + 1) 0 [])))

alike_next : (r s : Result ClassMethod AsmError) (f g : ClassMethod → Result (List ClassMethod) AsmError) → Alike r s → ((m : ClassMethod) → Alike (f m) (g m)) → Alike (next_method r f) (next_method s g)
alike_next (Ok a) (Ok b) f g e many = subst (λ (m : ClassMethod). Alike (f a) (g m)) e (many a)
alike_next (Ok a) (Err d) f g e many = absurd e
alike_next (Err d) (Ok b) f g e many = absurd e
alike_next (Err d) (Err h) f g e many = tt

alike_cond : {A : Type 0} (b : Bool) (e d : AsmError) (r s : Result A AsmError) → Alike r s → Alike (cond b (Err e) r) (cond b (Err d) s)
alike_cond true e d r s h = tt
alike_cond false e d r s h = h

-- where nothing stood above, both refuse
alike_end : (b : Bool) (e : AsmError) (done : List ClassMethod) → Alike {A = List ClassMethod} (cond b (Err e) (Ok done)) (cond b (Err e) (Ok done))
alike_end true e done = tt
alike_end false e done = refl

class_bare : (rules : RuleSet) (ss : List Statement) (done : List ClassMethod) (line k : ℕ) → Alike (class_from rules done line ss) (class_from rules done k (bare ss))
unfolding class_from
class_bare rules [] done line k = alike_end (length done == 0) _ done
class_bare rules (Empty ∷ ss) done line k = class_bare rules ss done (line + 1) k
class_bare rules (Label name ∷ ss) done line k = alike_cond (length done == 0) _ _ _ _ (class_bare rules ss done (line + 1) (k + 1))
class_bare rules (Rules other ∷ ss) done line k = alike_cond (length done == 0) _ _ _ _ (class_bare rules ss done (line + 1) (k + 1))
class_bare rules (Instruction d ∷ ss) done line k = alike_cond (length done == 0) _ _ _ _ (class_bare rules ss done (line + 1) (k + 1))
class_bare rules (Directive h ∷ ss) done line k =
    subst (λ (lines : List Statement). Alike (class_from rules done line (Directive h ∷ ss)) (next_method (method_at rules done k h lines) (λ m. class_from rules (done ++ (m ∷ [])) (k + 1) (bare ss)))) (sym (before_bare ss))
    (alike_next (method_at rules done line h (before_first is_directive ss)) (method_at rules done k h (bare (before_first is_directive ss))) _ _ (method_bare rules done line k h (before_first is_directive ss)) (λ m. class_bare rules ss (done ++ (m ∷ [])) (line + 1) (k + 1)))

alike_rules : (rules : RuleSet) (r s : Result (List ClassMethod) AsmError) → Alike r s → Alike (with_rules rules r) (with_rules rules s)
alike_rules rules (Ok a) (Ok b) e = ap (λ (ms : List ClassMethod). record { rules = rules; methods = ms }) e
alike_rules rules (Ok a) (Err d) e = e
alike_rules rules (Err d) (Ok b) e = e
alike_rules rules (Err d) (Err f) e = tt

ruled_bare : (ss : List Statement) (line k : ℕ) → Alike (ruled_from line ss) (ruled_from k (bare ss))
unfolding ruled_from
ruled_bare [] line k = alike_rules One _ _ (class_bare One [] [] line k)
ruled_bare (Empty ∷ ss) line k = ruled_bare ss (line + 1) k
ruled_bare (Label name ∷ ss) line k = alike_rules One _ _ (class_bare One (Label name ∷ ss) [] line k)
ruled_bare (Rules (Ok rules) ∷ ss) line k = alike_rules rules _ _ (class_bare rules ss [] (line + 1) (k + 1))
ruled_bare (Rules (Err fault) ∷ ss) line k = tt
ruled_bare (Directive h ∷ ss) line k = alike_rules One _ _ (class_bare One (Directive h ∷ ss) [] line k)
ruled_bare (Instruction d ∷ ss) line k = alike_rules One _ _ (class_bare One (Instruction d ∷ ss) [] line k)

alike_has : (b : Bool) (e d : AsmError) (r s : Result Class AsmError) → Alike r s → Alike (cond b r (Err e)) (cond b s (Err d))
alike_has true e d r s h = h
alike_has false e d r s h = tt

assembled_bare : (ss : List Statement) → Alike (class_assembled ss) (class_assembled (bare ss))
assembled_bare ss =
    subst (λ (b : Bool). Alike (class_assembled ss) (cond b (ruled_from 1 (bare ss)) (Err (record { line = 1; fault = bare_class_fault (bare ss) })))) (has_bare ss)
    (alike_has (has_instruction ss) _ _ (ruled_from 1 ss) (ruled_from 1 (bare ss)) (ruled_bare ss 1 1))

-- lines that say the same but for empty ones are read as the same class
pub same_class : (a b : List Statement) (c : Class) → bare a ≡ bare b → class_assembled a ≡ Ok c → class_assembled b ≡ Ok c
same_class a b c e r =
    let read = given c (class_assembled a) (class_assembled (bare a)) (assembled_bare a) r in
    taken c (class_assembled b) (class_assembled (bare b)) (assembled_bare b) (ap class_assembled (sym e) ∙ read)
