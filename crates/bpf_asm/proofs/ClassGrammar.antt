-- What is read as a class is in the grammar, and what is in the grammar is read.
use Rattle.std.proofs.Common.{◌≡◌, ◌⊎◌, inl, inr, IfOk, IfErr, ℕ, suc, ◌==◌, ◌||◌, ◌+◌, ◌≤◌, ◌<◌, not, Bool, true, false, List, [], ◌∷◌, ◌++◌, length, cond, Option, Some, None, Result, Ok, Err, refl, sym, ap, ◌∙◌, arith, append_assoc, nat_le, count_by, subst, take, drop}
use Rattle.std.proofs.lemmas.List.Sums.{sum_by-append}
use Rattle.bpf_asm.proofs.BodyTexts.{some_instruction}
use Rattle.std.specs.List.{before_first, position_or_len}
use Rattle.std.proofs.lemmas.Bool.Decides.{nat_tests}
use Rattle.std.proofs.lemmas.List.{append-nil, length-append, take-append-drop}
use Rattle.bpf_decode.specs.declared.insn.Insn.{Insn}
use Rattle.bpf_decode.specs.declared.rule_set.RuleSet.{RuleSet}
use Rattle.bpf_decode.specs.declared.rule_set.RuleSet.TheVariants.{One, Two, Three}
use Rattle.loop_heads.specs.Loops.{PlainLoops}
use Rattle.bpf_decode.specs.Class.{ClassMethod, Class, MayLoop, IsWithinSet, AreWithinSet}
use Rattle.bpf_decode.specs.ImageReading.{is_above}
use Rattle.asm_lines.specs.declared.fault.AsmFault.{AsmFault}
use Rattle.asm_lines.specs.declared.fault.AsmFault.TheVariants as faults
use Rattle.asm_lines.specs.declared.fault.AsmError.{AsmError}
use Rattle.asm_lines.specs.declared.statement.Statement.{Statement}
use Rattle.asm_lines.specs.declared.statement.Statement.TheVariants.{Empty, Label, Rules, Directive, Instruction}
use Rattle.asm_lines.specs.Headers.{MethodHeader}
use Rattle.asm_lines.specs.Statements.{statements_of}
use Rattle.bpf_asm.specs.Bodies.{body, is_instruction, has_instruction}
use Rattle.bpf_asm.specs.Classes.{is_directive, last_name, is_within_set, opening_fault, method_with, with_body, unless_fault, method_at, next_method, class_from, with_rules, ruled_from, bare_class_fault, read_class_text}
use Rattle.asm_lines.specs.Fault.{no_memory}
use Rattle.asm_lines.specs.Canonical.{class_text}
use Rattle.bpf_asm.specs.Laws.{ClassTextsAreInGrammar}
use Rattle.bpf_asm.specs.Grammar.{AreMethodLines, BeginsWithMethod, BeginsWith, SayMethods, NamesAbove, AreClassLines, IsClassText}
use Rattle.bpf_asm.proofs.StatementRelations.{text_says, says_text}
use Rattle.bpf_asm.proofs.ClassLemmas.{within_test, test_within}
use Rattle.bpf_asm.proofs.ClassTexts.{class_texts_give_back}
use Rattle.bpf_asm.proofs.GrammarLemmas.{lines_read, read_lines, lines_have}
use Rattle.bpf_decode.specs.declared.limits.TheConstants.{METHOD_LIMIT}

-- after a method anything may stand, before the first nothing
abbrev Begun : List ClassMethod → List Statement → Type 0
Begun [] ss = BeginsWithMethod ss
Begun (d ∷ ds) ss = Unit {0}

begun_push : (done : List ClassMethod) (m : ClassMethod) (ss : List Statement) → Begun (done ++ (m ∷ [])) ss
begun_push [] m ss = tt
begun_push (d ∷ ds) m ss = tt

begun_end : (done : List ClassMethod) → Begun done []
begun_end [] = tt
begun_end (d ∷ ds) = tt

begun_at : (done : List ClassMethod) (h : Result MethodHeader AsmFault) (ss : List Statement) → Begun done (Directive h ∷ ss)
begun_at [] h ss = tt
begun_at (d ∷ ds) h ss = tt

pub last_push : (before : List ℕ) (ms : List ClassMethod) (m : ClassMethod) → last_name before (ms ++ (m ∷ [])) ≡ m.name
last_push before [] m = refl
last_push before (x ∷ xs) m = last_push x.name xs m

pub some_methods : (d : ClassMethod) (ds : List ClassMethod) → (length (d ∷ ds) == 0) ≡ false
some_methods d ds = grind (arith, nat_tests)

-- ---- what is in the grammar is read

opens : (rules : RuleSet) (done : List ClassMethod) (line : ℕ) (h : MethodHeader) (m : ClassMethod) (lines : List Statement) → length done < METHOD_LIMIT → IsWithinSet rules m → is_above (last_name [] done) m.name ≡ true → m ≡ method_with h m.instructions → AreMethodLines lines m.instructions → method_at rules done line (Ok h) lines ≡ Ok m
opens rules done line h m lines room within above head r =
    let test : nat_le METHOD_LIMIT (length done) ≡ false = grind (arith, nat_tests) in
    let name : m.name ≡ h.name = ap (λ (x : ClassMethod). x.name) head in
    let above_header : is_above (last_name [] done) h.name ≡ true = ap (is_above (last_name [] done)) (sym name) ∙ above in
    let read : m.in_cap ≡ h.in_cap = ap (λ (x : ClassMethod). x.in_cap) head in
    let written : m.out_cap ≡ h.out_cap = ap (λ (x : ClassMethod). x.out_cap) head in
    let small : is_within_set rules h ≡ true = within_test rules h (omega (arith, within.in_cap, read)) (omega (arith, within.out_cap, written)) in
    rw (test, lines_have lines m.instructions r, small, above_header, lines_read (line + 1) lines m.instructions r) (ap (λ x. Ok x) (sym head))

class_reads : (rules : RuleSet) (done ms : List ClassMethod) (ss : List Statement) (line : ℕ) → SayMethods ss ms → Begun done ss → NamesAbove (last_name [] done) ms → AreWithinSet rules ms → length done + length ms ≤ METHOD_LIMIT → 1 ≤ length done + length ms → class_from rules done line ss ≡ Ok (done ++ ms)
unfolding class_from
class_reads rules done [] [] line s b n w few some =
    let test : (length done == 0) ≡ false = grind (arith, nat_tests) in
    rw test (ap (λ r. Ok r) (sym (append-nil done)))
class_reads rules done (m ∷ ms) [] line s b n w few some = absurd s
class_reads rules [] ms (Empty ∷ ss) line s b n w few some = class_reads rules [] ms ss (line + 1) s b n w few some
class_reads rules (d ∷ ds) ms (Empty ∷ ss) line s b n w few some = class_reads rules (d ∷ ds) ms ss (line + 1) s tt n w few some
class_reads rules [] ms (Label name ∷ ss) line s b n w few some = absurd b
class_reads rules (d ∷ ds) ms (Label name ∷ ss) line s b n w few some = rw (some_methods d ds) (class_reads rules (d ∷ ds) ms ss (line + 1) s tt n w few some)
class_reads rules [] ms (Rules r ∷ ss) line s b n w few some = absurd b
class_reads rules (d ∷ ds) ms (Rules r ∷ ss) line s b n w few some = rw (some_methods d ds) (class_reads rules (d ∷ ds) ms ss (line + 1) s tt n w few some)
class_reads rules [] ms (Instruction i ∷ ss) line s b n w few some = absurd b
class_reads rules (d ∷ ds) ms (Instruction i ∷ ss) line s b n w few some = rw (some_methods d ds) (class_reads rules (d ∷ ds) ms ss (line + 1) s tt n w few some)
class_reads rules done [] (Directive h ∷ ss) line s b n w few some = absurd s
class_reads rules done (m ∷ ms) (Directive (Err f) ∷ ss) line s b n w few some = absurd s.0
class_reads rules done (m ∷ ms) (Directive (Ok h) ∷ ss) line s b n w few some =
    let pushed = length-append done (m ∷ []) in
    let next : NamesAbove (last_name [] (done ++ (m ∷ []))) ms = rw (last_push [] done m) n.1 in
    rw (opens rules done line h m (before_first is_directive ss) (omega arith) w.0 n.0 s.0 s.1)
    (class_reads rules (done ++ (m ∷ [])) ms ss (line + 1) s.2 (begun_push done m ss) next w.1 (omega arith) (omega arith) ∙ ap (λ r. Ok r) (append_assoc done (m ∷ []) ms))

abbrev class_with : RuleSet → List ClassMethod → Class
class_with rules ms = record { rules = rules; methods = ms }

-- what is within a rule set is within an equal one
within_same : (a b : RuleSet) (ms : List ClassMethod) → a ≡ b → AreWithinSet a ms → AreWithinSet b ms
within_same a b ms same w = subst (λ (r : RuleSet). AreWithinSet r ms) same w

ruled_reads : (rules : RuleSet) (ms : List ClassMethod) (ss : List Statement) (line : ℕ) → BeginsWith rules ss → SayMethods ss ms → NamesAbove [] ms → AreWithinSet rules ms → 1 ≤ length ms → length ms ≤ METHOD_LIMIT → ruled_from line ss ≡ Ok (class_with rules ms)
unfolding ruled_from
ruled_reads rules ms [] line b s n w some few = rw (b, class_reads One [] ms [] line s tt n (within_same rules One ms b w) (omega arith) (omega arith)) refl
ruled_reads rules ms (Empty ∷ ss) line b s n w some few = ruled_reads rules ms ss (line + 1) b s n w some few
ruled_reads rules ms (Label name ∷ ss) line b s n w some few = absurd b
ruled_reads rules ms (Rules (Ok set) ∷ ss) line b s n w some few = rw (b.0, class_reads rules [] ms ss (line + 1) s b.1 n w (omega arith) (omega arith)) refl
ruled_reads rules ms (Rules (Err f) ∷ ss) line b s n w some few = absurd b
ruled_reads rules ms (Directive h ∷ ss) line b s n w some few = rw (b, class_reads One [] ms (Directive h ∷ ss) line s tt n (within_same rules One ms b w) (omega arith) (omega arith)) refl
ruled_reads rules ms (Instruction i ∷ ss) line b s n w some few = absurd b

-- ---- what is read is in the grammar

record IsRead (rules : RuleSet) (done : List ClassMethod) (ss : List Statement) (r : List ClassMethod) : Type 0 where
  methods : List ClassMethod
  whole : r ≡ done ++ methods
  says : SayMethods ss methods
  begins : Begun done ss
  names : NamesAbove (last_name [] done) methods
  within : AreWithinSet rules methods
  limit : length done + length methods ≤ METHOD_LIMIT
  some : 1 ≤ length done + length methods

record IsOpened (rules : RuleSet) (done : List ClassMethod) (h : MethodHeader) (lines : List Statement) (m : ClassMethod) : Type 0 where
  head : m ≡ method_with h m.instructions
  lines_are : AreMethodLines lines m.instructions
  above : is_above (last_name [] done) m.name ≡ true
  within : IsWithinSet rules m
  room : length done < METHOD_LIMIT

fault_none : (full bare fits above : Bool) → cond (full || not bare || not fits) (Some faults.Range) (cond above None (Some faults.Label)) ≡ None → (full ≡ false) × (bare ≡ true) × (above ≡ true) × (fits ≡ true)
fault_none true bare fits above h = absurd cc
fault_none false false fits above h = absurd cc
fault_none false true false above h = absurd cc
fault_none false true true false h = absurd cc
fault_none false true true true h = (refl, refl, refl, refl)

unfaulted : (o : Option AsmFault) (line : ℕ) (b : Result ClassMethod AsmError) (m : ClassMethod) → unless_fault o line b ≡ Ok m → (o ≡ None) × (b ≡ Ok m)
unfaulted None line b m h = (refl, h)
unfaulted (Some f) line b m h = absurd cc

bodied : (h : MethodHeader) (b : Result (List Insn) AsmError) (m : ClassMethod) → with_body h b ≡ Ok m → (b ≡ Ok m.instructions) × (m ≡ method_with h m.instructions)
bodied h (Err e) m k = absurd cc
bodied h (Ok is) m k =
    let same : method_with h is ≡ m = cc in
    let insns : is ≡ m.instructions = ap (λ (x : ClassMethod). x.instructions) same in
    (ap (λ x. Ok x) insns, sym same ∙ ap (method_with h) insns)

none_may : (rules : RuleSet) (o : Option PlainLoops) → o ≡ None → MayLoop rules o
none_may One o e = e
none_may Two o e = e
none_may Three o e = tt

opened : (rules : RuleSet) (done : List ClassMethod) (line : ℕ) (h : MethodHeader) (lines : List Statement) (m : ClassMethod) → method_at rules done line (Ok h) lines ≡ Ok m → IsOpened rules done h lines m
opened rules done line h lines m k =
    let a = unfaulted (opening_fault rules done (not (has_instruction lines)) h) line (with_body h (body (line + 1) lines)) m k in
    let t = fault_none (nat_le METHOD_LIMIT (length done)) (has_instruction lines) (is_within_set rules h) (is_above (last_name [] done) h.name) a.0 in
    let b = bodied h (body (line + 1) lines) m a.1 in
    let full = t.0 in
    let name : m.name ≡ h.name = ap (λ (x : ClassMethod). x.name) b.1 in
    let read : m.in_cap ≡ h.in_cap = ap (λ (x : ClassMethod). x.in_cap) b.1 in
    let written : m.out_cap ≡ h.out_cap = ap (λ (x : ClassMethod). x.out_cap) b.1 in
    let small = test_within rules h t.3 in
    let within : IsWithinSet rules m = record { in_cap = omega (arith, small.0, read); out_cap = omega (arith, small.1, written); loops = none_may rules m.loops (ap (λ (x : ClassMethod). x.loops) b.1) } in
    record { head = b.1; lines_are = read_lines (line + 1) lines m.instructions t.1 b.0; above = ap (is_above (last_name [] done)) name ∙ t.2; within = within; room = grind (arith, nat_tests) }

next_read : (r : Result ClassMethod AsmError) (f : ClassMethod → Result (List ClassMethod) AsmError) (all : List ClassMethod) → next_method r f ≡ Ok all → (m : ClassMethod) × ((r ≡ Ok m) × (f m ≡ Ok all))
next_read (Ok m) f all h = (m, (refl, h))
next_read (Err e) f all h = absurd cc

ended : (done r : List ClassMethod) (b : Bool) (e : AsmError) → b ≡ (length done == 0) → cond b (Err e) (Ok done) ≡ Ok r → (done ≡ r) × (1 ≤ length done)
ended done r true e t h = absurd cc
ended done r false e t h = let same : done ≡ r = cc in (same, grind (arith, nat_tests))

was_class : (rules : RuleSet) (done : List ClassMethod) (line : ℕ) (ss : List Statement) (r : List ClassMethod) → length done ≤ METHOD_LIMIT → class_from rules done line ss ≡ Ok r → IsRead rules done ss r
unfolding class_from
was_class rules done line [] r few h =
    let e = ended done r (length done == 0) (record { line = 1; fault = faults.Range }) refl h in
    record { methods = []; whole = sym e.0 ∙ sym (append-nil done); says = tt; begins = begun_end done; names = tt; within = tt; limit = omega arith; some = omega (arith, e.1) }
was_class rules [] line (Empty ∷ ss) r few h =
    let rest = was_class rules [] (line + 1) ss r few h in
    record { methods = rest.methods; whole = rest.whole; says = rest.says; begins = rest.begins; names = rest.names; within = rest.within; limit = rest.limit; some = rest.some }
was_class rules (d ∷ ds) line (Empty ∷ ss) r few h =
    let rest = was_class rules (d ∷ ds) (line + 1) ss r few h in
    record { methods = rest.methods; whole = rest.whole; says = rest.says; begins = tt; names = rest.names; within = rest.within; limit = rest.limit; some = rest.some }
was_class rules [] line (Label name ∷ ss) r few h = absurd cc
was_class rules (d ∷ ds) line (Label name ∷ ss) r few h =
    let rest = was_class rules (d ∷ ds) (line + 1) ss r few (rw (some_methods d ds) at h) in
    record { methods = rest.methods; whole = rest.whole; says = rest.says; begins = tt; names = rest.names; within = rest.within; limit = rest.limit; some = rest.some }
was_class rules [] line (Rules set ∷ ss) r few h = absurd cc
was_class rules (d ∷ ds) line (Rules set ∷ ss) r few h =
    let rest = was_class rules (d ∷ ds) (line + 1) ss r few (rw (some_methods d ds) at h) in
    record { methods = rest.methods; whole = rest.whole; says = rest.says; begins = tt; names = rest.names; within = rest.within; limit = rest.limit; some = rest.some }
was_class rules [] line (Instruction i ∷ ss) r few h = absurd cc
was_class rules (d ∷ ds) line (Instruction i ∷ ss) r few h =
    let rest = was_class rules (d ∷ ds) (line + 1) ss r few (rw (some_methods d ds) at h) in
    record { methods = rest.methods; whole = rest.whole; says = rest.says; begins = tt; names = rest.names; within = rest.within; limit = rest.limit; some = rest.some }
was_class rules done line (Directive (Err f) ∷ ss) r few h = absurd cc
was_class rules done line (Directive (Ok k) ∷ ss) r few h =
    let lines = before_first is_directive ss in
    let n = next_read (method_at rules done line (Ok k) lines) (λ m. class_from rules (done ++ (m ∷ [])) (line + 1) ss) r h in
    let m = n.0 in
    let o = opened rules done line k lines m n.1.0 in
    let room = o.room in
    let pushed = length-append done (m ∷ []) in
    let rest = was_class rules (done ++ (m ∷ [])) (line + 1) ss r (omega arith) n.1.1 in
    record {
      methods = m ∷ rest.methods;
      whole = rest.whole ∙ append_assoc done (m ∷ []) rest.methods;
      says = (o.head, o.lines_are, rest.says);
      begins = begun_at done (Ok k) ss;
      names = (o.above, rw (last_push [] done m) at rest.names);
      within = (o.within, rest.within);
      limit = omega (arith, rest.limit);
      some = omega arith;
    }

-- with a rule set
read_with : (rules : RuleSet) (r : Result (List ClassMethod) AsmError) (c : Class) → with_rules rules r ≡ Ok c → (r ≡ Ok c.methods) × (rules ≡ c.rules)
read_with rules (Err e) c h = absurd cc
read_with rules (Ok ms) c h =
    let same : class_with rules ms ≡ c = cc in
    (ap (λ (x : Class). Ok x.methods) same, ap (λ (x : Class). x.rules) same)

-- what class_from reads after the rule set
behind : (rules : RuleSet) (c : Class) (line : ℕ) (ss all : List Statement) → rules ≡ c.rules → class_from rules [] line ss ≡ Ok c.methods → (SayMethods ss c.methods → SayMethods all c.methods) → (BeginsWithMethod ss → BeginsWith c.rules all) → AreClassLines all c
behind rules c line ss all same h says begins =
    let w = was_class rules [] line ss c.methods (omega arith) h in
    let P : List ClassMethod → Type 0 = λ v. SayMethods ss v × NamesAbove [] v × (1 ≤ length v) × (length v ≤ METHOD_LIMIT) × AreWithinSet rules v in
    let read = subst P (sym w.whole) (w.says, w.names, omega (arith, w.some), omega (arith, w.limit), w.within) in
    record { begins = begins w.begins; methods = says read.0; within = within_same rules c.rules c.methods same read.4; names = read.1; some = read.2; limit = read.3 }

was_ruled : (line : ℕ) (ss : List Statement) (c : Class) → ruled_from line ss ≡ Ok c → AreClassLines ss c
unfolding ruled_from
was_ruled line [] c h = let r = read_with One (class_from One [] line []) c h in behind One c line [] [] r.1 r.0 (λ s. s) (λ b. sym r.1)
was_ruled line (Empty ∷ ss) c h =
    let rest = was_ruled (line + 1) ss c h in
    record { begins = rest.begins; methods = rest.methods; within = rest.within; names = rest.names; some = rest.some; limit = rest.limit }
was_ruled line (Label name ∷ ss) c h = let r = read_with One (class_from One [] line (Label name ∷ ss)) c h in behind One c line (Label name ∷ ss) (Label name ∷ ss) r.1 r.0 (λ s. s) (λ b. absurd b)
was_ruled line (Rules (Ok set) ∷ ss) c h = let r = read_with set (class_from set [] (line + 1) ss) c h in behind set c (line + 1) ss (Rules (Ok set) ∷ ss) r.1 r.0 (λ s. s) (λ b. (r.1, b))
was_ruled line (Rules (Err f) ∷ ss) c h = absurd cc
was_ruled line (Directive d ∷ ss) c h = let r = read_with One (class_from One [] line (Directive d ∷ ss)) c h in behind One c line (Directive d ∷ ss) (Directive d ∷ ss) r.1 r.0 (λ s. s) (λ b. sym r.1)
was_ruled line (Instruction i ∷ ss) c h = let r = read_with One (class_from One [] line (Instruction i ∷ ss)) c h in behind One c line (Instruction i ∷ ss) (Instruction i ∷ ss) r.1 r.0 (λ s. s) (λ b. absurd b)

-- ---- both ways

if_then : (b : Bool) (x : Result Class AsmError) (e : AsmError) (c : Class) → cond b x (Err e) ≡ Ok c → (b ≡ true) × (x ≡ Ok c)
if_then true x e c h = (refl, h)
if_then false x e c h = absurd cc

pub before_other : (s : Statement) (ss : List Statement) → is_directive s ≡ false → before_first is_directive (s ∷ ss) ≡ s ∷ before_first is_directive ss
before_other s ss h =
    let next : 1 + position_or_len is_directive ss ≡ suc (position_or_len is_directive ss) = omega arith in
    rw (h, next) refl

pub read_is_class_text : (text : List ℕ) (c : Class) → read_class_text text ≡ Ok c → IsClassText text c
unfolding read_class_text
read_is_class_text text c h =
    let ss = statements_of text in
    let p = if_then (has_instruction ss) (ruled_from 1 ss) (record { line = 1; fault = bare_class_fault ss }) c h in
    record { lines = ss; say = text_says text; class = was_ruled 1 ss c p.1 }

prefix_has : (n : ℕ) (xs : List Statement) → has_instruction (take n xs) ≡ true → has_instruction xs ≡ true
prefix_has n xs h =
    let parts = sum_by-append (λ y. cond (is_instruction y) 1 0) (take n xs) (drop n xs) in
    let whole : count_by is_instruction xs ≡ count_by is_instruction (take n xs ++ drop n xs) = ap (count_by is_instruction) (sym (take-append-drop n xs)) in
    let few : 1 ≤ count_by is_instruction (take n xs) = grind (arith, nat_tests) in
    let many : 1 ≤ count_by is_instruction xs = omega (arith, parts, whole) in
    grind (arith, nat_tests)

says_have : (ss : List Statement) (ms : List ClassMethod) → SayMethods ss ms → 1 ≤ length ms → has_instruction ss ≡ true
says_have [] [] s n = absurd (omega arith)
says_have [] (m ∷ ms) s n = absurd s
says_have (Empty ∷ ss) ms s n = says_have ss ms s n
says_have (Label name ∷ ss) ms s n = says_have ss ms s n
says_have (Rules r ∷ ss) ms s n = says_have ss ms s n
says_have (Instruction i ∷ ss) ms s n = some_instruction i ss
says_have (Directive h ∷ ss) [] s n = absurd s
says_have (Directive h ∷ ss) (m ∷ ms) s n = prefix_has _ ss (lines_have (before_first is_directive ss) m.instructions s.1)

pub class_text_is_read : (text : List ℕ) (c : Class) → IsClassText text c → read_class_text text ≡ Ok c
unfolding read_class_text
class_text_is_read text c h =
    let l = h.class in
    rw (says_text text h.lines h.say, says_have h.lines c.methods l.methods l.some) (ruled_reads c.rules c.methods h.lines 1 l.begins l.methods l.names l.within l.some l.limit)

-- a text that is refused is none of the grammar
refused_is_no_class : (text : List ℕ) (e : AsmError) (c : Class) → read_class_text text ≡ Err e → IsClassText text c → ⊥
refused_is_no_class text e c h t = let read = class_text_is_read text c t in absurd cc

pub no_class_if_refused : {V : Type 0} (r : Result V AsmError) (text : List ℕ) → IfErr r (λ e. (e ≡ no_memory) ⊎ (read_class_text text ≡ Err e)) → IfErr r (λ e. (e ≡ no_memory) ⊎ ((c : Class) → ¬ IsClassText text c))
no_class_if_refused (Ok v) text h = tt
no_class_if_refused (Err e) text (inl h) = inl h
no_class_if_refused (Err e) text (inr h) = inr (λ c t. refused_is_no_class text e c h t)

-- a text is of one class alone
one_class_reading : (text : List ℕ) (c d : Class) → read_class_text text ≡ Ok c → IsClassText text d → d ≡ c
one_class_reading text c d h t = let read = class_text_is_read text d t in cc

pub one_class_if_read : (r : Result Class AsmError) (text : List ℕ) → IfOk r (λ c. read_class_text text ≡ Ok c) → IfOk r (λ c. (d : Class) → IsClassText text d → d ≡ c)
one_class_if_read (Err e) text h = tt
one_class_if_read (Ok c) text h = λ d t. one_class_reading text c d h t

-- and what is read is in the grammar
pub class_text_if_read : (r : Result Class AsmError) (text : List ℕ) → IfOk r (λ c. read_class_text text ≡ Ok c) → IfOk r (λ c. IsClassText text c)
class_text_if_read (Err e) text h = tt
class_text_if_read (Ok v) text h = read_is_class_text text v h

-- the canonical text of a class is in the grammar
pub class_texts_in_grammar : ClassTextsAreInGrammar
class_texts_in_grammar c h w none = read_is_class_text (class_text c) c (class_texts_give_back c h w none)
