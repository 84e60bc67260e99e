-- The heads of a class's text stand at instructions of their methods.
use Rattle.std.proofs.Common.{◌≡◌, ℕ, ◌+◌, ◌==◌, Bool, true, false, ◌&&◌, not, cond, List, [], ◌∷◌, ◌++◌, length, map, Option, Some, None, Result, Ok, Err, refl, ap, sym, subst, ◌∙◌, arith, nat_lt}
use Rattle.std.specs.Prelude.{IfOk}
use Rattle.std.specs.List.{before_first}
use Rattle.std.proofs.lemmas.Bool.{cond-false}
use Rattle.bpf_decode.specs.declared.insn.Insn.{Insn}
use Rattle.bpf_decode.specs.declared.rule_set.RuleSet.{RuleSet}
use Rattle.bpf_decode.specs.declared.rule_set.RuleSet.TheVariants.{One}
use Rattle.bpf_decode.specs.Class.{ClassMethod, Class}
use Rattle.asm_lines.specs.declared.fault.AsmFault.{AsmFault}
use Rattle.asm_lines.specs.declared.fault.AsmError.{AsmError}
use Rattle.asm_lines.specs.declared.statement.Statement.{Statement}
use Rattle.asm_lines.specs.declared.statement.Statement.TheVariants.{Empty, Label, Rules, Directive, Instruction}
use Rattle.asm_lines.specs.Headers.{MethodHeader}
use Rattle.asm_lines.specs.Texts.{content}
use Rattle.asm_lines.specs.Statements.{statement_of, lines_of}
use Rattle.bpf_asm.specs.Bodies.{body, body_from, has_instruction}
use Rattle.bpf_asm.specs.Classes.{is_directive, opening_fault, with_body, unless_fault, method_at, next_method, class_from, with_rules, ruled_from, bare_class_fault, class_assembled}
use Rattle.loop_heads.specs.Loops.{PlainLoops}
use Rattle.loop_asm.specs.Reading.{is_loop_line, other, is_method, method_loops, next_loops, loops_from, is_of_three, Looped, first_of, without_loops, read_looped_text}
use Rattle.loop_asm.specs.Answers.{Gives}
use Rattle.loop_asm.specs.Starts.{StandAt, AreAtInstructions}
use Rattle.loop_asm.proofs.Lines.{before_seen}
use Rattle.loop_asm.proofs.Methods.{at_method}
use Rattle.loop_asm.proofs.Starts.{method_stands}

-- ---- one method

stand_push : (ms : List ClassMethod) (ls : List (Option PlainLoops)) (m : ClassMethod) (l : Option PlainLoops) → AreAtInstructions ms ls → StandAt m.instructions l → AreAtInstructions (ms ++ (m ∷ [])) (ls ++ (l ∷ []))
stand_push [] [] m l a s = (s, tt)
stand_push [] (k ∷ ks) m l a s = absurd a
stand_push (n ∷ ns) [] m l a s = absurd a
stand_push (n ∷ ns) (k ∷ ks) m l a s = (a.0, stand_push ns ks m l a.1 s)

body_had : (fault : Option AsmFault) (line : ℕ) (h : MethodHeader) (r : Result (List Insn) AsmError) (m : ClassMethod) → unless_fault fault line (with_body h r) ≡ Ok m → r ≡ Ok m.instructions
body_had (Some fault) line h r m e = absurd cc
body_had None line h (Err d) m e = absurd cc
body_had None line h (Ok is) m e =
    let same : record { name = h.name; flags = h.flags; in_cap = h.in_cap; out_cap = h.out_cap; instructions = is; loops = None } ≡ m = cc in
    ap (λ (n : ClassMethod). Ok n.instructions) same

method_had : (rules : RuleSet) (done : List ClassMethod) (line : ℕ) (header : Result MethodHeader AsmFault) (lines : List Statement) (m : ClassMethod) → method_at rules done line header lines ≡ Ok m → body (line + 1) lines ≡ Ok m.instructions
method_had rules done line (Err fault) lines m e = absurd cc
method_had rules done line (Ok h) lines m e = body_had (opening_fault rules done (not (has_instruction lines)) h) line h (body (line + 1) lines) m e

next_had : (r : Result ClassMethod AsmError) (f : ClassMethod → Result (List ClassMethod) AsmError) (ms : List ClassMethod) (P : Type 0) → ((m : ClassMethod) → r ≡ Ok m → f m ≡ Ok ms → P) → next_method r f ≡ Ok ms → P
next_had (Ok m) f ms P k e = k m refl e
next_had (Err d) f ms P k e = absurd cc

loops_had : (r : Result (Option PlainLoops) AsmError) (f : Option PlainLoops → Result (List (Option PlainLoops)) AsmError) (ls : List (Option PlainLoops)) (P : Type 0) → ((l : Option PlainLoops) → r ≡ Ok l → f l ≡ Ok ls → P) → next_loops r f ≡ Ok ls → P
loops_had (Ok l) f ls P k e = k l refl e
loops_had (Err d) f ls P k e = absurd cc

-- the loops of a method are of its instructions
method_alike : (rules : RuleSet) (done : List ClassMethod) (count line : ℕ) (header : Result MethodHeader AsmFault) (rest : List (List ℕ)) (m : ClassMethod) (l : Option PlainLoops) → method_at rules done count header (before_first is_directive (map other rest)) ≡ Ok m → method_loops line (before_first is_method rest) ≡ Ok l → StandAt m.instructions l
method_alike rules done count line header rest m l read loops =
    let lines = before_first is_directive (map other rest) in
    let same : lines ≡ map other (before_first is_method rest) = before_seen is_directive other rest in
    let is_body : body_from lines [] (count + 1) 0 [] lines ≡ Ok m.instructions = method_had rules done count header lines m read in
    method_stands lines [] (count + 1) 0 m.instructions line l (before_first is_method rest) (sym (ap (λ (ss : List Statement). body_from lines [] (count + 1) 0 [] ss) same) ∙ is_body) loops

-- ---- methods

passed : {A : Type 0} (b : Bool) (d : AsmError) (r : Result A AsmError) (x : A) → cond b (Err d) r ≡ Ok x → r ≡ Ok x
passed true d r x e = absurd cc
passed false d r x e = e

-- a line that begins no method is passed over
passed_over : (ls : List (Option PlainLoops)) (line : ℕ) (t : List ℕ) (ts : List (List ℕ)) (all : List (Option PlainLoops)) → is_method t ≡ false → loops_from ls line (t ∷ ts) ≡ Ok all → loops_from ls (line + 1) ts ≡ Ok all
unfolding loops_from
passed_over ls line t ts all other_line e =
    passed (length ls == 0 && is_loop_line t) _ (loops_from ls (line + 1) ts) all (sym (cond-false (is_method t) _ _ other_line) ∙ e)

-- what is shown of the lines below
abbrev Below : RuleSet → List ClassMethod → List (Option PlainLoops) → ℕ → ℕ → List (List ℕ) → Type 0
Below rules ms ls count line ts =
    (done : List ClassMethod) (all : List (Option PlainLoops)) → AreAtInstructions done all → class_from rules done count (map other ts) ≡ Ok ms → loops_from all line ts ≡ Ok ls → AreAtInstructions ms ls

one_line : (rules : RuleSet) (ms : List ClassMethod) (ls : List (Option PlainLoops)) (count line : ℕ) (t : List ℕ) (ts : List (List ℕ)) (s : Statement) → other t ≡ s → Below rules ms ls (count + 1) (line + 1) ts
    → (done : List ClassMethod) (all : List (Option PlainLoops)) → AreAtInstructions done all → class_from rules done count (s ∷ map other ts) ≡ Ok ms → loops_from all line (t ∷ ts) ≡ Ok ls → AreAtInstructions ms ls
unfolding class_from
one_line rules ms ls count line t ts Empty is below done all a c l = below done all a c (passed_over all line t ts ls (ap is_directive is) l)
one_line rules ms ls count line t ts (Label name) is below done all a c l =
    below done all a (passed (length done == 0) _ (class_from rules done (count + 1) (map other ts)) ms c) (passed_over all line t ts ls (ap is_directive is) l)
one_line rules ms ls count line t ts (Rules r) is below done all a c l =
    below done all a (passed (length done == 0) _ (class_from rules done (count + 1) (map other ts)) ms c) (passed_over all line t ts ls (ap is_directive is) l)
one_line rules ms ls count line t ts (Instruction d) is below done all a c l =
    below done all a (passed (length done == 0) _ (class_from rules done (count + 1) (map other ts)) ms c) (passed_over all line t ts ls (ap is_directive is) l)
one_line rules ms ls count line t ts (Directive header) is below done all a c l =
    next_had (method_at rules done count header (before_first is_directive (map other ts))) _ ms (AreAtInstructions ms ls)
    (λ m read others. loops_had (method_loops (line + 1) (before_first is_method ts)) (λ k. loops_from (all ++ (k ∷ [])) (line + 1) ts) ls (AreAtInstructions ms ls)
    (λ k loops more. below (done ++ (m ∷ [])) (all ++ (k ∷ [])) (stand_push done all m k a (method_alike rules done count (line + 1) header ts m k read loops)) others more)
    (sym (at_method all line t ts (ap is_directive is)) ∙ l))
    c

lines_alike : (rules : RuleSet) (ms : List ClassMethod) (ls : List (Option PlainLoops)) (count line : ℕ) (ts : List (List ℕ)) → Below rules ms ls count line ts
unfolding class_from loops_from
lines_alike rules ms ls count line [] = λ done all a c l.
    let methods : done ≡ ms = let e = passed (length done == 0) _ (Ok done) ms c in cc in
    let loops : all ≡ ls = cc in
    subst (λ (k : List (Option PlainLoops)). AreAtInstructions ms k) loops (subst (λ (n : List ClassMethod). AreAtInstructions n all) methods a)
lines_alike rules ms ls count line (t ∷ ts) = λ done all a c l.
    one_line rules ms ls count line t ts (other t) refl (lines_alike rules ms ls (count + 1) (line + 1) ts) done all a c l

-- ---- a class

ruled_had : (rules : RuleSet) (r : Result (List ClassMethod) AsmError) (c : Class) → with_rules rules r ≡ Ok c → r ≡ Ok c.methods
ruled_had rules (Ok ms) c e =
    let same : record { rules = rules; methods = ms } ≡ c = cc in
    ap (λ (d : Class). Ok d.methods) same
ruled_had rules (Err d) c e = absurd cc

-- the class that the lines from one on say, whose methods have these loops
abbrev Says : Class → List (Option PlainLoops) → ℕ → ℕ → List (List ℕ) → Type 0
Says c ls count line ts = ruled_from count (map other ts) ≡ Ok c → loops_from [] line ts ≡ Ok ls → AreAtInstructions c.methods ls

-- lines of rule set 1
first_set : (c : Class) (ls : List (Option PlainLoops)) (count line : ℕ) (t : List ℕ) (ts : List (List ℕ)) (s : Statement) → other t ≡ s → with_rules One (class_from One [] count (s ∷ map other ts)) ≡ Ok c → loops_from [] line (t ∷ ts) ≡ Ok ls → AreAtInstructions c.methods ls
first_set c ls count line t ts s is read loops =
    one_line One c.methods ls count line t ts s is (lines_alike One c.methods ls (count + 1) (line + 1) ts) [] [] tt (ruled_had One (class_from One [] count (s ∷ map other ts)) c read) loops

one_ruled : (c : Class) (ls : List (Option PlainLoops)) (count line : ℕ) (t : List ℕ) (ts : List (List ℕ)) (s : Statement) → other t ≡ s → Says c ls (count + 1) (line + 1) ts → ruled_from count (s ∷ map other ts) ≡ Ok c → loops_from [] line (t ∷ ts) ≡ Ok ls → AreAtInstructions c.methods ls
unfolding ruled_from
one_ruled c ls count line t ts Empty is below read loops = below read (passed_over [] line t ts ls (ap is_directive is) loops)
one_ruled c ls count line t ts (Rules (Ok rules)) is below read loops =
    lines_alike rules c.methods ls (count + 1) (line + 1) ts [] [] tt (ruled_had rules (class_from rules [] (count + 1) (map other ts)) c read) (passed_over [] line t ts ls (ap is_directive is) loops)
one_ruled c ls count line t ts (Rules (Err fault)) is below read loops = absurd cc
one_ruled c ls count line t ts (Label name) is below read loops = first_set c ls count line t ts (Label name) is read loops
one_ruled c ls count line t ts (Directive header) is below read loops = first_set c ls count line t ts (Directive header) is read loops
one_ruled c ls count line t ts (Instruction d) is below read loops = first_set c ls count line t ts (Instruction d) is read loops

ruled_alike : (c : Class) (ls : List (Option PlainLoops)) (count line : ℕ) (ts : List (List ℕ)) → Says c ls count line ts
unfolding ruled_from class_from
ruled_alike c ls count line [] = λ read loops. absurd cc
ruled_alike c ls count line (t ∷ ts) = λ read loops. one_ruled c ls count line t ts (other t) refl (ruled_alike c ls (count + 1) (line + 1) ts) read loops

assembled : (b : Bool) (r : Result Class AsmError) (d : AsmError) (c : Class) → cond b r (Err d) ≡ Ok c → r ≡ Ok c
assembled true r d c e = e
assembled false r d c e = absurd cc

neither : (b : Bool) (y x : AsmError) (p : Looped) → cond b (Err y) (Err x) ≡ Ok p → ⊥
neither true y x p e = cc
neither false y x p e = cc

both_read : (r : Result Class AsmError) (s : Result (List (Option PlainLoops)) AsmError) (c : Class) (ls : List (Option PlainLoops)) → first_of r s ≡ Ok (c, ls) → (r ≡ Ok c) × (s ≡ Ok ls)
both_read (Ok d) (Ok ks) c ls e =
    let same : ◌≡◌ {A = Looped} (d, ks) (c, ls) = cc in
    (ap (λ (p : Looped). Ok p.0) same, ap (λ (p : Looped). Ok p.1) same)
both_read (Ok d) (Err x) c ls e = absurd cc
both_read (Err x) (Ok ks) c ls e = absurd cc
both_read (Err x) (Err y) c ls e = absurd (neither (nat_lt y.line x.line) y x (c, ls) e)

none_stand : (ms : List ClassMethod) → AreAtInstructions ms (map (λ m. None) ms)
none_stand [] = tt
none_stand (m ∷ ms) = (tt, none_stand ms)

none_read : (r : Result Class AsmError) (c : Class) (ls : List (Option PlainLoops)) → without_loops r ≡ Ok (c, ls) → AreAtInstructions c.methods ls
none_read (Ok d) c ls e =
    let same : ◌≡◌ {A = Looped} (d, map (λ m. None) d.methods) (c, ls) = cc in
    subst (λ (p : Looped). AreAtInstructions p.0.methods p.1) same (none_stand d.methods)
none_read (Err x) c ls e = absurd cc

by_set : (b : Bool) (texts : List (List ℕ)) (c : Class) (ls : List (Option PlainLoops)) → cond b (first_of (class_assembled (map other texts)) (loops_from [] 1 texts)) (without_loops (class_assembled (map statement_of texts))) ≡ Ok (c, ls) → AreAtInstructions c.methods ls
by_set true texts c ls e =
    let both = both_read (class_assembled (map other texts)) (loops_from [] 1 texts) c ls e in
    let lines = map other texts in
    ruled_alike c ls 1 1 texts (assembled (has_instruction lines) (ruled_from 1 lines) (record { line = 1; fault = bare_class_fault lines }) c both.0) both.1
by_set false texts c ls e = none_read (class_assembled (map statement_of texts)) c ls e

-- what is read of a text has its heads at instructions
pub text_stands : (text : List ℕ) (c : Class) (ls : List (Option PlainLoops)) → read_looped_text text ≡ Ok (c, ls) → AreAtInstructions c.methods ls
unfolding read_looped_text
text_stands text c ls e = by_set (is_of_three (map content (lines_of text))) (map content (lines_of text)) c ls e

-- loops are given for each method
as_many : (ms : List ClassMethod) (ls : List (Option PlainLoops)) → AreAtInstructions ms ls → length ls ≡ length ms
as_many [] [] a = refl
as_many [] (l ∷ ls) a = absurd a
as_many (m ∷ ms) [] a = absurd a
as_many (m ∷ ms) (l ∷ ls) a = omega (arith, as_many ms ls a.1)

-- the same of what a function returned
pub heads_if_read : {V : Type 0} (class : V → Class) (loops : V → List (Option PlainLoops)) (r : Result V AsmError) (text : List ℕ) → Gives (λ v. (class v, loops v)) r (read_looped_text text) → IfOk r (λ v. AreAtInstructions (class v).methods (loops v))
heads_if_read class loops (Ok v) text h = text_stands text (class v) (loops v) h
heads_if_read class loops (Err e) text h = tt

pub each_if_read : {V : Type 0} (class : V → Class) (loops : V → List (Option PlainLoops)) (r : Result V AsmError) (text : List ℕ) → Gives (λ v. (class v, loops v)) r (read_looped_text text) → IfOk r (λ v. length (loops v) ≡ length (class v).methods)
each_if_read class loops (Ok v) text h = as_many (class v).methods (loops v) (text_stands text (class v) (loops v) h)
each_if_read class loops (Err e) text h = tt
