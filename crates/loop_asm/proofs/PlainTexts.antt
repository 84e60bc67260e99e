-- In rule sets 1 and 2 the text of a class is the one without loops, and is read as that class.
use Rattle.std.proofs.Common.{◌≡◌, ℕ, ◌==◌, ◌+◌, ◌≤◌, Bool, true, false, List, [], ◌∷◌, ◌++◌, length, map, Option, None, Ok, refl, sym, ap, ◌∙◌, arith, append_assoc, codes}
use Rattle.std.specs.List.{AllByRecursion, flat_map}
use Rattle.bpf_decode.specs.declared.insn.Insn.{Insn}
use Rattle.bpf_decode.specs.declared.rule_set.RuleSet.TheVariants.{One, Two}
use Rattle.bpf_decode.specs.Instruction.{slot_count}
use Rattle.bpf_decode.specs.Class.{ClassMethod, Class, IsMethod, IsClass, AreWithinSet}
use Rattle.asm_lines.specs.declared.statement.Statement.{Statement}
use Rattle.asm_lines.specs.declared.statement.Statement.TheVariants.{Empty, Label, Rules, Directive, Instruction}
use Rattle.asm_lines.specs.Texts.{content}
use Rattle.asm_lines.specs.Statements.{statement_of, lines_of, statements_of}
use Rattle.asm_lines.specs.Canonical.{line_of, directive_line, canonical_text, slot_line, code_with_slots, class_text, class_with_slots}
use Rattle.bpf_asm.specs.Classes.{is_directive, class_assembled, read_class_text}
use Rattle.bpf_asm.specs.Laws.{HaveNoLoops}
use Rattle.bpf_asm.proofs.ClassTexts.{directive_quiet, rules_quiet, class_texts_give_back}
use Rattle.bpf_asm.proofs.PlainBytes.{is_quiet, free_where, quiet_feed}
use Rattle.bpf_asm.proofs.SlotTexts.{slot_texts_give_back}
use Rattle.loop_heads.specs.Loops.{PlainLoops}
use Rattle.loop_asm.specs.Canonical.{Written, alone, with_slot, code_text, looped_method}
use Rattle.loop_asm.proofs.Looped.{looped_methods, looped_text}
use Rattle.loop_asm.proofs.Given.{AreLoops}
use Rattle.loop_asm.specs.Reading.{says_three, is_of_three, without_loops, read_looped_text}
use Rattle.loop_asm.proofs.Directives.{says_two, says_directive}
use Rattle.loop_asm.proofs.Contents.{contents, line_content}

-- ---- the text

code_alone : (slot : ℕ) (is : List Insn) → code_text alone [] slot is ≡ canonical_text is
code_alone slot [] = refl
code_alone slot (i ∷ is) =
    ap (λ (t : List ℕ). line_of i ++ (codes "\n" ++ t)) (code_alone (slot + slot_count i) is) ∙ sym (append_assoc (line_of i) (codes "\n") (canonical_text is))

code_slots : (slot : ℕ) (is : List Insn) → code_text with_slot [] slot is ≡ code_with_slots slot is
code_slots slot [] = refl
code_slots slot (i ∷ is) =
    let rest = code_with_slots (slot + slot_count i) is in
    ap (λ (t : List ℕ). slot_line slot i ++ (codes "\n" ++ t)) (code_slots (slot + slot_count i) is) ∙ sym (append_assoc (slot_line slot i) (codes "\n") rest)

-- no method has loops
abbrev NoneEach : List ClassMethod → List (Option PlainLoops) → Type 0
NoneEach [] [] = Unit {0}
NoneEach [] (l ∷ ls) = ⊥
NoneEach (m ∷ ms) [] = ⊥
NoneEach (m ∷ ms) (l ∷ ls) = (l ≡ None) × NoneEach ms ls

one_none : (ms : List ClassMethod) (ls : List (Option PlainLoops)) → AreLoops One ms ls → NoneEach ms ls
one_none [] [] a = tt
one_none [] (l ∷ ls) a = a
one_none (m ∷ ms) [] a = a
one_none (m ∷ ms) (l ∷ ls) a = (a.0, one_none ms ls a.1)

two_none : (ms : List ClassMethod) (ls : List (Option PlainLoops)) → AreLoops Two ms ls → NoneEach ms ls
two_none [] [] a = tt
two_none [] (l ∷ ls) a = a
two_none (m ∷ ms) [] a = a
two_none (m ∷ ms) (l ∷ ls) a = (a.0, two_none ms ls a.1)

none_each : (ms : List ClassMethod) (ls : List (Option PlainLoops)) → NoneEach ms ls → map (λ m. None) ms ≡ ls
none_each [] [] a = refl
none_each [] (l ∷ ls) a = absurd a
none_each (m ∷ ms) [] a = absurd a
none_each (m ∷ ms) (l ∷ ls) a = ap (λ (o : Option PlainLoops). o ∷ map (λ m. None) ms) (sym a.0) ∙ ap (λ (r : List (Option PlainLoops)). l ∷ r) (none_each ms ls a.1)

-- a method whose code is written so
abbrev method_by : (List Insn → List ℕ) → ClassMethod → List ℕ
method_by code m = directive_line m ++ codes "\n" ++ code m.instructions

methods_by : (write : Written) (code : List Insn → List ℕ) → ((is : List Insn) → code_text write [] 0 is ≡ code is) → (ms : List ClassMethod) (ls : List (Option PlainLoops)) → NoneEach ms ls → looped_methods write ms ls ≡ flat_map (method_by code) ms
methods_by write code same [] [] a = refl
methods_by write code same [] (l ∷ ls) a = absurd a
methods_by write code same (m ∷ ms) [] a = absurd a
methods_by write code same (m ∷ ms) (l ∷ ls) a =
    ap (λ (o : Option PlainLoops). looped_method write m o ++ looped_methods write ms ls) a.0
    ∙ ap (λ (t : List ℕ). (directive_line m ++ (codes "\n" ++ t)) ++ looped_methods write ms ls) (same m.instructions)
    ∙ ap (λ (t : List ℕ). t ++ looped_methods write ms ls) (sym (append_assoc (directive_line m) (codes "\n") (code m.instructions)))
    ∙ ap (λ (t : List ℕ). method_by code m ++ t) (methods_by write code same ms ls a.1)

-- ---- it is of no set with loops

-- a method's first line says no rule set
no_rules : (s : Statement) (below : Bool) → is_directive s ≡ true → says_three s below ≡ false
no_rules Empty below h = absurd cc
no_rules (Label name) below h = refl
no_rules (Rules rules) below h = absurd cc
no_rules (Directive header) below h = refl
no_rules (Instruction d) below h = refl

not_one : (code : List Insn → List ℕ) (ms : List ClassMethod) → AllByRecursion IsMethod ms → 1 ≤ length ms → is_of_three (contents (flat_map (method_by code) ms)) ≡ false
not_one code [] h some = absurd (omega arith)
not_one code (m ∷ ms) h some =
    let rest = flat_map (method_by code) ms in
    let below = code m.instructions ++ rest in
    ap (λ (t : List ℕ). is_of_three (contents t)) (append_assoc (directive_line m ++ codes "\n") (code m.instructions) rest)
    ∙ ap is_of_three (line_content (directive_line m) below (free_where (λ c. c == 10) is_quiet quiet_feed (directive_line m) (directive_quiet m h.0)))
    ∙ no_rules (statement_of (content (directive_line m))) (is_of_three (contents below)) (says_directive m h.0)

not_two : (text : List ℕ) → is_of_three (contents (codes ".rules 2\n" ++ text)) ≡ false
not_two text =
    ap is_of_three (line_content (codes ".rules 2") text (free_where (λ c. c == 10) is_quiet quiet_feed (codes ".rules 2") (rules_quiet Two)))
    ∙ ap (λ (s : Statement). says_three s (is_of_three (contents text))) says_two

-- ---- reading it

fused : (lines : List (List ℕ)) → map statement_of (map content lines) ≡ map (λ line. statement_of (content line)) lines
fused [] = refl
fused (x ∷ xs) = ap (λ (r : List Statement). statement_of (content x) ∷ r) (fused xs)

plain_reads : (text : List ℕ) (c : Class) (ls : List (Option PlainLoops)) → is_of_three (contents text) ≡ false → read_class_text text ≡ Ok c → map (λ m. None) c.methods ≡ ls → read_looped_text text ≡ Ok (c, ls)
unfolding read_looped_text read_class_text statements_of
plain_reads text c ls e r n = rw e (ap without_loops (ap class_assembled (fused (lines_of text)) ∙ r) ∙ ap (λ (k : List (Option PlainLoops)). Ok (c, k)) n)

-- a class of sets 1 and 2
abbrev one_class : List ClassMethod → Class
one_class ms = record { rules = One; methods = ms }

abbrev two_class : List ClassMethod → Class
two_class ms = record { rules = Two; methods = ms }

pub one_alone : (ms : List ClassMethod) (ls : List (Option PlainLoops)) → IsClass ms → AreWithinSet One ms → HaveNoLoops ms → AreLoops One ms ls → read_looped_text (looped_text alone (one_class ms) ls) ≡ Ok (one_class ms, ls)
one_alone ms ls c w n a =
    let none = one_none ms ls a in
    ap read_looped_text (methods_by alone canonical_text (code_alone 0) ms ls none)
    ∙ plain_reads (class_text (one_class ms)) (one_class ms) ls (not_one canonical_text ms c.methods c.some) (class_texts_give_back (one_class ms) c w n) (none_each ms ls none)

pub one_slots : (ms : List ClassMethod) (ls : List (Option PlainLoops)) → IsClass ms → AreWithinSet One ms → HaveNoLoops ms → AreLoops One ms ls → read_looped_text (looped_text with_slot (one_class ms) ls) ≡ Ok (one_class ms, ls)
one_slots ms ls c w n a =
    let none = one_none ms ls a in
    ap read_looped_text (methods_by with_slot (code_with_slots 0) (code_slots 0) ms ls none)
    ∙ plain_reads (class_with_slots (one_class ms)) (one_class ms) ls (not_one (code_with_slots 0) ms c.methods c.some) (slot_texts_give_back (one_class ms) c w n) (none_each ms ls none)

pub two_alone : (ms : List ClassMethod) (ls : List (Option PlainLoops)) → IsClass ms → AreWithinSet Two ms → HaveNoLoops ms → AreLoops Two ms ls → read_looped_text (looped_text alone (two_class ms) ls) ≡ Ok (two_class ms, ls)
two_alone ms ls c w n a =
    let none = two_none ms ls a in
    let code = flat_map (method_by canonical_text) ms in
    ap (λ (t : List ℕ). read_looped_text (codes ".rules 2\n" ++ t)) (methods_by alone canonical_text (code_alone 0) ms ls none)
    ∙ plain_reads (class_text (two_class ms)) (two_class ms) ls (not_two code) (class_texts_give_back (two_class ms) c w n) (none_each ms ls none)

pub two_slots : (ms : List ClassMethod) (ls : List (Option PlainLoops)) → IsClass ms → AreWithinSet Two ms → HaveNoLoops ms → AreLoops Two ms ls → read_looped_text (looped_text with_slot (two_class ms) ls) ≡ Ok (two_class ms, ls)
two_slots ms ls c w n a =
    let none = two_none ms ls a in
    let code = flat_map (method_by (code_with_slots 0)) ms in
    ap (λ (t : List ℕ). read_looped_text (codes ".rules 2\n" ++ t)) (methods_by with_slot (code_with_slots 0) (code_slots 0) ms ls none)
    ∙ plain_reads (class_with_slots (two_class ms)) (two_class ms) ls (not_two code) (slot_texts_give_back (two_class ms) c w n) (none_each ms ls none)
