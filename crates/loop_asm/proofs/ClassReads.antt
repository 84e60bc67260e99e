-- The lines of a class with loops are read as its loops, and as the class.
use Rattle.std.proofs.Common.{◌≡◌, ℕ, ◌==◌, ◌&&◌, ◌+◌, ◌≤◌, Bool, true, false, List, [], ◌∷◌, ◌++◌, length, map, Option, Some, None, Result, Ok, refl, sym, ap, ◌∙◌, arith, append_assoc, codes}
use Rattle.std.specs.List.{AllByRecursion, before_first}
use Rattle.std.proofs.lemmas.Bool.Decides.{nat_tests}
use Rattle.std.proofs.lemmas.List.{append-nil, length-append}
use Rattle.bpf_decode.specs.declared.insn.Insn.{Insn}
use Rattle.bpf_decode.specs.declared.rule_set.RuleSet.TheVariants.{Three}
use Rattle.bpf_decode.specs.Instruction.{AllFit, slot_count}
use Rattle.bpf_decode.specs.Class.{ClassMethod, Class, IsMethod, IsClass, AreWithinSet}
use Rattle.asm_lines.specs.declared.fault.AsmError.{AsmError}
use Rattle.asm_lines.specs.declared.statement.Statement.{Statement}
use Rattle.asm_lines.specs.declared.statement.Statement.TheVariants.{Empty, Rules, Instruction}
use Rattle.asm_lines.specs.Texts.{content}
use Rattle.asm_lines.specs.Statements.{statement_of, statements_of}
use Rattle.asm_lines.specs.Canonical.{line_of, directive_line, canonical_text, methods_text, class_text}
use Rattle.bpf_asm.specs.Classes.{is_directive, class_assembled, read_class_text}
use Rattle.bpf_asm.specs.Laws.{HaveNoLoops}
use Rattle.bpf_asm.proofs.BodyTexts.{one_line, no_line}
use Rattle.bpf_asm.proofs.ClassTexts.{directive_quiet, rules_quiet, class_texts_give_back}
use Rattle.bpf_asm.proofs.InsnTexts.{unresolved, line_says, line_quiet}
use Rattle.bpf_asm.proofs.PlainBytes.{Free, before_at, before_none}
use Rattle.loop_heads.specs.declared.place.HeadPlace.{HeadPlace}
use Rattle.loop_heads.specs.Loops.{PlainHead, PlainLoops, head_at}
use Rattle.loop_lines.specs.HeadText.{head_line, budget_line}
use Rattle.loop_asm.specs.Reading.{other, is_method, method_loops, loops_from}
use Rattle.loop_asm.proofs.Empties.{bare, bare_below, same_class}
use Rattle.loop_asm.proofs.Directives.{says_three}
use Rattle.loop_asm.proofs.Written.{free_append}
use Rattle.loop_asm.proofs.SaidLines.{IsPlain, plain_insn, plain_directive, begins_method, plain_three, plain_empty, budget_other, head_other}
use Rattle.loop_asm.proofs.HeadReads.{no_tail, empty_tail, AreOf, method_read}
use Rattle.loop_asm.proofs.Contents.{head_lines, coded, HavePlaces, MayBePlaces, places_at, MayBeLoops, code_lines, class_lines}

-- ---- where a method ends

other_free : (text : List ℕ) → other text ≡ Empty → is_method text ≡ false
other_free text e = ap is_directive e

head_free : (o : Option (List HeadPlace)) (rest : List (List ℕ)) → MayBePlaces o → Free is_method rest → Free is_method (head_lines o ++ rest)
head_free None rest h f = f
head_free (Some ps) rest h f = (other_free (head_line ps) (head_other ps h), f)

coded_free : (hs : List PlainHead) → HavePlaces hs → (slot : ℕ) (is : List Insn) → AllFit is → Free is_method (coded hs slot is)
coded_free hs h slot [] fit = tt
coded_free hs h slot (i ∷ is) fit =
    head_free (head_at hs slot) (content (line_of i) ∷ coded hs (slot + slot_count i) is) (places_at hs slot h) ((plain_insn i fit.0).method, coded_free hs h (slot + slot_count i) is fit.1)

pub code_free : (o : Option PlainLoops) → MayBeLoops o → (is : List Insn) → AllFit is → Free is_method (code_lines o is)
code_free None h is fit = coded_free [] tt 0 is fit
code_free (Some l) h is fit = (other_free (budget_line l.budget) (budget_other l.budget h.0 h.1), coded_free l.heads h.2 0 is fit)

-- the lines of a method, up to the end
cut_end : (lines : List (List ℕ)) → Free is_method lines → before_first is_method (lines ++ ([] ∷ [])) ≡ lines ++ ([] ∷ [])
cut_end lines f = before_none is_method (lines ++ ([] ∷ [])) (free_append is_method lines ([] ∷ []) f (plain_empty.method, tt))

-- and up to the next method
cut_next : (lines : List (List ℕ)) (text : List ℕ) (rest : List (List ℕ)) → Free is_method lines → is_method text ≡ true → before_first is_method (lines ++ (text ∷ rest)) ≡ lines ++ []
cut_next lines text rest f e = before_at is_method lines text rest f e ∙ sym (append-nil lines)

-- ---- a class's loops

-- loops of each method
abbrev pub AreOfEach : List ClassMethod → List (Option PlainLoops) → Type 0
AreOfEach [] [] = Unit {0}
AreOfEach [] (l ∷ ls) = ⊥
AreOfEach (m ∷ ms) [] = ⊥
AreOfEach (m ∷ ms) (l ∷ ls) = AreOf m.instructions l × AreOfEach ms ls

pub may_be_loops : (is : List Insn) (o : Option PlainLoops) → AreOf is o → MayBeLoops o
may_be_loops is None a = tt
may_be_loops is (Some l) a = (a.0, a.1, a.4.places)

loops_at : (m : ClassMethod) (o : Option PlainLoops) (ms : List ClassMethod) (ls : List (Option PlainLoops)) → IsMethod m → AreOf m.instructions o → AllByRecursion IsMethod ms → AreOfEach ms ls → (line : ℕ)
    → method_loops line (before_first is_method (code_lines o m.instructions ++ class_lines ms ls)) ≡ Ok o
loops_at m o [] ls h a k b line =
    ap (method_loops line) (cut_end (code_lines o m.instructions) (code_free o (may_be_loops m.instructions o a) m.instructions h.fit))
    ∙ method_read ([] ∷ []) empty_tail m.instructions line o h.fit h.some_slot h.slots a
loops_at m o (n ∷ ns) [] h a k b line = absurd b
loops_at m o (n ∷ ns) (l ∷ ls) h a k b line =
    ap (method_loops line) (cut_next (code_lines o m.instructions) (content (directive_line n)) (code_lines l n.instructions ++ class_lines ns ls) (code_free o (may_be_loops m.instructions o a) m.instructions h.fit) (begins_method n k.0))
    ∙ method_read [] no_tail m.instructions line o h.fit h.some_slot h.slots a

-- lines of a method whose loops were read
loops_skip : (done : List (Option PlainLoops)) (r : Result (List (Option PlainLoops)) AsmError) (rest : List (List ℕ)) → (length done == 0) ≡ false → ((line : ℕ) → loops_from done line rest ≡ r) → (lines : List (List ℕ)) → Free is_method lines → (line : ℕ)
    → loops_from done line (lines ++ rest) ≡ r
unfolding loops_from
loops_skip done r rest n f [] g line = f line
loops_skip done r rest n f (x ∷ xs) g line = rw (g.0, n) (loops_skip done r rest n f xs g.1 (line + 1))

pushed_some : {A : Type 0} (done : List A) (x : A) → (length (done ++ (x ∷ [])) == 0) ≡ false
pushed_some done x =
    let n = length-append done (x ∷ []) in
    let some : 1 ≤ length (done ++ (x ∷ [])) = omega arith in
    grind (arith, nat_tests)

and_false : (b : Bool) → (b && false) ≡ false
and_false true = refl
and_false false = refl

loops_end : (done : List (Option PlainLoops)) (line : ℕ) → loops_from done line ([] ∷ []) ≡ Ok done
unfolding loops_from
loops_end done line = rw (plain_empty.method, plain_empty.no_loops, and_false (length done == 0)) refl

loops_step : (done : List (Option PlainLoops)) (line : ℕ) (text : List ℕ) (rest : List (List ℕ)) (o : Option PlainLoops) → is_method text ≡ true → method_loops (line + 1) (before_first is_method rest) ≡ Ok o
    → loops_from done line (text ∷ rest) ≡ loops_from (done ++ (o ∷ [])) (line + 1) rest
unfolding loops_from
loops_step done line text rest o e r = rw (e, r) refl

pub loops_read : (ms : List ClassMethod) (ls : List (Option PlainLoops)) → AllByRecursion IsMethod ms → AreOfEach ms ls → (done : List (Option PlainLoops)) (line : ℕ) → loops_from done line (class_lines ms ls) ≡ Ok (done ++ ls)
loops_read [] [] h a done line = loops_end done line ∙ ap (λ (r : List (Option PlainLoops)). Ok r) (sym (append-nil done))
loops_read [] (l ∷ ls) h a done line = absurd a
loops_read (m ∷ ms) [] h a done line = absurd a
loops_read (m ∷ ms) (l ∷ ls) h a done line =
    loops_step done line (content (directive_line m)) (code_lines l m.instructions ++ class_lines ms ls) l (begins_method m h.0) (loops_at m l ms ls h.0 a.0 h.1 a.1 (line + 1))
    ∙ loops_skip (done ++ (l ∷ [])) (Ok (done ++ (l ∷ ls))) (class_lines ms ls) (pushed_some done l)
    (λ k. loops_read ms ls h.1 a.1 (done ++ (l ∷ [])) k ∙ ap (λ (r : List (Option PlainLoops)). Ok r) (append_assoc done (l ∷ []) ls))
    (code_lines l m.instructions) (code_free l (may_be_loops m.instructions l a.0) m.instructions h.0.fit) (line + 1)

-- ---- a class

empty_line : (text : List ℕ) (rest : List (List ℕ)) → other text ≡ Empty → bare (map other (text ∷ rest)) ≡ bare (map other rest)
empty_line text rest e = ap (λ (s : Statement). bare (s ∷ map other rest)) e

head_bare : (o : Option (List HeadPlace)) (rest : List (List ℕ)) → MayBePlaces o → bare (map other (head_lines o ++ rest)) ≡ bare (map other rest)
head_bare None rest h = refl
head_bare (Some ps) rest h = empty_line (head_line ps) rest (head_other ps h)

-- a line that says no loops, above lines that say the same but for empty ones
plain_bare : (text : List ℕ) (s : Statement) (rest : List (List ℕ)) (ss : List Statement) → IsPlain text s → bare (map other rest) ≡ bare ss → bare (map other (text ∷ rest)) ≡ bare (s ∷ ss)
plain_bare text s rest ss p e = ap (λ (r : Statement). bare (r ∷ map other rest)) p.other ∙ bare_below s (map other rest) ss e

coded_bare : (hs : List PlainHead) → HavePlaces hs → (slot : ℕ) (is : List Insn) (rest : List (List ℕ)) (text : List ℕ) → AllFit is → bare (map other rest) ≡ bare (statements_of text)
    → bare (map other (coded hs slot is ++ rest)) ≡ bare (statements_of (canonical_text is ++ text))
coded_bare hs h slot [] rest text fit e = e
coded_bare hs h slot (i ∷ is) rest text fit e =
    let o = head_at hs slot in
    let lines = coded hs (slot + slot_count i) is in
    let s = Instruction (Ok (unresolved i)) in
    ap (λ (r : List (List ℕ)). bare (map other r)) (append_assoc (head_lines o) (content (line_of i) ∷ lines) rest)
    ∙ head_bare o (content (line_of i) ∷ (lines ++ rest)) (places_at hs slot h)
    ∙ plain_bare (content (line_of i)) s (lines ++ rest) (statements_of (canonical_text is ++ text)) (plain_insn i fit.0) (coded_bare hs h (slot + slot_count i) is rest text fit.1 e)
    ∙ ap bare (sym (one_line (line_of i) (canonical_text is ++ text) s (line_quiet i fit.0) (line_says i fit.0)) ∙ ap statements_of (sym (append_assoc (line_of i ++ codes "\n") (canonical_text is) text)))

code_bare : (o : Option PlainLoops) → MayBeLoops o → (is : List Insn) (rest : List (List ℕ)) (text : List ℕ) → AllFit is → bare (map other rest) ≡ bare (statements_of text)
    → bare (map other (code_lines o is ++ rest)) ≡ bare (statements_of (canonical_text is ++ text))
code_bare None h is rest text fit e = coded_bare [] tt 0 is rest text fit e
code_bare (Some l) h is rest text fit e = empty_line (budget_line l.budget) (coded l.heads 0 is ++ rest) (budget_other l.budget h.0 h.1) ∙ coded_bare l.heads h.2 0 is rest text fit e

-- the lines of methods say what those without loops say
methods_bare : (ms : List ClassMethod) (ls : List (Option PlainLoops)) → AllByRecursion IsMethod ms → AreOfEach ms ls → bare (map other (class_lines ms ls)) ≡ bare (statements_of (methods_text ms))
methods_bare [] [] h a = empty_line [] [] plain_empty.other ∙ ap bare (sym no_line)
methods_bare [] (l ∷ ls) h a = absurd a
methods_bare (m ∷ ms) [] h a = absurd a
methods_bare (m ∷ ms) (l ∷ ls) h a =
    let code = canonical_text m.instructions in
    let s = statement_of (content (directive_line m)) in
    plain_bare (content (directive_line m)) s (code_lines l m.instructions ++ class_lines ms ls) (statements_of (code ++ methods_text ms)) (plain_directive m h.0)
    (code_bare l (may_be_loops m.instructions l a.0) m.instructions (class_lines ms ls) (methods_text ms) h.0.fit (methods_bare ms ls h.1 a.1))
    ∙ ap bare (sym (one_line (directive_line m) (code ++ methods_text ms) s (directive_quiet m h.0) refl) ∙ ap statements_of (sym (append_assoc (directive_line m ++ codes "\n") code (methods_text ms))))

-- the lines of a class of set 3
abbrev pub three_lines : List ClassMethod → List (Option PlainLoops) → List (List ℕ)
three_lines ms ls = content (codes ".rules 3") ∷ class_lines ms ls

abbrev pub three_class : List ClassMethod → Class
three_class ms = record { rules = Three; methods = ms }

three_bare : (ms : List ClassMethod) (ls : List (Option PlainLoops)) → AllByRecursion IsMethod ms → AreOfEach ms ls → bare (map other (three_lines ms ls)) ≡ bare (statements_of (class_text (three_class ms)))
three_bare ms ls h a =
    plain_bare (content (codes ".rules 3")) (Rules (Ok Three)) (class_lines ms ls) (statements_of (methods_text ms)) plain_three (methods_bare ms ls h a)
    ∙ ap bare (sym (one_line (codes ".rules 3") (methods_text ms) (Rules (Ok Three)) (rules_quiet Three) says_three))

-- they are read as that class
pub class_read : (ms : List ClassMethod) (ls : List (Option PlainLoops)) → IsClass ms → AreWithinSet Three ms → HaveNoLoops ms → AreOfEach ms ls → class_assembled (map other (three_lines ms ls)) ≡ Ok (three_class ms)
unfolding read_class_text
class_read ms ls c w n a =
    same_class (statements_of (class_text (three_class ms))) (map other (three_lines ms ls)) (three_class ms) (sym (three_bare ms ls c.methods a)) (class_texts_give_back (three_class ms) c w n)
