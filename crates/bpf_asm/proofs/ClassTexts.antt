-- The canonical text of a class is read as that class.
use Rattle.std.proofs.Common.{◌≡◌, ℕ, ◌==◌, ◌+◌, ◌≤◌, ◌<◌, Bool, true, false, List, [], ◌∷◌, ◌++◌, length, cond, Option, Some, None, Result, Ok, refl, sym, ap, ◌∙◌, arith, codes, append_assoc, nat_le, lit≤, subst}
use Rattle.std.specs.List.{list_all, before_first, AllByRecursion}
use Rattle.std.specs.Fmt.{decimal}
use Rattle.std.specs.Ordering.{is_lt}
use Rattle.std.proofs.lemmas.Bool.Decides.{nat_tests}
use Rattle.std.proofs.lemmas.Fmt.{decimal_nonempty}
use Rattle.std.proofs.lemmas.List.{append-nil, length-append}
use Rattle.bpf_decode.specs.declared.insn.Insn.{Insn}
use Rattle.bpf_decode.specs.Instruction.{AllFit, slot_total, slot_count}
use Rattle.bpf_decode.specs.declared.rule_set.RuleSet.{RuleSet}
use Rattle.bpf_decode.specs.declared.rule_set.RuleSet.TheVariants.{One, Two, Three}
use Rattle.bpf_decode.specs.Class.{ClassMethod, IsClass, IsWithinSet, AreWithinSet, IsNameByte, IsMethod, NamesRise}
use Rattle.bpf_decode.specs.Limits.{between, is_name_byte, are_name_bytes}
use Rattle.bpf_decode.specs.ImageReading.{is_above}
use Rattle.asm_lines.specs.declared.fault.AsmFault.{AsmFault}
use Rattle.asm_lines.specs.declared.fault.AsmError.{AsmError}
use Rattle.asm_lines.specs.declared.statement.Statement.{Statement}
use Rattle.asm_lines.specs.declared.statement.Statement.TheVariants.{Empty, Rules, Directive, Instruction}
use Rattle.asm_lines.specs.Headers.{MethodHeader}
use Rattle.asm_lines.specs.Texts.{is_blank, trim_start, trim_end, content, first_word, after_word}
use Rattle.asm_lines.specs.Operands.{unsigned_of}
use Rattle.asm_lines.specs.Statements.{flags_of, header_of, statement_of, statements_of}
use Rattle.asm_lines.specs.Canonical.{flags_text, directive_line, canonical_text, methods_text, rules_text, line_of}
use Rattle.bpf_asm.specs.Bodies.{body_from, body, has_instruction}
use Rattle.bpf_asm.specs.Classes.{is_directive, last_name, is_within_set, method_at, class_from, with_rules, ruled_from, read_class_text}
use Rattle.bpf_asm.specs.Laws.{HaveNoLoops, ClassTextsGiveBack}
use Rattle.loop_heads.specs.Loops.{PlainLoops}
use Rattle.bpf_asm.proofs.ClassLemmas.{within_test}
use Rattle.bpf_asm.proofs.PlainBytes.{is_plain, is_quiet, Free, and_left, plain_blank, before_at, before_none, drop_seam, trim_end_free, trim_end_behind, trim_start_stays, trim_start_space, blanks_free, quiet_where, all_append}
use Rattle.bpf_asm.proofs.NumberTexts.{plain_decimal, decimal_plain}
use Rattle.bpf_asm.proofs.OperandTexts.{length_some}
use Rattle.bpf_asm.proofs.LineTexts.{no_label_line, content_same}
use Rattle.bpf_asm.proofs.InsnTexts.{unresolved, line_says, line_quiet}
use Rattle.bpf_asm.proofs.BodyTexts.{stated, one_line, no_line, body_stated, some_instruction, stands}
use Rattle.bpf_decode.specs.Limits.{is_method_name}
use Rattle.bpf_decode.specs.declared.limits.TheConstants.{METHOD_LIMIT, NAME_LIMIT, CAPACITY_LIMIT, SLOT_LIMIT}

-- ---- what a name may be

name_byte_again : (b : ℕ) → IsNameByte b → is_name_byte b ≡ true
name_byte_again b h = grind (arith, nat_tests)

names_again : (name : List ℕ) → AllByRecursion IsNameByte name → are_name_bytes name ≡ true
names_again [] h = refl
names_again (b ∷ bs) h = rw (name_byte_again b h.0, names_again bs h.1) refl

name_byte_plain : (b : ℕ) → IsNameByte b → is_plain b ≡ true
name_byte_plain b h = grind (arith, nat_tests)

names_plain : (name : List ℕ) → AllByRecursion IsNameByte name → list_all is_plain name ≡ true
names_plain [] h = refl
names_plain (b ∷ bs) h = rw (name_byte_plain b h.0, names_plain bs h.1) refl

method_name : (m : ClassMethod) → IsMethod m → is_method_name m.name ≡ true
method_name m h =
    let named = h.named in
    let short = h.short in
    let sized : between 1 NAME_LIMIT (length m.name) ≡ true = grind (arith, nat_tests) in
    rw (sized, names_again m.name h.letters) refl

-- ---- the line that begins a method

-- the first word of words, and what stands after it
word_first : (w : List ℕ) (rest : List ℕ) → list_all is_plain w ≡ true → first_word (w ++ (32 ∷ rest)) ≡ w
unfolding first_word
word_first w rest p = before_at is_blank w 32 rest (blanks_free w p) refl

word_after : (w : List ℕ) (x : ℕ) (xs : List ℕ) → list_all is_plain w ≡ true → is_blank x ≡ false → after_word (w ++ (32 ∷ x ∷ xs)) ≡ x ∷ xs
unfolding after_word
word_after w x xs p s =
    rw (before_at is_blank w 32 (x ∷ xs) (blanks_free w p) refl, drop_seam w (32 ∷ x ∷ xs)) (trim_start_space (x ∷ xs) ∙ trim_start_stays x xs s)

-- the same where what stands after is not empty and begins with no blank
none_more : 1 ≤ length {A = ℕ} [] → ⊥
none_more h = omega arith

word_behind : (w r tail : List ℕ) → list_all is_plain w ≡ true → 1 ≤ length r → list_all is_plain r ≡ true → after_word (w ++ (32 ∷ (r ++ tail))) ≡ r ++ tail
word_behind w [] tail p n q = absurd (none_more n)
word_behind w (x ∷ xs) tail p n q = word_after w x (xs ++ tail) p (plain_blank x (and_left (is_plain x) (list_all is_plain xs) q))

flags_at : (a b : Bool) (f : ℕ) → flags_of (cond a (codes "r") (cond b (codes "w") (codes "rw"))) ≡ Some (cond a 1 (cond b 2 3))
unfolding flags_of
flags_at true b f = refl
flags_at false true f = refl
flags_at false false f = refl

flags_number : (f : ℕ) → 1 ≤ f → f ≤ 3 → cond (f == 1) 1 (cond (f == 2) 2 3) ≡ f
flags_number f a b = grind (arith, nat_tests)

pub flags_read : (f : ℕ) → 1 ≤ f → f ≤ 3 → flags_of (flags_text f) ≡ Some f
flags_read f a b = flags_at (f == 1) (f == 2) f ∙ ap (λ n. Some n) (flags_number f a b)

flags_some_at : (a b : Bool) → 1 ≤ length (cond a (codes "r") (cond b (codes "w") (codes "rw")))
flags_some_at true b = lit≤ tt
flags_some_at false true = lit≤ tt
flags_some_at false false = lit≤ tt

flags_plain_at : (a b : Bool) → list_all is_plain (cond a (codes "r") (cond b (codes "w") (codes "rw"))) ≡ true
flags_plain_at true b = refl
flags_plain_at false true = refl
flags_plain_at false false = refl

flags_some : (f : ℕ) → 1 ≤ length (flags_text f)
flags_some f = flags_some_at (f == 1) (f == 2)

flags_plain : (f : ℕ) → list_all is_plain (flags_text f) ≡ true
flags_plain f = flags_plain_at (f == 1) (f == 2)

cap_reads : (n : ℕ) → n ≤ CAPACITY_LIMIT → unsigned_of CAPACITY_LIMIT (decimal n) ≡ Ok n
unfolding unsigned_of
cap_reads n h = rw (plain_decimal 0 CAPACITY_LIMIT n (omega arith) (omega arith)) refl

abbrev header : ClassMethod → MethodHeader
header m = record { name = m.name; flags = m.flags; in_cap = m.in_cap; out_cap = m.out_cap }

-- the words after `.method`
abbrev words : ClassMethod → List ℕ
words m = m.name ++ (32 ∷ (flags_text m.flags ++ (32 ∷ (decimal m.in_cap ++ (32 ∷ decimal m.out_cap)))))

word_last : (w r : List ℕ) → list_all is_plain w ≡ true → 1 ≤ length r → list_all is_plain r ≡ true → after_word (w ++ (32 ∷ r)) ≡ r
word_last w r p n q = ap (λ t. after_word (w ++ (32 ∷ t))) (sym (append-nil r)) ∙ word_behind w r [] p n q ∙ append-nil r

header_reads : (m : ClassMethod) → IsMethod m → header_of (words m) ≡ Ok (header m)
unfolding header_of
header_reads m h =
    let in_plain = decimal_plain m.in_cap (omega (arith, h.in_cap)) in
    let out_plain = decimal_plain m.out_cap (omega (arith, h.out_cap)) in
    let in_some = decimal_nonempty m.in_cap (omega (arith, h.in_cap)) in
    let out_some = decimal_nonempty m.out_cap (omega (arith, h.out_cap)) in
    let name_plain = names_plain m.name h.letters in
    let caps = decimal m.in_cap ++ (32 ∷ decimal m.out_cap) in
    rw (word_first m.name (flags_text m.flags ++ (32 ∷ caps)) name_plain, word_behind m.name (flags_text m.flags) (32 ∷ caps) name_plain (flags_some m.flags) (flags_plain m.flags), word_first (flags_text m.flags) caps (flags_plain m.flags), word_behind (flags_text m.flags) (decimal m.in_cap) (32 ∷ decimal m.out_cap) (flags_plain m.flags) in_some in_plain)
    (rw (method_name m h, flags_read m.flags h.some_flag h.known_flags, word_first (decimal m.in_cap) (decimal m.out_cap) in_plain, word_last (decimal m.in_cap) (decimal m.out_cap) in_plain out_some out_plain, cap_reads m.in_cap h.in_cap, cap_reads m.out_cap h.out_cap) refl)

shape : (m : ClassMethod) → directive_line m ≡ codes ".method " ++ words m
shape m = simp append_assoc

solid_end : (front r : List ℕ) → 1 ≤ length r → list_all is_plain r ≡ true → trim_end (front ++ r) ≡ front ++ r
solid_end front [] n p = absurd (none_more n)
solid_end front (y ∷ ys) n p = trim_end_behind front y ys (trim_end_free (y ∷ ys) (blanks_free (y ∷ ys) p))

starts : (name tail : List ℕ) → 1 ≤ length name → list_all is_plain name ≡ true → trim_start (32 ∷ (name ++ tail)) ≡ name ++ tail
starts [] tail n p = absurd (none_more n)
starts (x ∷ xs) tail n p = trim_start_space (x ∷ (xs ++ tail)) ∙ trim_start_stays x (xs ++ tail) (plain_blank x (and_left (is_plain x) (list_all is_plain xs) p))

words_quiet : (m : ClassMethod) → IsMethod m → list_all is_quiet (words m) ≡ true
words_quiet m h =
    let in_quiet = quiet_where (decimal m.in_cap) (decimal_plain m.in_cap (omega (arith, h.in_cap))) in
    let out_quiet = quiet_where (decimal m.out_cap) (decimal_plain m.out_cap (omega (arith, h.out_cap))) in
    all_append is_quiet m.name (32 ∷ (flags_text m.flags ++ (32 ∷ (decimal m.in_cap ++ (32 ∷ decimal m.out_cap))))) (quiet_where m.name (names_plain m.name h.letters))
    (all_append is_quiet (flags_text m.flags) (32 ∷ (decimal m.in_cap ++ (32 ∷ decimal m.out_cap))) (quiet_where (flags_text m.flags) (flags_plain m.flags))
    (all_append is_quiet (decimal m.in_cap) (32 ∷ decimal m.out_cap) in_quiet out_quiet))

pub directive_quiet : (m : ClassMethod) → IsMethod m → list_all is_quiet (directive_line m) ≡ true
directive_quiet m h = ap (list_all is_quiet) (shape m) ∙ words_quiet m h

states_directive : (m : ClassMethod) → IsMethod m → statement_of (codes ".method " ++ words m) ≡ Directive (Ok (header m))
unfolding statement_of first_word after_word
states_directive m h =
    let start = starts m.name (32 ∷ (flags_text m.flags ++ (32 ∷ (decimal m.in_cap ++ (32 ∷ decimal m.out_cap))))) h.named (names_plain m.name h.letters) in
    rw (length_some 46 (codes "method " ++ words m), no_label_line (codes ".method " ++ words m) (words_quiet m h), start, header_reads m h) refl

says_directive : (m : ClassMethod) → IsMethod m → statement_of (content (directive_line m)) ≡ Directive (Ok (header m))
says_directive m h =
    let front = codes ".method " ++ m.name ++ codes " " ++ flags_text m.flags ++ codes " " ++ decimal m.in_cap ++ codes " " in
    let solid : trim_end (directive_line m) ≡ directive_line m = solid_end front (decimal m.out_cap) (decimal_nonempty m.out_cap (omega (arith, h.out_cap))) (decimal_plain m.out_cap (omega (arith, h.out_cap))) in
    let solid_words : trim_end (codes ".method " ++ words m) ≡ codes ".method " ++ words m = sym (ap trim_end (shape m)) ∙ solid ∙ shape m in
    ap (λ t. statement_of (content t)) (shape m)
    ∙ ap statement_of (content_same 46 (codes "method " ++ words m) (words_quiet m h) refl solid_words)
    ∙ states_directive m h

-- ---- what the lines of a class say

abbrev said : List Insn → List Statement
said [] = []
said (i ∷ is) = Instruction (Ok (unresolved i)) ∷ said is

abbrev said_class : List ClassMethod → List Statement
said_class [] = Empty ∷ []
said_class (m ∷ ms) = Directive (Ok (header m)) ∷ (said m.instructions ++ said_class ms)

insns_text : (is : List Insn) (rest : List ℕ) → AllFit is → statements_of (canonical_text is ++ rest) ≡ said is ++ statements_of rest
insns_text [] rest h = refl
insns_text (i ∷ is) rest h =
    ap statements_of (append_assoc (line_of i ++ codes "\n") (canonical_text is) rest)
    ∙ one_line (line_of i) (canonical_text is ++ rest) (Instruction (Ok (unresolved i))) (line_quiet i h.0) (line_says i h.0)
    ∙ ap (λ r. Instruction (Ok (unresolved i)) ∷ r) (insns_text is rest h.1)

class_says : (ms : List ClassMethod) → AllByRecursion IsMethod ms → statements_of (methods_text ms) ≡ said_class ms
class_says [] h = no_line
class_says (m ∷ ms) h =
    ap statements_of (append_assoc (directive_line m ++ codes "\n") (canonical_text m.instructions) (methods_text ms))
    ∙ one_line (directive_line m) (canonical_text m.instructions ++ methods_text ms) (Directive (Ok (header m))) (directive_quiet m h.0) (says_directive m h.0)
    ∙ ap (λ r. Directive (Ok (header m)) ∷ r) (insns_text m.instructions (methods_text ms) h.0.fit ∙ ap (λ r. said m.instructions ++ r) (class_says ms h.1))

-- ---- reading them

said_free : (is : List Insn) → Free is_directive (said is)
said_free [] = tt
said_free (i ∷ is) = (refl, said_free is)

said_end : (is : List Insn) → said is ++ (Empty ∷ []) ≡ stated is
said_end [] = refl
said_end (i ∷ is) = ap (λ r. Instruction (Ok (unresolved i)) ∷ r) (said_end is)

stated_free : (is : List Insn) → Free is_directive (stated is)
stated_free [] = (refl, tt)
stated_free (i ∷ is) = (refl, stated_free is)

body_said : (all before : List Statement) (line slot : ℕ) (done is : List Insn) → AllFit is → slot + slot_total is ≤ SLOT_LIMIT → body_from all before line slot done (said is) ≡ Ok (done ++ is)
unfolding body_from
body_said all before line slot done [] h room = ap (λ r. Ok r) (sym (append-nil done))
body_said all before line slot done (i ∷ is) h room =
    let this = Instruction (Ok (unresolved i)) in
    rw (stands all before slot i h.0 (omega arith))
    (body_said all (before ++ (this ∷ [])) (line + 1) (slot + slot_count i) (done ++ (i ∷ [])) is h.1 (omega arith) ∙ ap (λ r. Ok r) (append_assoc done (i ∷ []) is))

-- the lines of a method, in which it reads as itself
record Holds (m : ClassMethod) (lines : List Statement) : Type 0 where
  reads : (line : ℕ) → body line lines ≡ Ok m.instructions
  some : has_instruction lines ≡ true

has_said : (is : List Insn) (rest : List Statement) → 1 ≤ slot_total is → has_instruction (said is ++ rest) ≡ true
has_said [] rest h = absurd (omega arith)
has_said (i ∷ is) rest h = some_instruction (Ok (unresolved i)) (said is ++ rest)

holds_end : (m : ClassMethod) → IsMethod m → Holds m (before_first is_directive (said m.instructions ++ (Empty ∷ [])))
holds_end m h =
    let whole : before_first is_directive (said m.instructions ++ (Empty ∷ [])) ≡ stated m.instructions = ap (before_first is_directive) (said_end m.instructions) ∙ before_none is_directive (stated m.instructions) (stated_free m.instructions) in
    let few = h.slots in
    let P : List Statement → Type 0 = Holds m in
    subst P (sym whole) (record { reads = λ line. body_stated (stated m.instructions) [] line 0 [] m.instructions h.fit (omega arith); some = ap has_instruction (sym (said_end m.instructions)) ∙ has_said m.instructions (Empty ∷ []) h.some_slot })

holds_before : (m : ClassMethod) (next : Result MethodHeader AsmFault) (rest : List Statement) → IsMethod m → Holds m (before_first is_directive (said m.instructions ++ (Directive next ∷ rest)))
holds_before m next rest h =
    let whole = before_at is_directive (said m.instructions) (Directive next) rest (said_free m.instructions) refl in
    let few = h.slots in
    let P : List Statement → Type 0 = Holds m in
    subst P (sym whole) (record { reads = λ line. body_said (said m.instructions) [] line 0 [] m.instructions h.fit (omega arith); some = ap has_instruction (sym (append-nil (said m.instructions))) ∙ has_said m.instructions [] h.some_slot })

holds : (m : ClassMethod) (ms : List ClassMethod) → IsMethod m → Holds m (before_first is_directive (said m.instructions ++ said_class ms))
holds m [] h = holds_end m h
holds m (n ∷ ms) h = holds_before m (Ok (header n)) (said n.instructions ++ said_class ms) h

-- the same method with other loops
abbrev looped : ClassMethod → Option PlainLoops → ClassMethod
looped m l = record { name = m.name; flags = m.flags; in_cap = m.in_cap; out_cap = m.out_cap; instructions = m.instructions; loops = l }

method_reads : (rules : RuleSet) (done : List ClassMethod) (line : ℕ) (m : ClassMethod) (lines : List Statement) → length done < METHOD_LIMIT → IsWithinSet rules m → m.loops ≡ None → is_above (last_name [] done) m.name ≡ true → Holds m lines → method_at rules done line (Ok (header m)) lines ≡ Ok m
method_reads rules done line m lines room within none above h =
    let test : nat_le METHOD_LIMIT (length done) ≡ false = grind (arith, nat_tests) in
    let small : is_within_set rules (header m) ≡ true = within_test rules (header m) within.in_cap within.out_cap in
    rw (test, h.some, small, above, h.reads (line + 1)) (ap (λ (l : Option PlainLoops). Ok (looped m l)) (sym none))

-- lines of a method that was read
skip : (rules : RuleSet) (done : List ClassMethod) (r : Result (List ClassMethod) AsmError) (rest : List Statement) → (length done == 0) ≡ false → ((line : ℕ) → class_from rules done line rest ≡ r) → (is : List Insn) (line : ℕ) → class_from rules done line (said is ++ rest) ≡ r
unfolding class_from
skip rules done r rest n f [] line = f line
skip rules done r rest n f (i ∷ is) line = rw n (skip rules done r rest n f is (line + 1))

-- each name is above the one before
abbrev NamesAbove : List ℕ → List ClassMethod → Type 0
NamesAbove before [] = Unit {0}
NamesAbove before (m ∷ ms) = (is_above before m.name ≡ true) × NamesAbove m.name ms

names_above : (m : ClassMethod) (ms : List ClassMethod) → NamesRise (m ∷ ms) → NamesAbove m.name ms
names_above m [] h = tt
names_above m (n ∷ ms) h = (ap is_lt h.0, names_above n ms h.1)

above_none : (name : List ℕ) → 1 ≤ length name → is_above [] name ≡ true
above_none [] h = absurd (none_more h)
above_none (x ∷ xs) h = refl

last_push : (before : List ℕ) (ms : List ClassMethod) (m : ClassMethod) → last_name before (ms ++ (m ∷ [])) ≡ m.name
last_push before [] m = refl
last_push before (x ∷ xs) m = last_push x.name xs m

push_some : (done : List ClassMethod) (m : ClassMethod) → (length (done ++ (m ∷ [])) == 0) ≡ false
push_some done m =
    let n = length-append done (m ∷ []) in
    let some : 1 ≤ length (done ++ (m ∷ [])) = omega arith in
    grind (arith, nat_tests)

class_reads : (rules : RuleSet) (done ms : List ClassMethod) → AllByRecursion IsMethod ms → AreWithinSet rules ms → HaveNoLoops ms → length done + length ms ≤ METHOD_LIMIT → NamesAbove (last_name [] done) ms → 1 ≤ length done + length ms → (line : ℕ) → class_from rules done line (said_class ms) ≡ Ok (done ++ ms)
unfolding class_from
class_reads rules done [] h w none few above some line =
    let test : (length done == 0) ≡ false = grind (arith, nat_tests) in
    rw test (ap (λ r. Ok r) (sym (append-nil done)))
class_reads rules done (m ∷ ms) h w none few above some line =
    let pushed = length-append done (m ∷ []) in
    let next : NamesAbove (last_name [] (done ++ (m ∷ []))) ms = rw (last_push [] done m) above.1 in
    rw (method_reads rules done line m (before_first is_directive (said m.instructions ++ said_class ms)) (omega arith) w.0 none.0 above.0 (holds m ms h.0))
    (skip rules (done ++ (m ∷ [])) (Ok (done ++ (m ∷ ms))) (said_class ms) (push_some done m)
    (λ l. class_reads rules (done ++ (m ∷ [])) ms h.1 w.1 none.1 (omega arith) next (omega arith) l ∙ ap (λ r. Ok r) (append_assoc done (m ∷ []) ms))
    m.instructions (line + 1))

directive_has : (d : Result MethodHeader AsmFault) (rest : List Statement) → has_instruction rest ≡ true → has_instruction (Directive d ∷ rest) ≡ true
directive_has d rest h = h

class_has : (ms : List ClassMethod) → AllByRecursion IsMethod ms → 1 ≤ length ms → has_instruction (said_class ms) ≡ true
class_has [] h some = absurd (omega arith)
class_has (m ∷ ms) h some = directive_has (Ok (header m)) (said m.instructions ++ said_class ms) (has_said m.instructions (said_class ms) h.0.some_slot)

names_from : (ms : List ClassMethod) → AllByRecursion IsMethod ms → NamesRise ms → NamesAbove [] ms
names_from [] h r = tt
names_from (m ∷ ms) h r = (above_none m.name h.0.named, names_above m ms r)

-- ---- the rule set

-- the line of a rule set that has one
abbrev pub rules_line : RuleSet → List ℕ
rules_line One = []
rules_line Two = codes ".rules 2"
rules_line Three = codes ".rules 3"

pub rules_quiet : (rules : RuleSet) → list_all is_quiet (rules_line rules) ≡ true
rules_quiet One = refl
rules_quiet Two = refl
rules_quiet Three = refl

states_two : statement_of (codes ".rules 2") ≡ Rules (Ok Two)
unfolding statement_of first_word after_word trim_start
states_two = rw (no_label_line (codes ".rules 2") (rules_quiet Two)) refl

states_three : statement_of (codes ".rules 3") ≡ Rules (Ok Three)
unfolding statement_of first_word after_word trim_start
states_three = rw (no_label_line (codes ".rules 3") (rules_quiet Three)) refl

solid_two : trim_end (codes ".rules 2") ≡ codes ".rules 2"
unfolding trim_end
solid_two = refl

solid_three : trim_end (codes ".rules 3") ≡ codes ".rules 3"
unfolding trim_end
solid_three = refl

says_two : statement_of (content (codes ".rules 2")) ≡ Rules (Ok Two)
says_two = ap statement_of (content_same 46 (codes "rules 2") (rules_quiet Two) refl solid_two) ∙ states_two

says_three : statement_of (content (codes ".rules 3")) ≡ Rules (Ok Three)
says_three = ap statement_of (content_same 46 (codes "rules 3") (rules_quiet Three) refl solid_three) ∙ states_three

-- what the lines of a class say
abbrev said_ruled : RuleSet → List ClassMethod → List Statement
said_ruled One ms = said_class ms
said_ruled Two ms = Rules (Ok Two) ∷ said_class ms
said_ruled Three ms = Rules (Ok Three) ∷ said_class ms

ruled_says : (rules : RuleSet) (ms : List ClassMethod) → AllByRecursion IsMethod ms → statements_of (rules_text rules ++ methods_text ms) ≡ said_ruled rules ms
ruled_says One ms h = class_says ms h
ruled_says Two ms h = one_line (codes ".rules 2") (methods_text ms) (Rules (Ok Two)) (rules_quiet Two) says_two ∙ ap (λ r. Rules (Ok Two) ∷ r) (class_says ms h)
ruled_says Three ms h = one_line (codes ".rules 3") (methods_text ms) (Rules (Ok Three)) (rules_quiet Three) says_three ∙ ap (λ r. Rules (Ok Three) ∷ r) (class_says ms h)

rules_has : (rules : RuleSet) (rest : List Statement) → has_instruction rest ≡ true → has_instruction (Rules (Ok rules) ∷ rest) ≡ true
rules_has rules rest h = h

ruled_has : (rules : RuleSet) (ms : List ClassMethod) → AllByRecursion IsMethod ms → 1 ≤ length ms → has_instruction (said_ruled rules ms) ≡ true
ruled_has One ms h some = class_has ms h some
ruled_has Two ms h some = rules_has Two (said_class ms) (class_has ms h some)
ruled_has Three ms h some = rules_has Three (said_class ms) (class_has ms h some)

-- methods alone are a class of rule set 1
ruled_one : (ms : List ClassMethod) (line : ℕ) → 1 ≤ length ms → ruled_from line (said_class ms) ≡ with_rules One (class_from One [] line (said_class ms))
unfolding ruled_from
ruled_one [] line some = absurd (omega arith)
ruled_one (m ∷ ms) line some = refl

-- the methods of a class from a line on
methods_read : (rules : RuleSet) (ms : List ClassMethod) → IsClass ms → AreWithinSet rules ms → HaveNoLoops ms → (line : ℕ) → class_from rules [] line (said_class ms) ≡ Ok ms
methods_read rules ms c w none line =
    let some = c.some in
    let limit = c.limit in
    class_reads rules [] ms c.methods w none (omega arith) (names_from ms c.methods c.names) (omega arith) line

ruled_reads : (rules : RuleSet) (ms : List ClassMethod) → IsClass ms → AreWithinSet rules ms → HaveNoLoops ms → ruled_from 1 (said_ruled rules ms) ≡ Ok (record { rules = rules; methods = ms })
unfolding ruled_from
ruled_reads One ms c w none = ruled_one ms 1 c.some ∙ ap (with_rules One) (methods_read One ms c w none 1)
ruled_reads Two ms c w none = ap (with_rules Two) (methods_read Two ms c w none 2)
ruled_reads Three ms c w none = ap (with_rules Three) (methods_read Three ms c w none 2)

-- the canonical text gives the class back
pub class_texts_give_back : ClassTextsGiveBack
unfolding read_class_text
class_texts_give_back c h w none =
    rw (ruled_says c.rules c.methods h.methods, ruled_has c.rules c.methods h.methods h.some) (ruled_reads c.rules c.methods h w none)
