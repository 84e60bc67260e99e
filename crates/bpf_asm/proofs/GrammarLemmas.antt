-- What is read is in the grammar, and what is in the grammar is read.
use Rattle.std.proofs.Common.{◌≡◌, ◌⊎◌, inl, inr, IfOk, IfErr, ℕ, ℤ, ◌+◌, ◌≤◌, Bool, true, false, List, [], ◌∷◌, ◌++◌, length, cond, Option, Some, None, is_some, Result, Ok, Err, refl, sym, ap, ◌∙◌, arith, append_assoc, nat_le, count_by, ◌*◌, subst, lit≤}
use Rattle.std.proofs.lemmas.List.Sums.{sum_by-append}
use Rattle.std.proofs.lemmas.Bool.Decides.{nat_tests}
use Rattle.std.proofs.lemmas.List.{append-nil}
use Rattle.bpf_decode.specs.declared.insn.Insn.{Insn}
use Rattle.bpf_decode.specs.declared.insn.Insn.TheVariants as insns
use Rattle.bpf_decode.specs.Instruction.{slot_count, slot_total}
use Rattle.asm_lines.specs.declared.fault.AsmFault.{AsmFault}
use Rattle.asm_lines.specs.declared.fault.AsmFault.TheVariants as faults
use Rattle.asm_lines.specs.declared.fault.AsmError.{AsmError}
use Rattle.asm_lines.specs.declared.draft.Draft.{Draft}
use Rattle.asm_lines.specs.declared.draft.Draft.TheVariants as drafts
use Rattle.asm_lines.specs.declared.statement.Statement.{Statement}
use Rattle.asm_lines.specs.declared.statement.Statement.TheVariants.{Empty, Label, Rules, Directive, Instruction}
use Rattle.asm_lines.specs.Operands.{filled}
use Rattle.asm_lines.specs.Statements.{statements_of}
use Rattle.bpf_asm.specs.Bodies.{draft_slots, slot_of_label, near, far, finished, instruction_at, proceed, body_from, body, bare_fault, is_instruction, has_instruction, read_text}
use Rattle.asm_lines.specs.Fault.{no_memory}
use Rattle.asm_lines.specs.Canonical.{canonical_text}
use Rattle.bpf_asm.specs.Laws.{TextsAreInGrammar}
use Rattle.bpf_asm.specs.Grammar.{LabelsOnce, SaysInsn, Says, IsMethodText, AreMethodLines}
use Rattle.bpf_asm.proofs.BodyLemmas.{one_slot}
use Rattle.bpf_asm.proofs.BodyTexts.{texts_give_back}
use Rattle.bpf_asm.proofs.StatementRelations.{text_says, says_text}
use Rattle.bpf_asm.proofs.JumpRelations.{says_insn, insn_said}
use Rattle.bpf_decode.specs.declared.limits.TheConstants.{SLOT_LIMIT}

one_by : (f : ℤ → Insn) → ((z : ℤ) → slot_count (f z) ≡ 1) → (r : Result ℤ AsmFault) (i : Insn) → filled f r ≡ Ok i → 1 ≡ slot_count i
one_by f g (Ok z) i h = let same : f z ≡ i = cc in sym (g z) ∙ ap slot_count same
one_by f g (Err e) i h = absurd cc

-- a line takes the slots of its instruction
pub slots_of : (all : List Statement) (slot : ℕ) (d : Draft) (i : Insn) → finished all slot d ≡ Ok i → draft_slots (Ok d) ≡ slot_count i
slots_of all slot (drafts.Plain insn) i h = let same : insn ≡ i = cc in ap slot_count same
slots_of all slot (drafts.Jump t) i h = one_by insns.Jump (λ z. refl) (near all slot t) i h
slots_of all slot (drafts.JumpLong t) i h = one_by insns.JumpLong (λ z. refl) (far all slot t) i h
slots_of all slot (drafts.Branch b c x s t) i h = one_by (insns.Branch b c x s) (λ z. refl) (near all slot t) i h
slots_of all slot (drafts.CallLocal t) i h = one_by insns.CallLocal (λ z. refl) (far all slot t) i h

stands_at : (all : List Statement) (slot : ℕ) (d : Draft) (i : Insn) → finished all slot d ≡ Ok i → slot + slot_count i ≤ SLOT_LIMIT → instruction_at all slot (Ok d) ≡ Ok (Some i)
stands_at all slot d i h room =
    let same = slots_of all slot d i h in
    let test : nat_le (slot + slot_count i) SLOT_LIMIT ≡ true = grind (arith, nat_tests) in
    rw (same, test, h) refl

-- what is in the grammar is read
reads : (all before : List Statement) (line slot : ℕ) (done is : List Insn) (ss : List Statement) → LabelsOnce before ss → Says all slot ss is → slot + slot_total is ≤ SLOT_LIMIT → body_from all before line slot done ss ≡ Ok (done ++ is)
unfolding body_from
reads all before line slot done [] [] l s room = ap (λ r. Ok r) (sym (append-nil done))
reads all before line slot done (i ∷ is) [] l s room = absurd s
reads all before line slot done is (Empty ∷ ss) l s room = reads all (before ++ (Empty ∷ [])) (line + 1) slot done is ss l.1 s room
reads all before line slot done is (Label name ∷ ss) l s room = rw l.0 (reads all (before ++ (Label name ∷ [])) (line + 1) slot done is ss l.1 s room)
reads all before line slot done is (Rules r ∷ ss) l s room = absurd s
reads all before line slot done is (Directive h ∷ ss) l s room = absurd s
reads all before line slot done [] (Instruction d ∷ ss) l s room = absurd s
reads all before line slot done (i ∷ is) (Instruction (Err f) ∷ ss) l s room = absurd s.0
reads all before line slot done (i ∷ is) (Instruction (Ok d) ∷ ss) l s room =
    rw (stands_at all slot d i (insn_said all slot d i s.0) (omega arith))
    (reads all (before ++ (Instruction (Ok d) ∷ [])) (line + 1) (slot + slot_count i) (done ++ (i ∷ [])) is ss l.1 s.1 (omega arith) ∙ ap (λ r. Ok r) (append_assoc done (i ∷ []) is))

-- ---- what is read is in the grammar

record IsRead (all before : List Statement) (slot : ℕ) (done : List Insn) (ss : List Statement) (r : List Insn) : Type 0 where
  insns : List Insn
  whole : r ≡ done ++ insns
  labels : LabelsOnce before ss
  says : Says all slot ss insns
  limit : slot + slot_total insns ≤ SLOT_LIMIT

first_label : (line : ℕ) (f : AsmFault) (o : Option ℕ) (x : Result (List Insn) AsmError) (y : Insn → Result (List Insn) AsmError) (r : List Insn) → proceed line (cond (is_some o) (Err f) (Ok None)) x y ≡ Ok r → (o ≡ None) × (x ≡ Ok r)
first_label line f None x y r h = (refl, h)
first_label line f (Some n) x y r h = absurd cc

record Stands (all : List Statement) (slot : ℕ) (d : Result Draft AsmFault) (y : Insn → Result (List Insn) AsmError) (r : List Insn) : Type 0 where
  insn : Insn
  says : SaysInsn all slot d insn
  room : slot + slot_count insn ≤ SLOT_LIMIT
  next : y insn ≡ Ok r

record Passed (b : Bool) (f : Result Insn AsmFault) (y : Insn → Result (List Insn) AsmError) (r : List Insn) : Type 0 where
  insn : Insn
  room : b ≡ true
  found : f ≡ Ok insn
  next : y insn ≡ Ok r

passed : (line : ℕ) (g : AsmFault) (b : Bool) (f : Result Insn AsmFault) (x : Result (List Insn) AsmError) (y : Insn → Result (List Insn) AsmError) (r : List Insn) → proceed line (cond b (filled Some f) (Err g)) x y ≡ Ok r → Passed b f y r
passed line g false f x y r h = absurd cc
passed line g true (Err e) x y r h = absurd cc
passed line g true (Ok i) x y r h = record { insn = i; room = refl; found = refl; next = h }

stood : (all : List Statement) (line slot : ℕ) (d : Result Draft AsmFault) (x : Result (List Insn) AsmError) (y : Insn → Result (List Insn) AsmError) (r : List Insn) → proceed line (instruction_at all slot d) x y ≡ Ok r → Stands all slot d y r
stood all line slot (Err f) x y r h = absurd cc
stood all line slot (Ok d) x y r h =
    let p = passed line faults.Range (nat_le (slot + draft_slots (Ok d)) SLOT_LIMIT) (finished all slot d) x y r h in
    let same = slots_of all slot d p.insn p.found in
    let within = p.room in
    let room : slot + draft_slots (Ok d) ≤ SLOT_LIMIT = grind (arith, nat_tests) in
    record { insn = p.insn; says = says_insn all slot d p.insn p.found; room = omega arith; next = p.next }

was_read : (all before : List Statement) (line slot : ℕ) (done : List Insn) (ss : List Statement) (r : List Insn) → slot ≤ SLOT_LIMIT → body_from all before line slot done ss ≡ Ok r → IsRead all before slot done ss r
unfolding body_from
was_read all before line slot done [] r room h =
    let same : done ≡ r = cc in
    record { insns = []; whole = sym same ∙ sym (append-nil done); labels = tt; says = tt; limit = omega arith }
was_read all before line slot done (Empty ∷ ss) r room h =
    let rest = was_read all (before ++ (Empty ∷ [])) (line + 1) slot done ss r room h in
    record { insns = rest.insns; whole = rest.whole; labels = (tt, rest.labels); says = rest.says; limit = rest.limit }
was_read all before line slot done (Label name ∷ ss) r room h =
    let first = first_label line faults.Label (slot_of_label name 0 before) (body_from all (before ++ (Label name ∷ [])) (line + 1) slot done ss) (λ i. body_from all (before ++ (Label name ∷ [])) (line + 1) (slot + slot_count i) (done ++ (i ∷ [])) ss) r h in
    let rest = was_read all (before ++ (Label name ∷ [])) (line + 1) slot done ss r room first.1 in
    record { insns = rest.insns; whole = rest.whole; labels = (first.0, rest.labels); says = rest.says; limit = rest.limit }
was_read all before line slot done (Rules d ∷ ss) r room h = absurd cc
was_read all before line slot done (Directive d ∷ ss) r room h = absurd cc
was_read all before line slot done (Instruction d ∷ ss) r room h =
    let s = stood all line slot d (body_from all (before ++ (Instruction d ∷ [])) (line + 1) slot done ss) (λ i. body_from all (before ++ (Instruction d ∷ [])) (line + 1) (slot + slot_count i) (done ++ (i ∷ [])) ss) r h in
    let rest = was_read all (before ++ (Instruction d ∷ [])) (line + 1) (slot + slot_count s.insn) (done ++ (s.insn ∷ [])) ss r s.room s.next in
    record { insns = s.insn ∷ rest.insns; whole = rest.whole ∙ append_assoc done (s.insn ∷ []) rest.insns; labels = (tt, rest.labels); says = (s.says, rest.says); limit = omega (arith, rest.limit) }

-- ---- instructions, lines and slots

count_cons : (x : Statement) (xs : List Statement) → count_by is_instruction (x ∷ xs) ≡ cond (is_instruction x) 1 0 + count_by is_instruction xs
count_cons x xs = omega (arith, sum_by-append (λ y. cond (is_instruction y) 1 0) (x ∷ []) xs)

counts : (all : List Statement) (slot : ℕ) (ss : List Statement) (is : List Insn) → Says all slot ss is → count_by is_instruction ss ≡ length is
counts all slot [] [] s = refl
counts all slot [] (i ∷ is) s = absurd s
counts all slot (Empty ∷ ss) is s = omega (arith, count_cons Empty ss, counts all slot ss is s)
counts all slot (Label name ∷ ss) is s = omega (arith, count_cons (Label name) ss, counts all slot ss is s)
counts all slot (Rules d ∷ ss) is s = absurd s
counts all slot (Directive d ∷ ss) is s = absurd s
counts all slot (Instruction d ∷ ss) [] s = absurd s
counts all slot (Instruction d ∷ ss) (i ∷ is) s = omega (arith, count_cons (Instruction d) ss, counts all (slot + slot_count i) ss is s.1)

two_slots : (i : Insn) → slot_count i ≤ 2
two_slots (insns.LoadWide dst value) = lit≤ tt
two_slots _ = lit≤ tt

total_low : (is : List Insn) → length is ≤ slot_total is
total_low [] = omega arith
total_low (i ∷ is) = omega (arith, one_slot i, total_low is)

total_high : (is : List Insn) → slot_total is ≤ 2 * length is
total_high [] = omega arith
total_high (i ∷ is) = omega (arith, two_slots i, total_high is)

-- ---- both ways

if_then : (b : Bool) (x : Result (List Insn) AsmError) (e : AsmError) (is : List Insn) → cond b x (Err e) ≡ Ok is → (b ≡ true) × (x ≡ Ok is)
if_then true x e is h = (refl, h)
if_then false x e is h = absurd cc

-- lines of a method that are read
pub read_lines : (line : ℕ) (ss : List Statement) (is : List Insn) → has_instruction ss ≡ true → body line ss ≡ Ok is → AreMethodLines ss is
read_lines line ss is has h =
    let w = was_read ss [] line 0 [] ss is (omega arith) h in
    let same = w.whole in
    let says : Says ss 0 ss is = subst (λ (v : List Insn). Says ss 0 ss v) (sym same) w.says in
    let limit : slot_total is ≤ SLOT_LIMIT = omega (arith, w.limit, ap slot_total same) in
    let counted = counts ss 0 ss is says in
    let many : 1 ≤ count_by is_instruction ss = grind (arith, nat_tests) in
    record { labels = w.labels; says = says; some = omega (arith, total_low is); limit = limit }

pub lines_have : (ss : List Statement) (is : List Insn) → AreMethodLines ss is → has_instruction ss ≡ true
lines_have ss is h =
    let some = h.some in
    let counted = counts ss 0 ss is h.says in
    let many : 1 ≤ count_by is_instruction ss = omega (arith, total_high is) in
    grind (arith, nat_tests)

pub lines_read : (line : ℕ) (ss : List Statement) (is : List Insn) → AreMethodLines ss is → body line ss ≡ Ok is
lines_read line ss is h = let limit = h.limit in reads ss [] line 0 [] is ss h.labels h.says (omega arith)

-- what is read is in the grammar
pub read_is_text : (text : List ℕ) (is : List Insn) → read_text text ≡ Ok is → IsMethodText text is
unfolding read_text
read_is_text text is h =
    let ss = statements_of text in
    let p = if_then (has_instruction ss) (body 1 ss) (record { line = 1; fault = bare_fault ss }) is h in
    let method = read_lines 1 ss is p.0 p.1 in
    record { lines = ss; say = text_says text; method = method }

-- and what is in the grammar is read
pub text_is_read : (text : List ℕ) (is : List Insn) → IsMethodText text is → read_text text ≡ Ok is
unfolding read_text
text_is_read text is h = rw (says_text text h.lines h.say, lines_have h.lines is h.method, lines_read 1 h.lines is h.method) refl

-- a text that is refused is none of the grammar
refused_is_none : (text : List ℕ) (e : AsmError) (is : List Insn) → read_text text ≡ Err e → IsMethodText text is → ⊥
refused_is_none text e is h t = let read = text_is_read text is t in absurd cc

pub none_if_refused : {V : Type 0} (r : Result V AsmError) (text : List ℕ) → IfErr r (λ e. (e ≡ no_memory) ⊎ (read_text text ≡ Err e)) → IfErr r (λ e. (e ≡ no_memory) ⊎ ((is : List Insn) → ¬ IsMethodText text is))
none_if_refused (Ok v) text h = tt
none_if_refused (Err e) text (inl h) = inl h
none_if_refused (Err e) text (inr h) = inr (λ is t. refused_is_none text e is h t)

-- a text is of one list of instructions alone
one_reading : (text : List ℕ) (v is : List Insn) → read_text text ≡ Ok v → IsMethodText text is → is ≡ v
one_reading text v is h t = let read = text_is_read text is t in cc

pub one_if_read : {V : Type 0} (items : V → List Insn) (r : Result V AsmError) (text : List ℕ) → IfOk r (λ v. read_text text ≡ Ok (items v)) → IfOk r (λ v. (is : List Insn) → IsMethodText text is → is ≡ items v)
one_if_read items (Err e) text h = tt
one_if_read items (Ok v) text h = λ is t. one_reading text (items v) is h t

-- and what is read is in the grammar
pub text_if_read : {V : Type 0} (items : V → List Insn) (r : Result V AsmError) (text : List ℕ) → IfOk r (λ v. read_text text ≡ Ok (items v)) → IfOk r (λ v. IsMethodText text (items v))
text_if_read items (Err e) text h = tt
text_if_read items (Ok v) text h = read_is_text text (items v) h

-- the canonical text is in the grammar
pub texts_in_grammar : TextsAreInGrammar
texts_in_grammar is fit some limit = read_is_text (canonical_text is) is (texts_give_back is fit some limit)
