-- The canonical text of instructions is read as those instructions.
use Rattle.std.proofs.Common.{◌≡◌, ℕ, ℤ, pos, negsuc, ◌==◌, ◌&&◌, ◌+◌, ◌≤◌, true, List, [], ◌∷◌, ◌++◌, Some, Result, Ok, refl, sym, ap, ◌∙◌, arith, codes, append_assoc, FitsSigned, nat_le, nat_lt, int_le, count_by, cond}
use Rattle.std.proofs.lemmas.List.Sums.{sum_by-append}
use Rattle.asm_lines.specs.declared.fault.AsmFault.{AsmFault}
use Rattle.std.specs.List.{list_all, slice_split}
use Rattle.std.specs.Int.{w16, w32}
use Rattle.std.proofs.lemmas.Bool.Decides.{nat_tests}
use Rattle.std.proofs.lemmas.List.{append-nil}
use Rattle.bpf_decode.specs.declared.insn.Insn.{Insn}
use Rattle.bpf_decode.specs.declared.insn.Insn.TheVariants.{Alu, Neg, Mov, MovSigned, End, LoadWide, Load, LoadSigned, Store, Jump, JumpLong, Branch, Call, CallLocal, Exit}
use Rattle.bpf_decode.specs.Instruction.{Fits, AllFit, slot_count, slot_total}
use Rattle.asm_lines.specs.declared.draft.Draft.{Draft}
use Rattle.asm_lines.specs.declared.statement.Statement.{Statement}
use Rattle.asm_lines.specs.declared.statement.Statement.TheVariants.{Empty, Instruction}
use Rattle.asm_lines.specs.Texts.{content, trim, trim_start, trim_end}
use Rattle.asm_lines.specs.Statements.{statement_of, statements_of}
use Rattle.asm_lines.specs.Canonical.{line_of, canonical_text}
use Rattle.bpf_asm.specs.Bodies.{draft_slots, finished, line_at, body_from, is_instruction, assembled, read_text}
use Rattle.bpf_asm.specs.Laws.{TextsGiveBack}
use Rattle.bpf_asm.proofs.PlainBytes.{is_quiet, Free, free_where, quiet_feed}
use Rattle.bpf_asm.proofs.InsnTexts.{unresolved, line_says, line_quiet}
use Rattle.bpf_decode.specs.declared.limits.TheConstants.{SLOT_LIMIT}

-- a line feed ends a line that has none
pub split_line : (xs ys : List ℕ) → Free (λ c. c == 10) xs → slice_split (λ c. c == 10) (xs ++ (10 ∷ ys)) ≡ xs ∷ slice_split (λ c. c == 10) ys
split_line [] ys f = refl
split_line (x ∷ xs) ys f = rw (f.0, split_line xs ys f.1) refl

-- what the lines of instructions say, and the empty line after the last line feed
abbrev pub stated : List Insn → List Statement
stated [] = Empty ∷ []
stated (i ∷ is) = Instruction (Ok (unresolved i)) ∷ stated is

empty_line : statement_of (content []) ≡ Empty
unfolding statement_of content trim trim_start trim_end
empty_line = refl

-- a line and others below it
pub one_line : (line rest : List ℕ) (s : Statement) → list_all is_quiet line ≡ true → statement_of (content line) ≡ s → statements_of ((line ++ codes "\n") ++ rest) ≡ s ∷ statements_of rest
unfolding statements_of
one_line line rest s q e =
    rw (append_assoc line (codes "\n") rest, split_line line rest (free_where (λ c. c == 10) is_quiet quiet_feed line q), e) refl

pub no_line : statements_of [] ≡ Empty ∷ []
unfolding statements_of
no_line = rw empty_line refl

text_says : (is : List Insn) → AllFit is → statements_of (canonical_text is) ≡ stated is
text_says [] h = no_line
text_says (i ∷ is) h = one_line (line_of i) (canonical_text is) (Instruction (Ok (unresolved i))) (line_quiet i h.0) (line_says i h.0) ∙ ap (λ r. Instruction (Ok (unresolved i)) ∷ r) (text_says is h.1)

pub near_within : (z : ℤ) → FitsSigned w16 z → (int_le (negsuc 32767) z && int_le z (pos 32767)) ≡ true
near_within (pos n) h = grind (arith, nat_tests)
near_within (negsuc n) h = grind (arith, nat_tests)

pub far_within : (z : ℤ) → FitsSigned w32 z → (int_le (negsuc 2147483647) z && int_le z (pos 2147483647)) ≡ true
far_within (pos n) h = grind (arith, nat_tests)
far_within (negsuc n) h = grind (arith, nat_tests)

finishes : (all : List Statement) (slot : ℕ) (i : Insn) → Fits i → finished all slot (unresolved i) ≡ Ok i
finishes all slot (Alu bits operation dst source) h = refl
finishes all slot (Neg bits dst) h = refl
finishes all slot (Mov bits dst source) h = refl
finishes all slot (MovSigned extension dst src) h = refl
finishes all slot (End order width dst) h = refl
finishes all slot (LoadWide dst value) h = refl
finishes all slot (Load width dst base offset) h = refl
finishes all slot (LoadSigned width dst base offset) h = refl
finishes all slot (Store width base offset source) h = refl
finishes all slot (Jump offset) h = rw (near_within offset h) refl
finishes all slot (JumpLong distance) h = rw (far_within distance h) refl
finishes all slot (Branch bits comparison dst source offset) h = rw (near_within offset h.1) refl
finishes all slot (Call helper) h = refl
finishes all slot (CallLocal distance) h = rw (far_within distance h) refl
finishes all slot Exit h = refl

slots_same : (i : Insn) → draft_slots (Ok (unresolved i)) ≡ slot_count i
slots_same (Alu bits operation dst source) = refl
slots_same (Neg bits dst) = refl
slots_same (Mov bits dst source) = refl
slots_same (MovSigned extension dst src) = refl
slots_same (End order width dst) = refl
slots_same (LoadWide dst value) = refl
slots_same (Load width dst base offset) = refl
slots_same (LoadSigned width dst base offset) = refl
slots_same (Store width base offset source) = refl
slots_same (Jump offset) = refl
slots_same (JumpLong distance) = refl
slots_same (Branch bits comparison dst source offset) = refl
slots_same (Call helper) = refl
slots_same (CallLocal distance) = refl
slots_same Exit = refl

pub stands : (all before : List Statement) (slot : ℕ) (i : Insn) → Fits i → slot + slot_count i ≤ SLOT_LIMIT → line_at all before slot (Instruction (Ok (unresolved i))) ≡ Ok (Some i)
stands all before slot i h room =
    let test : nat_le (slot + slot_count i) SLOT_LIMIT ≡ true = grind (arith, nat_tests) in
    rw (slots_same i, test, finishes all slot i h) refl

pub body_stated : (all before : List Statement) (line slot : ℕ) (done is : List Insn) → AllFit is → slot + slot_total is ≤ SLOT_LIMIT → body_from all before line slot done (stated is) ≡ Ok (done ++ is)
unfolding body_from
body_stated all before line slot done [] h room = ap (λ r. Ok r) (sym (append-nil done))
body_stated all before line slot done (i ∷ is) h room =
    let this = Instruction (Ok (unresolved i)) in
    rw (stands all before slot i h.0 (omega arith))
    (body_stated all (before ++ (this ∷ [])) (line + 1) (slot + slot_count i) (done ++ (i ∷ [])) is h.1 (omega arith) ∙ ap (λ r. Ok r) (append_assoc done (i ∷ []) is))

pub some_instruction : (d : Result Draft AsmFault) (rest : List Statement) → nat_lt 0 (count_by is_instruction (Instruction d ∷ rest)) ≡ true
some_instruction d rest =
    let many : 1 ≤ count_by is_instruction (Instruction d ∷ rest) = omega (arith, sum_by-append (λ y. cond (is_instruction y) 1 0) (Instruction d ∷ []) rest) in
    grind (arith, nat_tests)

reads_back : (is : List Insn) → AllFit is → 1 ≤ slot_total is → slot_total is ≤ SLOT_LIMIT → assembled (stated is) ≡ Ok is
reads_back [] h some few = absurd (omega arith)
reads_back (i ∷ is) h some few =
    let counted : nat_lt 0 (count_by is_instruction (stated (i ∷ is))) ≡ true = some_instruction (Ok (unresolved i)) (stated is) in
    rw counted (body_stated (stated (i ∷ is)) [] 1 0 [] (i ∷ is) h (omega arith))

-- the canonical text gives the instructions back
pub texts_give_back : TextsGiveBack
unfolding read_text
texts_give_back is h some few = ap assembled (text_says is h) ∙ reads_back is h some few
