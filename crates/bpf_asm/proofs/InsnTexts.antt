-- Each instruction's line is read as that instruction.
use Rattle.std.proofs.Common.{◌≡◌, ℕ, ℤ, pos, negsuc, ◌==◌, ◌≤◌, ◌<◌, ◌^◌, true, false, List, [], ◌∷◌, ◌++◌, length, Ok, refl, ap, ◌∙◌, arith, codes, append_assoc, FitsSigned, slice_index, suc, lit<, inr}
use Rattle.std.proofs.lemmas.Fmt.{decimal_nonempty}
use Rattle.std.specs.List.{list_all}
use Rattle.std.specs.Int.{w32}
use Rattle.std.specs.Str.{bytes_eq}
use Rattle.std.specs.Fmt.{decimal, signed_decimal}
use Rattle.bpf_decode.specs.declared.insn.Operand.{Operand}
use Rattle.bpf_decode.specs.declared.insn.Operand.TheVariants.{Immediate, Register}
use Rattle.bpf_decode.specs.declared.insn.Insn.{Insn}
use Rattle.bpf_decode.specs.declared.insn.Insn.TheVariants.{Alu, Neg, Mov, MovSigned, End, LoadWide, Load, LoadSigned, Store, Jump, JumpLong, Branch, Call, CallLocal, Exit}
use Rattle.bpf_decode.specs.Instruction.{Fits, OperandFits}
use Rattle.asm_lines.specs.declared.target.Target.TheVariants.{Slots}
use Rattle.asm_lines.specs.declared.form.Form.{Form}
use Rattle.asm_lines.specs.declared.form.Form.TheVariants as forms
use Rattle.asm_lines.specs.declared.draft.Draft.{Draft}
use Rattle.asm_lines.specs.declared.draft.Draft.TheVariants as drafts
use Rattle.asm_lines.specs.declared.statement.Statement.TheVariants.{Instruction}
use Rattle.asm_lines.specs.Words.{word_of, form_of, arithmetic_word, comparison_word, signed_move_word, end_word}
use Rattle.asm_lines.specs.Texts.{is_blank, trim_start, trim_end, trim, content, first_word, after_word, lone, is_label_name}
use Rattle.asm_lines.specs.Operands.{far_target_of}
use Rattle.asm_lines.specs.Drafts.{draft, call_of, instruction_of}
use Rattle.asm_lines.specs.Statements.{statement_of, is_label_line}
use Rattle.asm_lines.specs.Canonical.{register_text, source_text, offset_text, memory_text, wide_text, with_one, with_two, with_three, line_of}
use Rattle.bpf_asm.proofs.PlainBytes.{is_plain, is_quiet, Free, and_left, plain_blank, before_none, trim_end_free, trim_end_behind, trim_start_stays, trim_start_space, blanks_free, commas_free, quiet_where, all_append, cut_none, lone_piece, pair_pieces, triple_pieces}
use Rattle.bpf_asm.proofs.NumberTexts.{decimal_not, decimal_plain, helper_reads, immediate_reads, register_reads, register_plain, signed_plain, offset_plain}
use Rattle.bpf_asm.proofs.HexTexts.{wide_plain, wide_reads}
use Rattle.bpf_asm.proofs.OperandTexts.{source_reads, source_plain, near_plain, memory_reads, memory_plain, near_reads, far_reads}
use Rattle.bpf_asm.proofs.LineTexts.{one_of}
use Rattle.bpf_asm.proofs.WordLemmas.{word_plain}

none_more : 1 ≤ length {A = ℕ} [] → ⊥
none_more h = omega arith

-- one operand
one : (f : Form) (a : List ℕ) (d : Draft) → 1 ≤ length a → list_all is_plain a ≡ true → draft f a ≡ Ok d → statement_of (content (with_one (word_of f) a)) ≡ Instruction (Ok d)
one f [] d n p e = absurd (none_more n)
one f (x ∷ xs) d n p e =
    ap (λ t. statement_of (content t)) (append_assoc (word_of f) (codes " ") (x ∷ xs))
    ∙ one_of f x xs (quiet_where (x ∷ xs) p) (plain_blank x (and_left (is_plain x) (list_all is_plain xs) p)) (trim_end_free (x ∷ xs) (blanks_free (x ∷ xs) p))
    ∙ ap (λ r. Instruction r) e

-- a comma, a space and a solid end
comma_stays : (y : ℕ) (ys : List ℕ) → trim_end (y ∷ ys) ≡ y ∷ ys → trim_end (44 ∷ 32 ∷ y ∷ ys) ≡ 44 ∷ 32 ∷ y ∷ ys
unfolding trim_end
comma_stays y ys e = rw e refl

-- an operand, a comma and what ends with no blank
behind_one : (f : Form) (a : List ℕ) (y : ℕ) (ys : List ℕ) (d : Draft) → 1 ≤ length a → list_all is_plain a ≡ true → list_all is_quiet (y ∷ ys) ≡ true → trim_end (y ∷ ys) ≡ y ∷ ys → draft f (a ++ (44 ∷ 32 ∷ y ∷ ys)) ≡ Ok d → statement_of (content (word_of f ++ (32 ∷ (a ++ (44 ∷ 32 ∷ y ∷ ys))))) ≡ Instruction (Ok d)
behind_one f [] y ys d n p q t e = absurd (none_more n)
behind_one f (x ∷ xs) y ys d n p q t e =
    one_of f x (xs ++ (44 ∷ 32 ∷ y ∷ ys)) (all_append is_quiet (x ∷ xs) (44 ∷ 32 ∷ y ∷ ys) (quiet_where (x ∷ xs) p) q)
    (plain_blank x (and_left (is_plain x) (list_all is_plain xs) p))
    (trim_end_behind (x ∷ xs) 44 (32 ∷ y ∷ ys) (comma_stays y ys t))
    ∙ ap (λ r. Instruction r) e

shape_two : (w a b : List ℕ) → with_two w a b ≡ w ++ (32 ∷ (a ++ (44 ∷ 32 ∷ b)))
shape_two w a b = simp append_assoc

shape_three : (w a b c : List ℕ) → with_three w a b c ≡ w ++ (32 ∷ (a ++ (44 ∷ 32 ∷ (b ++ (44 ∷ 32 ∷ c)))))
shape_three w a b c = simp append_assoc

-- two operands
two : (f : Form) (a b : List ℕ) (d : Draft) → 1 ≤ length a → 1 ≤ length b → list_all is_plain a ≡ true → list_all is_plain b ≡ true → draft f (a ++ (44 ∷ 32 ∷ b)) ≡ Ok d → statement_of (content (with_two (word_of f) a b)) ≡ Instruction (Ok d)
two f a [] d n m p q e = absurd (none_more m)
two f a (y ∷ ys) d n m p q e =
    ap (λ t. statement_of (content t)) (shape_two (word_of f) a (y ∷ ys))
    ∙ behind_one f a y ys d n p (quiet_where (y ∷ ys) q) (trim_end_free (y ∷ ys) (blanks_free (y ∷ ys) q)) e

-- three operands
three : (f : Form) (a b c : List ℕ) (d : Draft) → 1 ≤ length a → 1 ≤ length b → 1 ≤ length c → list_all is_plain a ≡ true → list_all is_plain b ≡ true → list_all is_plain c ≡ true → draft f (a ++ (44 ∷ 32 ∷ (b ++ (44 ∷ 32 ∷ c)))) ≡ Ok d → statement_of (content (with_three (word_of f) a b c)) ≡ Instruction (Ok d)
three f a [] c d n m l p q r e = absurd (none_more m)
three f a (y ∷ ys) [] d n m l p q r e = absurd (none_more l)
three f a (y ∷ ys) (z ∷ zs) d n m l p q r e =
    let solid = trim_end_behind (y ∷ ys) 44 (32 ∷ z ∷ zs) (comma_stays z zs (trim_end_free (z ∷ zs) (blanks_free (z ∷ zs) r))) in
    let quiet = all_append is_quiet (y ∷ ys) (44 ∷ 32 ∷ z ∷ zs) (quiet_where (y ∷ ys) q) (quiet_where (z ∷ zs) r) in
    ap (λ t. statement_of (content t)) (shape_three (word_of f) a (y ∷ ys) (z ∷ zs))
    ∙ behind_one f a y (ys ++ (44 ∷ 32 ∷ z ∷ zs)) d n p quiet solid e

-- operands have a byte at least
register_some : (n : ℕ) → 1 ≤ length (register_text n)
register_some n = omega arith

signed_some : (z : ℤ) → FitsSigned w32 z → 1 ≤ length (signed_decimal z)
signed_some (pos n) h = decimal_nonempty n (omega arith)
signed_some (negsuc n) h = omega arith

source_some : (s : Operand) → OperandFits s → 1 ≤ length (source_text s)
source_some (Immediate z) h = signed_some z h
source_some (Register n) h = register_some n

offset_some : (z : ℤ) → 1 ≤ length (offset_text z)
offset_some (pos n) = omega arith
offset_some (negsuc n) = omega arith

memory_some : (base : ℕ) (z : ℤ) → 1 ≤ length (memory_text base z)
memory_some base z = omega arith

-- a line as it is read: labels are none
abbrev pub unresolved : Insn → Draft
unresolved (Alu bits operation dst source) = drafts.Plain (Alu bits operation dst source)
unresolved (Neg bits dst) = drafts.Plain (Neg bits dst)
unresolved (Mov bits dst source) = drafts.Plain (Mov bits dst source)
unresolved (MovSigned extension dst src) = drafts.Plain (MovSigned extension dst src)
unresolved (End order width dst) = drafts.Plain (End order width dst)
unresolved (LoadWide dst value) = drafts.Plain (LoadWide dst value)
unresolved (Load width dst base offset) = drafts.Plain (Load width dst base offset)
unresolved (LoadSigned width dst base offset) = drafts.Plain (LoadSigned width dst base offset)
unresolved (Store width base offset source) = drafts.Plain (Store width base offset source)
unresolved (Jump offset) = drafts.Jump (Slots offset)
unresolved (JumpLong distance) = drafts.JumpLong (Slots distance)
unresolved (Branch bits comparison dst source offset) = drafts.Branch bits comparison dst source (Slots offset)
unresolved (Call helper) = drafts.Plain (Call helper)
unresolved (CallLocal distance) = drafts.CallLocal (Slots distance)
unresolved Exit = drafts.Plain Exit

not_local : (ds : List ℕ) → (slice_index ds 0 == 108) ≡ false → bytes_eq ds (codes "local") ≡ false
not_local [] h = refl
not_local (x ∷ xs) h = rw h refl

call_reads : (n : ℕ) → n < 2 ^ 32 → call_of (decimal n) ≡ Ok (drafts.Plain (Call n))
unfolding call_of first_word
call_reads n h =
    let word = before_none is_blank (decimal n) (blanks_free (decimal n) (decimal_plain n (omega arith))) in
    rw (word, not_local (decimal n) (decimal_not n (omega arith) 0 108 (lit< tt) (inr (lit< tt))), helper_reads n h) refl

local_reads_at : (x : ℕ) (xs : List ℕ) (z : ℤ) → is_blank x ≡ false → far_target_of (x ∷ xs) ≡ Ok (Slots z) → call_of (codes "local" ++ (32 ∷ x ∷ xs)) ≡ Ok (drafts.CallLocal (Slots z))
unfolding call_of first_word after_word
local_reads_at x xs z s e =
    let rest : trim_start (32 ∷ x ∷ xs) ≡ x ∷ xs = trim_start_space (x ∷ xs) ∙ trim_start_stays x xs s in
    rw (rest, e) refl

local_line_at : (x : ℕ) (xs : List ℕ) (z : ℤ) → list_all is_plain (x ∷ xs) ≡ true → far_target_of (x ∷ xs) ≡ Ok (Slots z) → statement_of (content (with_one (word_of forms.Call) (codes "local " ++ (x ∷ xs)))) ≡ Instruction (Ok (drafts.CallLocal (Slots z)))
unfolding lone trim
local_line_at x xs z p e =
    let text = codes "local" ++ (32 ∷ x ∷ xs) in
    let blank = plain_blank x (and_left (is_plain x) (list_all is_plain xs) p) in
    let solid : trim_end text ≡ text = trim_end_behind (codes "local ") x xs (trim_end_free (x ∷ xs) (blanks_free (x ∷ xs) p)) in
    let commas : Free (λ c. c == 44) text = (refl, (refl, (refl, (refl, (refl, (refl, commas_free (x ∷ xs) p)))))) in
    let reads : draft forms.Call text ≡ Ok (drafts.CallLocal (Slots z)) =
    rw (cut_none text commas, trim_start_stays 108 (codes "ocal " ++ (x ∷ xs)) refl, solid) (local_reads_at x xs z blank e)
    in
    ap (λ t. statement_of (content t)) (append_assoc (word_of forms.Call) (codes " ") text)
    ∙ one_of forms.Call 108 (codes "ocal " ++ (x ∷ xs)) (quiet_where (x ∷ xs) p) refl solid
    ∙ ap (λ r. Instruction r) reads

local_line : (z : ℤ) → FitsSigned w32 z → statement_of (content (line_of (CallLocal z))) ≡ Instruction (Ok (drafts.CallLocal (Slots z)))
local_line (pos n) h = local_line_at 43 (decimal n) (pos n) (offset_plain (pos n) h) (far_reads (pos n) h)
local_line (negsuc n) h = local_line_at 45 (decimal (suc n)) (negsuc n) (offset_plain (negsuc n) h) (far_reads (negsuc n) h)

exit_line : statement_of (content (word_of forms.Exit)) ≡ Instruction (Ok (drafts.Plain Exit))
unfolding statement_of content trim trim_start trim_end is_label_line is_label_name instruction_of first_word after_word form_of word_of arithmetic_word comparison_word signed_move_word end_word
exit_line = refl

-- each instruction's line says it
pub line_says : (i : Insn) → Fits i → statement_of (content (line_of i)) ≡ Instruction (Ok (unresolved i))
line_says (Alu bits operation dst source) h =
    two (forms.Alu bits operation) (register_text dst) (source_text source) (drafts.Plain (Alu bits operation dst source)) (register_some dst) (source_some source h.1) (register_plain dst h.0) (source_plain source h.1)
    (rw (pair_pieces (register_text dst) (source_text source) (register_plain dst h.0) (source_plain source h.1), register_reads dst h.0, source_reads source h.1) refl)
line_says (Neg bits dst) h =
    one (forms.Neg bits) (register_text dst) (drafts.Plain (Neg bits dst)) (register_some dst) (register_plain dst h) (rw (lone_piece (register_text dst) (register_plain dst h), register_reads dst h) refl)
line_says (Mov bits dst source) h =
    two (forms.Mov bits) (register_text dst) (source_text source) (drafts.Plain (Mov bits dst source)) (register_some dst) (source_some source h.1) (register_plain dst h.0) (source_plain source h.1)
    (rw (pair_pieces (register_text dst) (source_text source) (register_plain dst h.0) (source_plain source h.1), register_reads dst h.0, source_reads source h.1) refl)
line_says (MovSigned extension dst src) h =
    two (forms.MovSigned extension) (register_text dst) (register_text src) (drafts.Plain (MovSigned extension dst src)) (register_some dst) (register_some src) (register_plain dst h.0) (register_plain src h.1)
    (rw (pair_pieces (register_text dst) (register_text src) (register_plain dst h.0) (register_plain src h.1), register_reads dst h.0, register_reads src h.1) refl)
line_says (End order width dst) h =
    one (forms.End order width) (register_text dst) (drafts.Plain (End order width dst)) (register_some dst) (register_plain dst h) (rw (lone_piece (register_text dst) (register_plain dst h), register_reads dst h) refl)
line_says (LoadWide dst value) h =
    two forms.LoadWide (register_text dst) (wide_text value) (drafts.Plain (LoadWide dst value)) (register_some dst) (omega arith) (register_plain dst h.0) (wide_plain value)
    (rw (pair_pieces (register_text dst) (wide_text value) (register_plain dst h.0) (wide_plain value), register_reads dst h.0, wide_reads value h.1) refl)
line_says (Load width dst base offset) h =
    two (forms.Load width) (register_text dst) (memory_text base offset) (drafts.Plain (Load width dst base offset)) (register_some dst) (memory_some base offset) (register_plain dst h.0) (memory_plain base offset h.1 h.2)
    (rw (pair_pieces (register_text dst) (memory_text base offset) (register_plain dst h.0) (memory_plain base offset h.1 h.2), register_reads dst h.0, memory_reads base offset h.1 h.2) refl)
line_says (LoadSigned width dst base offset) h =
    two (forms.LoadSigned width) (register_text dst) (memory_text base offset) (drafts.Plain (LoadSigned width dst base offset)) (register_some dst) (memory_some base offset) (register_plain dst h.0) (memory_plain base offset h.1 h.2)
    (rw (pair_pieces (register_text dst) (memory_text base offset) (register_plain dst h.0) (memory_plain base offset h.1 h.2), register_reads dst h.0, memory_reads base offset h.1 h.2) refl)
line_says (Store width base offset (Immediate imm)) h =
    two (forms.StoreNumber width) (memory_text base offset) (signed_decimal imm) (drafts.Plain (Store width base offset (Immediate imm))) (memory_some base offset) (signed_some imm h.2) (memory_plain base offset h.0 h.1) (signed_plain imm h.2)
    (rw (pair_pieces (memory_text base offset) (signed_decimal imm) (memory_plain base offset h.0 h.1) (signed_plain imm h.2), memory_reads base offset h.0 h.1, immediate_reads imm h.2) refl)
line_says (Store width base offset (Register src)) h =
    two (forms.StoreRegister width) (memory_text base offset) (register_text src) (drafts.Plain (Store width base offset (Register src))) (memory_some base offset) (register_some src) (memory_plain base offset h.0 h.1) (register_plain src h.2)
    (rw (pair_pieces (memory_text base offset) (register_text src) (memory_plain base offset h.0 h.1) (register_plain src h.2), memory_reads base offset h.0 h.1, register_reads src h.2) refl)
line_says (Jump offset) h =
    one forms.Jump (offset_text offset) (drafts.Jump (Slots offset)) (offset_some offset) (near_plain offset h) (rw (lone_piece (offset_text offset) (near_plain offset h), near_reads offset h) refl)
line_says (JumpLong distance) h =
    one forms.JumpLong (offset_text distance) (drafts.JumpLong (Slots distance)) (offset_some distance) (offset_plain distance h) (rw (lone_piece (offset_text distance) (offset_plain distance h), far_reads distance h) refl)
line_says (Branch bits comparison dst source offset) h =
    three (forms.Branch bits comparison) (register_text dst) (source_text source) (offset_text offset) (drafts.Branch bits comparison dst source (Slots offset)) (register_some dst) (source_some source h.2) (offset_some offset)
    (register_plain dst h.0) (source_plain source h.2) (near_plain offset h.1)
    (rw (triple_pieces (register_text dst) (source_text source) (offset_text offset) (register_plain dst h.0) (source_plain source h.2) (near_plain offset h.1), register_reads dst h.0, source_reads source h.2, near_reads offset h.1) refl)
line_says (Call helper) h =
    one forms.Call (decimal helper) (drafts.Plain (Call helper)) (decimal_nonempty helper (omega arith)) (decimal_plain helper (omega arith))
    (rw (lone_piece (decimal helper) (decimal_plain helper (omega arith))) (call_reads helper h))
line_says (CallLocal distance) h = local_line distance h
line_says Exit h = exit_line

-- no line of an instruction has a byte that ends it
quiet_one : (f : Form) (a : List ℕ) → list_all is_quiet a ≡ true → list_all is_quiet (with_one (word_of f) a) ≡ true
quiet_one f a p = all_append is_quiet (word_of f ++ codes " ") a (all_append is_quiet (word_of f) (codes " ") (quiet_where (word_of f) (word_plain f)) refl) p

quiet_two : (f : Form) (a b : List ℕ) → list_all is_plain a ≡ true → list_all is_plain b ≡ true → list_all is_quiet (with_two (word_of f) a b) ≡ true
quiet_two f a b p q =
    all_append is_quiet (with_one (word_of f) a ++ codes ", ") b (all_append is_quiet (with_one (word_of f) a) (codes ", ") (quiet_one f a (quiet_where a p)) refl) (quiet_where b q)

quiet_three : (f : Form) (a b c : List ℕ) → list_all is_plain a ≡ true → list_all is_plain b ≡ true → list_all is_plain c ≡ true → list_all is_quiet (with_three (word_of f) a b c) ≡ true
quiet_three f a b c p q r =
    all_append is_quiet (with_two (word_of f) a b ++ codes ", ") c (all_append is_quiet (with_two (word_of f) a b) (codes ", ") (quiet_two f a b p q) refl) (quiet_where c r)

pub line_quiet : (i : Insn) → Fits i → list_all is_quiet (line_of i) ≡ true
line_quiet (Alu bits operation dst source) h = quiet_two (forms.Alu bits operation) (register_text dst) (source_text source) (register_plain dst h.0) (source_plain source h.1)
line_quiet (Neg bits dst) h = quiet_one (forms.Neg bits) (register_text dst) (quiet_where (register_text dst) (register_plain dst h))
line_quiet (Mov bits dst source) h = quiet_two (forms.Mov bits) (register_text dst) (source_text source) (register_plain dst h.0) (source_plain source h.1)
line_quiet (MovSigned extension dst src) h = quiet_two (forms.MovSigned extension) (register_text dst) (register_text src) (register_plain dst h.0) (register_plain src h.1)
line_quiet (End order width dst) h = quiet_one (forms.End order width) (register_text dst) (quiet_where (register_text dst) (register_plain dst h))
line_quiet (LoadWide dst value) h = quiet_two forms.LoadWide (register_text dst) (wide_text value) (register_plain dst h.0) (wide_plain value)
line_quiet (Load width dst base offset) h = quiet_two (forms.Load width) (register_text dst) (memory_text base offset) (register_plain dst h.0) (memory_plain base offset h.1 h.2)
line_quiet (LoadSigned width dst base offset) h = quiet_two (forms.LoadSigned width) (register_text dst) (memory_text base offset) (register_plain dst h.0) (memory_plain base offset h.1 h.2)
line_quiet (Store width base offset (Immediate imm)) h = quiet_two (forms.StoreNumber width) (memory_text base offset) (signed_decimal imm) (memory_plain base offset h.0 h.1) (signed_plain imm h.2)
line_quiet (Store width base offset (Register src)) h = quiet_two (forms.StoreRegister width) (memory_text base offset) (register_text src) (memory_plain base offset h.0 h.1) (register_plain src h.2)
line_quiet (Jump offset) h = quiet_one forms.Jump (offset_text offset) (quiet_where (offset_text offset) (near_plain offset h))
line_quiet (JumpLong distance) h = quiet_one forms.JumpLong (offset_text distance) (quiet_where (offset_text distance) (offset_plain distance h))
line_quiet (Branch bits comparison dst source offset) h = quiet_three (forms.Branch bits comparison) (register_text dst) (source_text source) (offset_text offset) (register_plain dst h.0) (source_plain source h.2) (near_plain offset h.1)
line_quiet (Call helper) h = quiet_one forms.Call (decimal helper) (quiet_where (decimal helper) (decimal_plain helper (omega arith)))
line_quiet (CallLocal distance) h = quiet_one forms.Call (codes "local " ++ offset_text distance) (quiet_where (offset_text distance) (offset_plain distance h))
line_quiet Exit h = quiet_where (word_of forms.Exit) (word_plain forms.Exit)
