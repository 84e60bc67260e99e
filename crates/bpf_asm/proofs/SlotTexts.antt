-- The text of a class with slots is read as the same class: each slot stands in a comment.
use Rattle.std.proofs.Common.{◌≡◌, ℕ, ◌==◌, ◌+◌, ◌≤◌, Bool, true, false, List, [], ◌∷◌, ◌++◌, cond, refl, sym, ap, ◌∙◌, arith, codes, append_assoc}
use Rattle.std.specs.List.{list_all, before_first, AllByRecursion}
use Rattle.std.specs.Fmt.{decimal}
use Rattle.bpf_decode.specs.declared.insn.Insn.{Insn}
use Rattle.bpf_decode.specs.declared.rule_set.RuleSet.{RuleSet}
use Rattle.bpf_decode.specs.declared.rule_set.RuleSet.TheVariants.{One, Two, Three}
use Rattle.bpf_decode.specs.Instruction.{Fits, AllFit, slot_total, slot_count}
use Rattle.bpf_decode.specs.Class.{ClassMethod, IsMethod}
use Rattle.asm_lines.specs.Texts.{is_blank, onto_trimmed, trim_start, trim_end, trim, content}
use Rattle.asm_lines.specs.Statements.{statement_of, statements_of}
use Rattle.asm_lines.specs.Canonical.{line_of, directive_line, canonical_text, methods_text, rules_text, slot_line, code_with_slots, methods_with_slots, class_with_slots}
use Rattle.bpf_asm.specs.Classes.{class_assembled, read_class_text}
use Rattle.bpf_asm.specs.Laws.{SlotTextsGiveBack, SlotTextsAreInGrammar}
use Rattle.bpf_asm.proofs.PlainBytes.{is_quiet, Free, free_where, quiet_where, quiet_comment, quiet_feed, before_at, before_none, all_append}
use Rattle.bpf_asm.proofs.NumberTexts.{decimal_plain}
use Rattle.bpf_asm.proofs.InsnTexts.{line_quiet}
use Rattle.bpf_asm.proofs.BodyTexts.{split_line, one_line}
use Rattle.bpf_asm.proofs.ClassTexts.{directive_quiet, rules_quiet, class_texts_give_back}
use Rattle.bpf_asm.proofs.ClassGrammar.{read_is_class_text}
use Rattle.bpf_decode.specs.declared.limits.TheConstants.{SLOT_LIMIT}

-- ---- a comment says nothing

trim_end_space : (xs : List ℕ) → trim_end (xs ++ (32 ∷ [])) ≡ trim_end xs
unfolding trim_end
trim_end_space [] = refl
trim_end_space (x ∷ xs) = ap (onto_trimmed x) (trim_end_space xs)

trim_space_at : (b : Bool) (x : ℕ) (xs : List ℕ) → trim_end (trim_start (xs ++ (32 ∷ []))) ≡ trim_end (trim_start xs) → trim_end (cond b (trim_start (xs ++ (32 ∷ []))) (x ∷ (xs ++ (32 ∷ [])))) ≡ trim_end (cond b (trim_start xs) (x ∷ xs))
trim_space_at true x xs same = same
trim_space_at false x xs same = trim_end_space (x ∷ xs)

-- a space at the end
trims_space : (xs : List ℕ) → trim_end (trim_start (xs ++ (32 ∷ []))) ≡ trim_end (trim_start xs)
unfolding trim_start
trims_space [] = refl
trims_space (x ∷ xs) = trim_space_at (is_blank x) x xs (trims_space xs)

-- a line and a comment after a space
content_commented : (line tail : List ℕ) → list_all is_quiet line ≡ true → content (line ++ (32 ∷ 59 ∷ tail)) ≡ content line
unfolding content trim
content_commented line tail q =
    let spaced = line ++ (32 ∷ []) in
    let free : Free (λ c. c == 59) spaced = free_where (λ c. c == 59) is_quiet quiet_comment spaced (all_append is_quiet line (32 ∷ []) q refl) in
    let cut : before_first (λ c. c == 59) (line ++ (32 ∷ 59 ∷ tail)) ≡ spaced = ap (before_first (λ c. c == 59)) (sym (append_assoc line (32 ∷ []) (59 ∷ tail))) ∙ before_at (λ c. c == 59) spaced 59 tail free refl in
    let whole : before_first (λ c. c == 59) line ≡ line = before_none (λ c. c == 59) line (free_where (λ c. c == 59) is_quiet quiet_comment line q) in
    ap (λ t. trim_end (trim_start t)) cut ∙ trims_space line ∙ ap (λ t. trim_end (trim_start t)) (sym whole)

free_append : (p : ℕ → Bool) (xs ys : List ℕ) → Free p xs → Free p ys → Free p (xs ++ ys)
free_append p [] ys f g = g
free_append p (x ∷ xs) ys f g = (f.0, free_append p xs ys f.1 g)

-- ---- lines

-- what stands after an instruction's line
abbrev comment : ℕ → List ℕ
comment slot = codes " ; slot " ++ decimal slot

word_free : Free (λ c. c == 10) (codes " ; slot ")
word_free = (refl, (refl, (refl, (refl, (refl, (refl, (refl, (refl, tt))))))))

comment_free : (slot : ℕ) → slot ≤ SLOT_LIMIT → Free (λ c. c == 10) (comment slot)
comment_free slot few =
    let digits = free_where (λ c. c == 10) is_quiet quiet_feed (decimal slot) (quiet_where (decimal slot) (decimal_plain slot (omega arith))) in
    free_append (λ c. c == 10) (codes " ; slot ") (decimal slot) word_free digits

-- it says what the line says without the comment
commented_line : (line : List ℕ) (slot : ℕ) (rest : List ℕ) → list_all is_quiet line ≡ true → slot ≤ SLOT_LIMIT → statements_of ((line ++ comment slot) ++ (10 ∷ rest)) ≡ statement_of (content line) ∷ statements_of rest
unfolding statements_of
commented_line line slot rest q few =
    let free = free_append (λ c. c == 10) line (comment slot) (free_where (λ c. c == 10) is_quiet quiet_feed line q) (comment_free slot few) in
    rw (split_line (line ++ comment slot) rest free, content_commented line (codes " slot " ++ decimal slot) q) refl

-- an instruction's line with its slot, above others
slot_line_says : (slot : ℕ) (i : Insn) (rest : List ℕ) → Fits i → slot ≤ SLOT_LIMIT → statements_of ((slot_line slot i ++ codes "\n") ++ rest) ≡ statement_of (content (line_of i)) ∷ statements_of rest
slot_line_says slot i rest fits few =
    ap statements_of (append_assoc (slot_line slot i) (codes "\n") rest)
    ∙ ap (λ t. statements_of (t ++ (10 ∷ rest))) (append_assoc (line_of i) (codes " ; slot ") (decimal slot))
    ∙ commented_line (line_of i) slot rest (line_quiet i fits) few

-- below an equal line equal texts say the same
below_line : (line a b : List ℕ) → list_all is_quiet line ≡ true → statements_of a ≡ statements_of b → statements_of ((line ++ codes "\n") ++ a) ≡ statements_of ((line ++ codes "\n") ++ b)
below_line line a b q same =
    one_line line a (statement_of (content line)) q refl ∙ ap (λ r. statement_of (content line) ∷ r) same ∙ sym (one_line line b (statement_of (content line)) q refl)

-- ---- the text of a class

code_same : (slot : ℕ) (is : List Insn) (a b : List ℕ) → AllFit is → slot + slot_total is ≤ SLOT_LIMIT → statements_of a ≡ statements_of b → statements_of (code_with_slots slot is ++ a) ≡ statements_of (canonical_text is ++ b)
code_same slot [] a b fit few same = same
code_same slot (i ∷ is) a b fit few same =
    let this = statement_of (content (line_of i)) in
    ap statements_of (append_assoc (slot_line slot i ++ codes "\n") (code_with_slots (slot + slot_count i) is) a)
    ∙ slot_line_says slot i (code_with_slots (slot + slot_count i) is ++ a) fit.0 (omega arith)
    ∙ ap (λ r. this ∷ r) (code_same (slot + slot_count i) is a b fit.1 (omega arith) same)
    ∙ sym (one_line (line_of i) (canonical_text is ++ b) this (line_quiet i fit.0) refl)
    ∙ ap statements_of (sym (append_assoc (line_of i ++ codes "\n") (canonical_text is) b))

methods_same : (ms : List ClassMethod) → AllByRecursion IsMethod ms → statements_of (methods_with_slots ms) ≡ statements_of (methods_text ms)
methods_same [] h = refl
methods_same (m ∷ ms) h =
    let few = h.0.slots in
    let a = methods_with_slots ms in
    let b = methods_text ms in
    ap statements_of (append_assoc (directive_line m ++ codes "\n") (code_with_slots 0 m.instructions) a)
    ∙ below_line (directive_line m) (code_with_slots 0 m.instructions ++ a) (canonical_text m.instructions ++ b) (directive_quiet m h.0) (code_same 0 m.instructions a b h.0.fit (omega arith) (methods_same ms h.1))
    ∙ ap statements_of (sym (append_assoc (directive_line m ++ codes "\n") (canonical_text m.instructions) b))

class_same : (rules : RuleSet) (ms : List ClassMethod) → AllByRecursion IsMethod ms → statements_of (rules_text rules ++ methods_with_slots ms) ≡ statements_of (rules_text rules ++ methods_text ms)
class_same One ms h = methods_same ms h
class_same Two ms h = below_line (codes ".rules 2") (methods_with_slots ms) (methods_text ms) (rules_quiet Two) (methods_same ms h)
class_same Three ms h = below_line (codes ".rules 3") (methods_with_slots ms) (methods_text ms) (rules_quiet Three) (methods_same ms h)

pub slot_texts_give_back : SlotTextsGiveBack
unfolding read_class_text
slot_texts_give_back c h w none = ap class_assembled (class_same c.rules c.methods h.methods) ∙ class_texts_give_back c h w none

pub slot_texts_in_grammar : SlotTextsAreInGrammar
slot_texts_in_grammar c h w none = read_is_class_text (class_with_slots c) c (slot_texts_give_back c h w none)
