-- The lines of instructions are read as those instructions.
use Rattle.std.proofs.Common.{◌≡◌, ℕ, ◌==◌, ◌-◌, Bool, true, false, List, [], ◌∷◌, ◌++◌, length, Some, None, refl, sym, ap, ◌∙◌, slice_index, codes, zero, suc}
use Rattle.std.specs.List.{list_all, before_first}
use Rattle.std.specs.Str.{bytes_eq}
use Rattle.std.proofs.lemmas.Slice.Eq.{bytes_eq-Decides}
use Rattle.asm_lines.specs.declared.form.Form.{Form}
use Rattle.asm_lines.specs.declared.statement.Statement.TheVariants.{Instruction}
use Rattle.asm_lines.specs.Words.{arithmetic_word, comparison_word, signed_move_word, end_word, word_of, form_of}
use Rattle.asm_lines.specs.Texts.{is_blank, trim_start, trim_end, trim, content, first_word, after_word}
use Rattle.asm_lines.specs.Drafts.{draft, instruction_of}
use Rattle.asm_lines.specs.Statements.{is_label_line, statement_of}
use Rattle.bpf_asm.proofs.PlainBytes.{is_plain, is_quiet, Free, and_left, plain_blank, free_where, before_at, before_none, drop_seam, trim_end_behind, trim_start_stays, trim_start_space, blanks_free, quiet_where, all_append, quiet_comment, quiet_colon}
use Rattle.bpf_asm.proofs.OperandTexts.{length_some}
use Rattle.bpf_asm.proofs.WordLemmas.{form_known, word_plain}

-- no byte at any index is a colon
free_index : (p : ℕ → Bool) → p 0 ≡ false → (xs : List ℕ) → Free p xs → (k : ℕ) → p (slice_index xs k) ≡ false
free_index p z [] f k = z
free_index p z (x ∷ xs) f zero = f.0
free_index p z (x ∷ xs) f (suc k) = free_index p z xs f.1 k

-- a quiet line is no label's
pub no_label_line : (text : List ℕ) → list_all is_quiet text ≡ true → is_label_line text ≡ false
unfolding is_label_line
no_label_line text q =
    let other = free_index (λ c. c == 58) refl text (free_where (λ c. c == 58) is_quiet quiet_colon text q) (length text - 1) in
    rw other refl

-- the content of a quiet line that begins and ends with no blank
pub content_same : (x : ℕ) (xs : List ℕ) → list_all is_quiet (x ∷ xs) ≡ true → is_blank x ≡ false → trim_end (x ∷ xs) ≡ x ∷ xs → content (x ∷ xs) ≡ x ∷ xs
unfolding content trim
content_same x xs q s e =
    let all = before_none (λ c. c == 59) (x ∷ xs) (free_where (λ c. c == 59) is_quiet quiet_comment (x ∷ xs) q) in
    ap (λ t. trim_end (trim_start t)) all ∙ ap trim_end (trim_start_stays x xs s) ∙ e

pub form_of_nil : form_of [] ≡ None
unfolding form_of word_of arithmetic_word comparison_word signed_move_word end_word
form_of_nil = refl

form_of_directive : form_of (codes ".method") ≡ None
unfolding form_of word_of arithmetic_word comparison_word signed_move_word end_word
form_of_directive = refl

form_of_rules : form_of (codes ".rules") ≡ None
unfolding form_of word_of arithmetic_word comparison_word signed_move_word end_word
form_of_rules = refl

pub none_is_some : (f : Form) → None ≡ Some f → ⊥
none_is_some f h = absurd cc

not_directive_by : (w : List ℕ) (f : Form) → form_of w ≡ Some f → (b : Bool) → b ≡ bytes_eq w (codes ".method") → b ≡ false
not_directive_by w f known false e = refl
not_directive_by w f known true e =
    let same : w ≡ codes ".method" = (bytes_eq-Decides w (codes ".method")).0 (sym e) in
    absurd (none_is_some f (sym form_of_directive ∙ sym (ap form_of same) ∙ known))

pub not_directive : (w : List ℕ) (f : Form) → form_of w ≡ Some f → bytes_eq w (codes ".method") ≡ false
not_directive w f known = not_directive_by w f known (bytes_eq w (codes ".method")) refl

not_rules_by : (w : List ℕ) (f : Form) → form_of w ≡ Some f → (b : Bool) → b ≡ bytes_eq w (codes ".rules") → b ≡ false
not_rules_by w f known false e = refl
not_rules_by w f known true e =
    let same : w ≡ codes ".rules" = (bytes_eq-Decides w (codes ".rules")).0 (sym e) in
    absurd (none_is_some f (sym form_of_rules ∙ sym (ap form_of same) ∙ known))

pub not_rules : (w : List ℕ) (f : Form) → form_of w ≡ Some f → bytes_eq w (codes ".rules") ≡ false
not_rules w f known = not_rules_by w f known (bytes_eq w (codes ".rules")) refl

space_stays : (x : ℕ) (xs : List ℕ) → trim_end (x ∷ xs) ≡ x ∷ xs → trim_end (32 ∷ x ∷ xs) ≡ 32 ∷ x ∷ xs
unfolding trim_end
space_stays x xs e = rw e refl

-- what such a line says, whose content it is
states : (f : Form) (y : ℕ) (ys : List ℕ) (x : ℕ) (xs : List ℕ) → list_all is_plain (y ∷ ys) ≡ true → form_of (y ∷ ys) ≡ Some f → list_all is_quiet ((y ∷ ys) ++ (32 ∷ x ∷ xs)) ≡ true → is_blank x ≡ false → statement_of ((y ∷ ys) ++ (32 ∷ x ∷ xs)) ≡ Instruction (draft f (x ∷ xs))
unfolding statement_of instruction_of first_word after_word
states f y ys x xs p known quiet s =
    let w = y ∷ ys in
    let line = w ++ (32 ∷ x ∷ xs) in
    let word : before_first is_blank line ≡ w = before_at is_blank w 32 (x ∷ xs) (blanks_free w p) refl in
    let rest : trim_start (32 ∷ x ∷ xs) ≡ x ∷ xs = trim_start_space (x ∷ xs) ∙ trim_start_stays x xs s in
    let some : (length line == 0) ≡ false = length_some y (ys ++ (32 ∷ x ∷ xs)) in
    rw (some, no_label_line line quiet, word, not_rules w f known, not_directive w f known, known, drop_seam w (32 ∷ x ∷ xs), rest) refl

-- a word, a space and what begins and ends with no blank
worded : (f : Form) (w : List ℕ) (x : ℕ) (xs : List ℕ) → list_all is_plain w ≡ true → form_of w ≡ Some f → list_all is_quiet (x ∷ xs) ≡ true → is_blank x ≡ false → trim_end (x ∷ xs) ≡ x ∷ xs → statement_of (content (w ++ (32 ∷ x ∷ xs))) ≡ Instruction (draft f (x ∷ xs))
worded f [] x xs p known q s e = absurd (none_is_some f (sym form_of_nil ∙ known))
worded f (y ∷ ys) x xs p known q s e =
    let w = y ∷ ys in
    let line = w ++ (32 ∷ x ∷ xs) in
    let quiet : list_all is_quiet line ≡ true = all_append is_quiet w (32 ∷ x ∷ xs) (quiet_where w p) q in
    let solid : trim_end line ≡ line = trim_end_behind w 32 (x ∷ xs) (space_stays x xs e) in
    ap statement_of (content_same y (ys ++ (32 ∷ x ∷ xs)) quiet (plain_blank y (and_left (is_plain y) (list_all is_plain ys) p)) solid)
    ∙ states f y ys x xs p known quiet s

pub one_of : (f : Form) (x : ℕ) (xs : List ℕ) → list_all is_quiet (x ∷ xs) ≡ true → is_blank x ≡ false → trim_end (x ∷ xs) ≡ x ∷ xs → statement_of (content (word_of f ++ (32 ∷ x ∷ xs))) ≡ Instruction (draft f (x ∷ xs))
one_of f x xs q s e = worded f (word_of f) x xs (word_plain f) (form_known f) q s e
