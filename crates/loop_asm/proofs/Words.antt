-- A line begins a method exactly by its first word.
use Rattle.std.proofs.Common.{◌≡◌, ℕ, zero, suc, ◌+◌, ◌-◌, ◌==◌, Bool, true, false, ◌||◌, not, cond, List, [], ◌∷◌, length, take, drop, Result, codes, refl, ap, sym, ◌∙◌, arith}
use Rattle.std.proofs.lemmas.Bool.{and_right, ne_eqb}
use Rattle.std.proofs.lemmas.Slice.Eq.{bytes_eq-Decides}
use Rattle.std.specs.List.{position_or_len}
use Rattle.std.specs.Str.{bytes_eq}
use Rattle.bpf_decode.specs.declared.rule_set.RuleSet.{RuleSet}
use Rattle.asm_lines.specs.declared.draft.Draft.{Draft}
use Rattle.asm_lines.specs.declared.fault.AsmFault.{AsmFault}
use Rattle.asm_lines.specs.declared.statement.Statement.{Statement}
use Rattle.asm_lines.specs.declared.statement.Statement.TheVariants.{Empty, Label, Rules, Directive, Instruction}
use Rattle.asm_lines.specs.Headers.{MethodHeader}
use Rattle.asm_lines.specs.Texts.{is_blank, first_word, after_word, is_label_name}
use Rattle.asm_lines.specs.Drafts.{instruction_of}
use Rattle.asm_lines.specs.Statements.{header_of, rules_of, is_label_line, statement_of}
use Rattle.bpf_asm.specs.Classes.{is_directive}
use Rattle.loop_asm.specs.Reading.{is_loop_line, other, is_method}

-- ---- a text that begins with a dot is no label's

neither : (b : Bool) → cond b false false ≡ false
neither true = refl
neither false = refl

no_name : (n : ℕ) (cs : List ℕ) → is_label_name (take n (46 ∷ cs)) ≡ false
unfolding is_label_name
no_name zero cs = refl
no_name (suc n) cs = neither (length (46 ∷ take n cs) == 0)

no_label : (cs : List ℕ) → is_label_line (46 ∷ cs) ≡ false
unfolding is_label_line
no_label cs = and_right _ (is_label_name (take (length (46 ∷ cs) - 1) (46 ∷ cs))) (no_name (length (46 ∷ cs) - 1) cs)

same_first : (b : Bool) (n c d : ℕ) (cs ds : List ℕ) → take (cond b (1 + n) 0) (c ∷ cs) ≡ d ∷ ds → c ≡ d
same_first true n c d cs ds h =
    let more : 1 + n ≡ suc n = omega arith in
    let begins : c ∷ take n cs ≡ d ∷ ds = sym (ap (λ (k : ℕ). take k (c ∷ cs)) more) ∙ h in
    cc
same_first false n c d cs ds h = absurd cc

-- what the word `.method` says of the text that it begins
begins_method : (text : List ℕ) → first_word text ≡ codes ".method" → ((length text == 0) ≡ false) × (is_label_line text ≡ false)
unfolding first_word
begins_method [] h = absurd cc
begins_method (c ∷ cs) h =
    let dot : c ≡ 46 = same_first (not (is_blank c)) (position_or_len is_blank cs) c 46 cs (drop 1 (codes ".method")) h in
    (ne_eqb (suc (length cs)) 0 (λ e. omega arith), ap (λ (k : ℕ). is_label_line (k ∷ cs)) dot ∙ no_label cs)

-- ---- what a line says, by its tests

abbrev by_tests : Bool → Bool → Bool → Bool → Bool → List ℕ → Result RuleSet AsmFault → Result MethodHeader AsmFault → Result Draft AsmFault → Statement
by_tests loops empty label rules method name r h d =
    cond loops Empty (cond empty Empty (cond label (Label name) (cond rules (Rules r) (cond method (Directive h) (Instruction d)))))

no_directive : (loops empty label rules : Bool) (name : List ℕ) (r : Result RuleSet AsmFault) (h : Result MethodHeader AsmFault) (d : Result Draft AsmFault) → is_directive (by_tests loops empty label rules false name r h d) ≡ false
no_directive true empty label rules name r h d = refl
no_directive false true label rules name r h d = refl
no_directive false false true rules name r h d = refl
no_directive false false false true name r h d = refl
no_directive false false false false name r h d = refl

directive : (loops empty label rules : Bool) (name : List ℕ) (r : Result RuleSet AsmFault) (h : Result MethodHeader AsmFault) (d : Result Draft AsmFault) → loops ≡ false → empty ≡ false → label ≡ false → rules ≡ false → is_directive (by_tests loops empty label rules true name r h d) ≡ true
directive loops empty label rules name r h d a b c e = rw (a, b, c, e) refl

-- with the test of the word `.method` as an argument
abbrev of_text : List ℕ → Bool → Statement
of_text text method =
    by_tests (is_loop_line text) (length text == 0) (is_label_line text) (bytes_eq (first_word text) (codes ".rules")) method (take (length text - 1) text) (rules_of (after_word text)) (header_of (after_word text)) (instruction_of text)

of_word : (text : List ℕ) (w : Bool) → bytes_eq (first_word text) (codes ".method") ≡ w → is_directive (of_text text w) ≡ w
of_word text false e =
    no_directive (is_loop_line text) (length text == 0) (is_label_line text) (bytes_eq (first_word text) (codes ".rules")) (take (length text - 1) text) (rules_of (after_word text)) (header_of (after_word text)) (instruction_of text)
of_word text true e =
    let word = (bytes_eq-Decides (first_word text) (codes ".method")).0 e in
    let begins = begins_method text word in
    directive (is_loop_line text) (length text == 0) (is_label_line text) (bytes_eq (first_word text) (codes ".rules")) (take (length text - 1) text) (rules_of (after_word text)) (header_of (after_word text)) (instruction_of text)
    (ap (λ (v : List ℕ). bytes_eq v (codes ".budget") || bytes_eq v (codes ".head")) word) begins.0 begins.1 (ap (λ (v : List ℕ). bytes_eq v (codes ".rules")) word)

by_word : (text : List ℕ) (w : Bool) → bytes_eq (first_word text) (codes ".method") ≡ w → is_method text ≡ w
unfolding other statement_of
by_word text w e = ap (λ (m : Bool). is_directive (of_text text m)) e ∙ of_word text w e

pub method_word : (text : List ℕ) → bytes_eq (first_word text) (codes ".method") ≡ is_method text
method_word text = sym (by_word text (bytes_eq (first_word text) (codes ".method")) refl)
