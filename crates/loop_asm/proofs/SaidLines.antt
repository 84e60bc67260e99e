-- What the lines of a class with loops are.
use Rattle.std.proofs.Common.{◌≡◌, ℕ, ◌==◌, ◌≤◌, Bool, true, false, List, [], ◌∷◌, length, cond, None, Ok, Err, refl, sym, ap, ◌∙◌, codes}
use Rattle.std.specs.Str.{bytes_eq}
use Rattle.std.proofs.lemmas.Slice.Eq.{bytes_eq-Decides}
use Rattle.bpf_decode.specs.declared.insn.Insn.{Insn}
use Rattle.bpf_decode.specs.declared.insn.Insn.TheVariants.{LoadWide, Jump, JumpLong, Branch, CallLocal}
use Rattle.bpf_decode.specs.Instruction.{Fits, slot_count}
use Rattle.bpf_decode.specs.Class.{ClassMethod, IsMethod}
use Rattle.asm_lines.specs.declared.draft.Draft.{Draft}
use Rattle.asm_lines.specs.declared.fault.AsmFault.TheVariants as faults
use Rattle.asm_lines.specs.declared.statement.Statement.{Statement}
use Rattle.asm_lines.specs.declared.statement.Statement.TheVariants.{Empty, Label, Rules, Directive, Instruction}
use Rattle.asm_lines.specs.Words.{arithmetic_word, comparison_word, signed_move_word, end_word, word_of, form_of}
use Rattle.asm_lines.specs.Texts.{content, first_word}
use Rattle.asm_lines.specs.Drafts.{instruction_of}
use Rattle.asm_lines.specs.Statements.{is_label_line, statement_of}
use Rattle.asm_lines.specs.Canonical.{line_of, directive_line}
use Rattle.bpf_asm.specs.Bodies.{draft_slots, line_slots}
use Rattle.bpf_asm.specs.Classes.{is_directive}
use Rattle.bpf_decode.specs.declared.rule_set.RuleSet.TheVariants.{Three}
use Rattle.bpf_asm.proofs.OperandTexts.{length_some}
use Rattle.bpf_asm.proofs.InsnTexts.{unresolved, line_says}
use Rattle.loop_heads.specs.declared.place.HeadPlace.{HeadPlace}
use Rattle.loop_heads.specs.declared.limits.TheConstants.{BUDGET_LIMIT}
use Rattle.loop_lines.specs.HeadText.{ArePlaces, head_line, budget_line}
use Rattle.loop_lines.proofs.RoundTrip.{budget_reads, head_reads}
use Rattle.loop_asm.specs.Reading.{is_budget, is_head, is_loop_line, other, is_method}
use Rattle.loop_asm.proofs.Directives.{says_three, says_directive}

-- ---- lines that say no loops

-- a statement that no line of loops is read as
abbrev is_plain : Statement → Bool
is_plain Empty = false
is_plain (Label name) = false
is_plain (Rules rules) = true
is_plain (Directive header) = true
is_plain (Instruction (Ok d)) = true
is_plain (Instruction (Err fault)) = false

by_tests : (a b : Bool) (name : List ℕ) → is_plain (cond a Empty (cond b (Label name) (Instruction (Err faults.Word)))) ≡ false
by_tests true b name = refl
by_tests false true name = refl
by_tests false false name = refl

form_of_budget : form_of (codes ".budget") ≡ None
unfolding form_of word_of arithmetic_word comparison_word signed_move_word end_word
form_of_budget = refl

form_of_head : form_of (codes ".head") ≡ None
unfolding form_of word_of arithmetic_word comparison_word signed_move_word end_word
form_of_head = refl

budget_not_plain : (text : List ℕ) → first_word text ≡ codes ".budget" → is_plain (statement_of text) ≡ false
unfolding statement_of instruction_of
budget_not_plain text e = rw (e, form_of_budget) (by_tests (length text == 0) (is_label_line text) _)

head_not_plain : (text : List ℕ) → first_word text ≡ codes ".head" → is_plain (statement_of text) ≡ false
unfolding statement_of instruction_of
head_not_plain text e = rw (e, form_of_head) (by_tests (length text == 0) (is_label_line text) _)

no_budget : (text : List ℕ) → is_plain (statement_of text) ≡ true → (b : Bool) → b ≡ is_budget text → b ≡ false
no_budget text h false e = refl
no_budget text h true e =
    let no = budget_not_plain text ((bytes_eq-Decides (first_word text) (codes ".budget")).0 (sym e)) in
    absurd cc

no_head : (text : List ℕ) → is_plain (statement_of text) ≡ true → (b : Bool) → b ≡ is_head text → b ≡ false
no_head text h false e = refl
no_head text h true e =
    let no = head_not_plain text ((bytes_eq-Decides (first_word text) (codes ".head")).0 (sym e)) in
    absurd cc

-- a line that says no loops, by its content
pub record IsPlain (text : List ℕ) (s : Statement) : Type 0 where
  pub own : statement_of text ≡ s
  pub no_budget : is_budget text ≡ false
  pub no_head : is_head text ≡ false
  pub no_loops : is_loop_line text ≡ false
  pub other : other text ≡ s
  pub method : is_method text ≡ is_directive s

plain_by : (text : List ℕ) (s : Statement) → statement_of text ≡ s → is_budget text ≡ false → is_head text ≡ false → IsPlain text s
unfolding other
plain_by text s own b h =
    let none : is_loop_line text ≡ false = rw (b, h) refl in
    let says : other text ≡ s = rw none own in
    record { own = own; no_budget = b; no_head = h; no_loops = none; other = says; method = ap is_directive says }

plain : (text : List ℕ) (s : Statement) → statement_of text ≡ s → is_plain s ≡ true → IsPlain text s
plain text s own p =
    let q : is_plain (statement_of text) ≡ true = ap is_plain own ∙ p in
    plain_by text s own (no_budget text q (is_budget text) refl) (no_head text q (is_head text) refl)

pub plain_insn : (i : Insn) → Fits i → IsPlain (content (line_of i)) (Instruction (Ok (unresolved i)))
plain_insn i fits = plain (content (line_of i)) (Instruction (Ok (unresolved i))) (line_says i fits) refl

directive_plain : (s : Statement) → is_directive s ≡ true → is_plain s ≡ true
directive_plain Empty h = absurd cc
directive_plain (Label name) h = absurd cc
directive_plain (Rules rules) h = absurd cc
directive_plain (Directive header) h = refl
directive_plain (Instruction d) h = absurd cc

pub plain_directive : (m : ClassMethod) → IsMethod m → IsPlain (content (directive_line m)) (statement_of (content (directive_line m)))
plain_directive m h =
    let s = statement_of (content (directive_line m)) in
    plain (content (directive_line m)) s refl (directive_plain s (says_directive m h))

pub begins_method : (m : ClassMethod) → IsMethod m → is_method (content (directive_line m)) ≡ true
begins_method m h = (plain_directive m h).method ∙ says_directive m h

pub plain_three : IsPlain (content (codes ".rules 3")) (Rules (Ok Three))
plain_three = plain (content (codes ".rules 3")) (Rules (Ok Three)) says_three refl

empty_says : statement_of [] ≡ Empty
unfolding statement_of
empty_says = refl

empty_word : first_word [] ≡ []
unfolding first_word
empty_word = refl

pub plain_empty : IsPlain [] Empty
plain_empty = plain_by [] Empty empty_says (ap (λ w. bytes_eq w (codes ".budget")) empty_word) (ap (λ w. bytes_eq w (codes ".head")) empty_word)

-- how many slots an instruction's line takes
slots_same : (i : Insn) → draft_slots (Ok (unresolved i)) ≡ slot_count i
slots_same (Jump offset) = refl
slots_same (JumpLong distance) = refl
slots_same (Branch bits comparison dst source offset) = refl
slots_same (CallLocal distance) = refl
slots_same (LoadWide dst value) = refl
slots_same _ = refl

pub insn_slots : (i : Insn) → Fits i → line_slots (other (content (line_of i))) ≡ slot_count i
insn_slots i fits = ap line_slots (plain_insn i fits).other ∙ slots_same i

-- an instruction's line isn't empty
some_by : (text : List ℕ) (d : Draft) → statement_of text ≡ Instruction (Ok d) → (length text == 0) ≡ false
some_by [] d e = let n = empty_says in absurd cc
some_by (x ∷ xs) d e = length_some x xs

pub insn_some : (i : Insn) → Fits i → (length (content (line_of i)) == 0) ≡ false
insn_some i fits = some_by (content (line_of i)) (unresolved i) (line_says i fits)

-- ---- lines that say loops

pub budget_is : (n : ℕ) → 1 ≤ n → n ≤ BUDGET_LIMIT → is_budget (budget_line n) ≡ true
budget_is n some most = ap (λ w. bytes_eq w (codes ".budget")) (budget_reads n some most).0

pub head_is : (ps : List HeadPlace) → ArePlaces ps → is_head (head_line ps) ≡ true
head_is ps h = ap (λ w. bytes_eq w (codes ".head")) (head_reads ps h).0

loops_by : (text : List ℕ) → is_loop_line text ≡ true → other text ≡ Empty
unfolding other
loops_by text h = rw h refl

pub budget_other : (n : ℕ) → 1 ≤ n → n ≤ BUDGET_LIMIT → other (budget_line n) ≡ Empty
budget_other n some most =
    let loops : is_loop_line (budget_line n) ≡ true = rw (budget_is n some most) refl in
    loops_by (budget_line n) loops

pub head_other : (ps : List HeadPlace) → ArePlaces ps → other (head_line ps) ≡ Empty
head_other ps h =
    let word = (head_reads ps h).0 in
    let loops : is_loop_line (head_line ps) ≡ true = rw word refl in
    loops_by (head_line ps) loops
