-- The lines that begin a class and a method: what they say. A class of one method is read back from its text, so that
-- its second line begins a method.
use Rattle.std.proofs.Common.{◌≡◌, ◌≤◌, Bool, true, false, List, [], ◌∷◌, ◌++◌, cond, None, Result, Ok, Err, refl, sym, ap, ◌∙◌, arith, codes, append_assoc, lit≤}
use Rattle.bpf_decode.specs.declared.insn.Insn.{Insn}
use Rattle.bpf_decode.specs.declared.rule_set.RuleSet.TheVariants.{Two, Three}
use Rattle.bpf_decode.specs.Instruction.{AllFit, slot_total}
use Rattle.bpf_decode.specs.Class.{ClassMethod, Class, IsMethod}
use Rattle.asm_lines.specs.declared.draft.Draft.{Draft}
use Rattle.asm_lines.specs.declared.fault.AsmFault.{AsmFault}
use Rattle.asm_lines.specs.declared.statement.Statement.{Statement}
use Rattle.asm_lines.specs.declared.statement.Statement.TheVariants.{Empty, Label, Rules, Directive, Instruction}
use Rattle.asm_lines.specs.Texts.{trim_start, trim_end, trim, content, first_word, after_word, is_label_name}
use Rattle.asm_lines.specs.Statements.{is_label_line, statement_of, statements_of}
use Rattle.asm_lines.specs.Canonical.{line_of, directive_line, canonical_text, class_text}
use Rattle.bpf_asm.specs.Classes.{AsmError, is_directive, class_from, ruled_from, class_assembled, read_class_text}
use Rattle.bpf_asm.proofs.BodyTexts.{one_line}
use Rattle.bpf_asm.proofs.ClassTexts.{directive_quiet, rules_quiet, class_texts_give_back}
use Rattle.bpf_asm.proofs.InsnTexts.{unresolved, line_says, line_quiet}

pub says_two : statement_of (content (codes ".rules 2")) ≡ Rules (Ok Two)
unfolding statement_of content trim trim_start trim_end first_word after_word is_label_line is_label_name
says_two = refl

pub says_three : statement_of (content (codes ".rules 3")) ≡ Rules (Ok Three)
unfolding statement_of content trim trim_start trim_end first_word after_word is_label_line is_label_name
says_three = refl

refused : (b : Bool) (e d : AsmError) (c : Class) → cond {A = Result Class AsmError} b (Err e) (Err d) ≡ Ok c → ⊥
refused true e d c h = cc
refused false e d c h = cc

-- a line that stands above an instruction in a class
begins : (s : Statement) (d : Result Draft AsmFault) (rest : List Statement) (c : Class) → class_assembled (Rules (Ok Three) ∷ s ∷ Instruction d ∷ rest) ≡ Ok c → is_directive s ≡ true
unfolding ruled_from class_from
begins Empty d rest c e = absurd (refused _ _ _ c e)
begins (Label name) d rest c e = absurd (refused _ _ _ c e)
begins (Rules rules) d rest c e = absurd (refused _ _ _ c e)
begins (Directive header) d rest c e = refl
begins (Instruction f) d rest c e = absurd (refused _ _ _ c e)

-- the class of a method alone, without its loops
abbrev plain : ClassMethod → ClassMethod
plain m = record { name = m.name; flags = m.flags; in_cap = m.in_cap; out_cap = m.out_cap; instructions = m.instructions; loops = None }

abbrev lone : ClassMethod → Class
lone m = record { rules = Three; methods = plain m ∷ [] }

plain_is : (m : ClassMethod) → IsMethod m → IsMethod (plain m)
plain_is m h = record {
  named = h.named;
  short = h.short;
  letters = h.letters;
  some_flag = h.some_flag;
  known_flags = h.known_flags;
  in_cap = h.in_cap;
  out_cap = h.out_cap;
  some_slot = h.some_slot;
  slots = h.slots;
  fit = h.fit;
  loops = tt;
}

lone_reads : (m : ClassMethod) → IsMethod m → class_assembled (statements_of (class_text (lone m))) ≡ Ok (lone m)
unfolding read_class_text
lone_reads m h =
    class_texts_give_back (lone m) (record { some = lit≤ tt; limit = lit≤ tt; methods = (plain_is m h, tt); names = tt }) (record { in_cap = h.in_cap; out_cap = h.out_cap; loops = tt }, tt) (refl, tt)

lone_says : (m : ClassMethod) → IsMethod m → (i : Insn) (is : List Insn) → AllFit (i ∷ is) → m.instructions ≡ i ∷ is
    → statements_of (class_text (lone m)) ≡ Rules (Ok Three) ∷ statement_of (content (directive_line m)) ∷ Instruction (Ok (unresolved i)) ∷ statements_of (canonical_text is ++ [])
lone_says m h i is fit e =
    let first = statement_of (content (directive_line m)) in
    one_line (codes ".rules 3") (((directive_line m ++ codes "\n") ++ canonical_text m.instructions) ++ []) (Rules (Ok Three)) (rules_quiet Three) says_three
    ∙ ap (λ (ss : List Statement). Rules (Ok Three) ∷ ss)
    (ap statements_of (append_assoc (directive_line m ++ codes "\n") (canonical_text m.instructions) [])
    ∙ one_line (directive_line m) (canonical_text m.instructions ++ []) first (directive_quiet m h) refl
    ∙ ap (λ (ss : List Statement). first ∷ ss)
    (ap (λ (k : List Insn). statements_of (canonical_text k ++ [])) e
    ∙ ap statements_of (append_assoc (line_of i ++ codes "\n") (canonical_text is) [])
    ∙ one_line (line_of i) (canonical_text is ++ []) (Instruction (Ok (unresolved i))) (line_quiet i fit.0) (line_says i fit.0)))

directive_by : (m : ClassMethod) → IsMethod m → (is : List Insn) → AllFit is → 1 ≤ slot_total is → m.instructions ≡ is → is_directive (statement_of (content (directive_line m))) ≡ true
directive_by m h [] fit some e = absurd (omega arith)
directive_by m h (i ∷ is) fit some e =
    begins (statement_of (content (directive_line m))) (Ok (unresolved i)) (statements_of (canonical_text is ++ [])) (lone m) (ap class_assembled (sym (lone_says m h i is fit e)) ∙ lone_reads m h)

pub says_directive : (m : ClassMethod) → IsMethod m → is_directive (statement_of (content (directive_line m))) ≡ true
says_directive m h = directive_by m h m.instructions h.fit h.some_slot refl
