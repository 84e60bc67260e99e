-- What a line says is what the relations have it say.
use Rattle.std.proofs.Common.{◌≡◌, ℕ, map, lit≤, ◌+◌, ◌==◌, ◌-◌, ◌≤◌, Bool, true, false, List, [], ◌∷◌, ◌++◌, length, take, cond, Option, Some, None, Result, Ok, Err, inl, inr, refl, sym, ap, subst, ◌∙◌, arith, codes, slice_index, length-append}
use Rattle.std.specs.List.{onto_first, join_with_byte}
use Rattle.std.proofs.lemmas.List.Splits.{join_with_byte-slice_split, length-slice_split}
use Rattle.std.specs.Str.{bytes_eq}
use Rattle.std.proofs.Math.Seq.{take-append_seam}
use Rattle.std.proofs.lemmas.Slice.Eq.{bytes_eq-Decides}
use Rattle.std.proofs.lemmas.Bool.Decides.{nat_tests}
use Rattle.bpf_decode.specs.declared.insn.Operand.TheVariants.{Immediate, Register}
use Rattle.bpf_decode.specs.declared.insn.Insn.TheVariants as insns
use Rattle.bpf_decode.specs.Limits.{between, is_name_byte, are_name_bytes}
use Rattle.asm_lines.specs.declared.fault.AsmFault.{AsmFault}
use Rattle.asm_lines.specs.declared.form.Form.{Form}
use Rattle.asm_lines.specs.declared.form.Form.TheVariants.{Alu, Neg, Mov, MovSigned, End, LoadWide, Load, LoadSigned, StoreNumber, StoreRegister, Jump, JumpLong, Branch, Call, Exit}
use Rattle.asm_lines.specs.declared.draft.Draft.{Draft}
use Rattle.asm_lines.specs.declared.draft.Draft.TheVariants as drafts
use Rattle.asm_lines.specs.declared.statement.Statement.{Statement}
use Rattle.asm_lines.specs.declared.statement.Statement.TheVariants as statements
use Rattle.asm_lines.specs.Headers.{MethodHeader}
use Rattle.asm_lines.specs.Words.{word_of, form_of}
use Rattle.asm_lines.specs.Texts.{is_blank, content, first_word, after_word, is_label_name}
use Rattle.asm_lines.specs.Operands.{both, unsigned_of}
use Rattle.asm_lines.specs.Drafts.{draft_of, instruction_of}
use Rattle.bpf_decode.specs.declared.rule_set.RuleSet.{RuleSet}
use Rattle.bpf_decode.specs.declared.rule_set.RuleSet.TheVariants.{One, Two, Three}
use Rattle.asm_lines.specs.Statements.{flags_of, header_with, header_of, rules_of, is_label_line, statement_of, lines_of, statements_of}
use Rattle.bpf_asm.specs.Syntax.{Without, HasWord, IsDraftText, IsPlainText, AreFlags, IsRuleSet, IsDirectiveText}
use Rattle.bpf_asm.specs.Lines.{TextSays, IsStatementText, IsLine, AreLines}
use Rattle.bpf_asm.specs.Shapes.{AnyNumber, IsLabelText, AnyDirective, DirectiveFault, IsFaultyInstruction}
use Rattle.asm_lines.specs.declared.fault.AsmFault.TheVariants as faults
use Rattle.bpf_asm.proofs.ShapeLemmas.{Judged, judged_filled, judged_by, judged_both, judged_unsigned}
use Rattle.bpf_asm.proofs.FaultyLines.{other_shape, no_such, fault_is, is_fault}
use Rattle.std.proofs.lemmas.Option.{none-some}
use Rattle.bpf_asm.proofs.PlainBytes.{Free, and_left, and_right, before_none, quiet_where}
use Rattle.bpf_asm.proofs.TextLemmas.{front}
use Rattle.bpf_asm.proofs.OperandTexts.{length_some, last_byte}
use Rattle.bpf_asm.proofs.WordLemmas.{word_plain}
use Rattle.bpf_asm.proofs.LineTexts.{form_of_nil, none_is_some, not_rules, not_directive, no_label_line}
use Rattle.bpf_asm.proofs.ClassTexts.{flags_read}
use Rattle.bpf_asm.proofs.NumberRelations.{filled_is, unsigned_is, is_unsigned}
use Rattle.bpf_asm.proofs.BodyTexts.{split_line}
use Rattle.bpf_asm.proofs.CutRelations.{free_not, has_content, is_content, has_word, is_first, is_rest}
use Rattle.bpf_asm.proofs.LineRelations.{true_false, known_word, instruction_is, is_instruction}
use Rattle.bpf_decode.specs.Limits.{is_method_name}
use Rattle.bpf_decode.specs.declared.limits.TheConstants.{CAPACITY_LIMIT}

-- ---- labels

name_free : (name : List ℕ) → are_name_bytes name ≡ true → Free is_blank name
name_free [] h = tt
name_free (b ∷ bs) h =
    let byte = and_left (is_name_byte b) (are_name_bytes bs) h in
    let other : is_blank b ≡ false = grind (arith, nat_tests) in
    (other, name_free bs (and_right (is_name_byte b) (are_name_bytes bs) h))

free_push : (xs : List ℕ) (y : ℕ) → Free is_blank xs → is_blank y ≡ false → Free is_blank (xs ++ (y ∷ []))
free_push [] y f h = (h, tt)
free_push (x ∷ xs) y f h = (f.0, free_push xs y f.1 h)

name_bytes : (name : List ℕ) → is_label_name name ≡ true → are_name_bytes name ≡ true
unfolding is_label_name
name_bytes [] h = absurd cc
name_bytes (b ∷ bs) h = and_right (between 97 122 b) (are_name_bytes (b ∷ bs)) (rw (length_some b bs) at h)

record IsLabel (text : List ℕ) : Type 0 where
  whole : text ≡ take (length text - 1) text ++ codes ":"
  name : is_label_name (take (length text - 1) text) ≡ true

label_is : (text : List ℕ) → is_label_line text ≡ true → IsLabel text
unfolding is_label_line is_label_name
label_is [] h = absurd cc
label_is (x ∷ xs) h =
    let text = x ∷ xs in
    let test = and_left (slice_index text (length text - 1) == 58) (is_label_name (take (length text - 1) text)) h in
    let last : slice_index text (length text - 1) ≡ 58 = grind (arith, nat_tests) in
    record {
      whole = front text (omega arith) ∙ ap (λ c. take (length text - 1) text ++ (c ∷ [])) last;
      name = and_right (slice_index text (length text - 1) == 58) (is_label_name (take (length text - 1) text)) h;
    }

-- a label's line is one word
label_word : (text : List ℕ) → is_label_line text ≡ true → first_word text ≡ text
unfolding first_word
label_word text h =
    let l = label_is text h in
    let free = free_push (take (length text - 1) text) 58 (name_free (take (length text - 1) text) (name_bytes (take (length text - 1) text) l.name)) refl in
    before_none is_blank text (subst (λ (t : List ℕ). Free is_blank t) (sym l.whole) free)

no_label_by : (text word rest : List ℕ) → HasWord text word rest → is_label_line word ≡ false → (b : Bool) → b ≡ is_label_line text → b ≡ false
no_label_by text word rest h n false e = refl
no_label_by text word rest h n true e =
    let same : text ≡ word = sym (label_word text (sym e)) ∙ is_first text word rest h in
    absurd (true_false (e ∙ ap is_label_line same ∙ n))

no_label : (text word rest : List ℕ) → HasWord text word rest → is_label_line word ≡ false → is_label_line text ≡ false
no_label text word rest h n = no_label_by text word rest h n (is_label_line text) refl

label_line : (name : List ℕ) → is_label_name name ≡ true → is_label_line (name ++ codes ":") ≡ true
unfolding is_label_line
label_line name h =
    let whole : length (name ++ (58 ∷ [])) ≡ length name + 1 = length-append name (58 ∷ []) in
    let less : length name + 1 - 1 ≡ length name = omega arith in
    rw (whole, less, last_byte name 58, take-append_seam name (58 ∷ []), h) refl

is_label : (name : List ℕ) → is_label_name name ≡ true → statement_of (name ++ codes ":") ≡ statements.Label name
unfolding statement_of is_label_line
is_label name h =
    let whole : length (name ++ (58 ∷ [])) ≡ length name + 1 = length-append name (58 ∷ []) in
    let some : (length name + 1 == 0) ≡ false = grind (arith, nat_tests) in
    let less : length name + 1 - 1 ≡ length name = omega arith in
    rw (whole, some, less, last_byte name 58, take-append_seam name (58 ∷ []), h) refl

-- ---- the first line of a method

both_found : {A B : Type 0} (a : Result A AsmFault) (b : Result B AsmFault) (p : A × B) → both a b ≡ Ok p → (a ≡ Ok p.0) × (b ≡ Ok p.1)
both_found (Ok a) (Ok b) p h = let same : (a, b) ≡ p = cc in (ap (λ q. Ok q.0) same, ap (λ q. Ok q.1) same)
both_found (Ok a) (Err g) p h = absurd cc
both_found (Err f) (Ok b) p h = absurd cc
both_found (Err f) (Err g) p h = absurd cc

flags_at : (text : List ℕ) (n : ℕ) (a b c : Bool) → a ≡ bytes_eq text (codes "r") → b ≡ bytes_eq text (codes "w") → c ≡ bytes_eq text (codes "rw") → cond a (Some 1) (cond b (Some 2) (cond c (Some 3) None)) ≡ Some n → AreFlags text n
flags_at text n true b c d e f h =
    let same : 1 ≡ n = cc in
    subst (λ (m : ℕ). AreFlags text m) same (lit≤ tt, lit≤ tt, (bytes_eq-Decides text (codes "r")).0 (sym d))
flags_at text n false true c d e f h =
    let same : 2 ≡ n = cc in
    subst (λ (m : ℕ). AreFlags text m) same (lit≤ tt, lit≤ tt, (bytes_eq-Decides text (codes "w")).0 (sym e))
flags_at text n false false true d e f h =
    let same : 3 ≡ n = cc in
    subst (λ (m : ℕ). AreFlags text m) same (lit≤ tt, lit≤ tt, (bytes_eq-Decides text (codes "rw")).0 (sym f))
flags_at text n false false false d e f h = absurd cc

flags_are : (text : List ℕ) (n : ℕ) → flags_of text ≡ Some n → AreFlags text n
unfolding flags_of
flags_are text n h = flags_at text n (bytes_eq text (codes "r")) (bytes_eq text (codes "w")) (bytes_eq text (codes "rw")) refl refl refl h

record IsHeaded (named : Bool) (name : List ℕ) (flags : Option ℕ) (caps : List ℕ) (h : MethodHeader) : Type 0 where
  is_named : named ≡ true
  is_name : name ≡ h.name
  are_flags : flags ≡ Some h.flags
  is_in_cap : unsigned_of CAPACITY_LIMIT (first_word caps) ≡ Ok h.in_cap
  is_out_cap : unsigned_of CAPACITY_LIMIT (after_word caps) ≡ Ok h.out_cap

headed : (named : Bool) (name : List ℕ) (flags : Option ℕ) (caps : List ℕ) (h : MethodHeader) → header_with named name flags caps ≡ Ok h → IsHeaded named name flags caps h
headed named name None caps h e = absurd cc
headed false name (Some f) caps h e = absurd cc
headed true name (Some f) caps h e =
    let p = filled_is (λ p. record { name = name; flags = f; in_cap = p.0; out_cap = p.1 }) (both (unsigned_of CAPACITY_LIMIT (first_word caps)) (unsigned_of CAPACITY_LIMIT (after_word caps))) h e in
    let b = both_found (unsigned_of CAPACITY_LIMIT (first_word caps)) (unsigned_of CAPACITY_LIMIT (after_word caps)) p.from p.read in
    subst (λ (v : MethodHeader). IsHeaded true name (Some f) caps v) p.is (record { is_named = refl; is_name = refl; are_flags = refl; is_in_cap = b.0; is_out_cap = b.1 })

directive_is : (text : List ℕ) (h : MethodHeader) → first_word text ≡ codes ".method" → header_of (after_word text) ≡ Ok h → IsDirectiveText text h
unfolding header_of
directive_is text h w e =
    let rest = after_word text in
    let flags = first_word (after_word rest) in
    let caps = after_word (after_word rest) in
    let p = headed (is_method_name (first_word rest)) (first_word rest) (flags_of flags) caps h e in
    record {
      behind_word = rest;
      behind_name = after_word rest;
      flags = flags;
      caps = caps;
      in_cap = first_word caps;
      out_cap = after_word caps;
      word = subst (λ (v : List ℕ). HasWord text v rest) w (has_word text);
      name = subst (λ (v : List ℕ). HasWord rest v (after_word rest)) p.is_name (has_word rest);
      is_name = sym (ap is_method_name p.is_name) ∙ p.is_named;
      flags_word = has_word (after_word rest);
      are_flags = flags_are flags h.flags p.are_flags;
      in_cap_word = has_word caps;
      is_in_cap = unsigned_is CAPACITY_LIMIT (first_word caps) h.in_cap p.is_in_cap;
      is_out_cap = unsigned_is CAPACITY_LIMIT (after_word caps) h.out_cap p.is_out_cap;
    }

is_directive : (text : List ℕ) (h : MethodHeader) → IsDirectiveText text h → header_of (after_word text) ≡ Ok h
unfolding header_of
is_directive text h d =
    let flags : flags_of d.flags ≡ Some h.flags = ap flags_of d.are_flags.2 ∙ flags_read h.flags d.are_flags.0 d.are_flags.1 in
    rw (is_rest text (codes ".method") d.behind_word d.word, is_first d.behind_word h.name d.behind_name d.name, is_rest d.behind_word h.name d.behind_name d.name, d.is_name, is_first d.behind_name d.flags d.caps d.flags_word, is_rest d.behind_name d.flags d.caps d.flags_word, flags, is_first d.caps d.in_cap d.out_cap d.in_cap_word, is_rest d.caps d.in_cap d.out_cap d.in_cap_word, is_unsigned CAPACITY_LIMIT d.in_cap h.in_cap d.is_in_cap, is_unsigned CAPACITY_LIMIT d.out_cap h.out_cap d.is_out_cap) refl

-- ---- directives that are none of their form

judged_header_at : (text : List ℕ) (named : Bool) (o : Option ℕ) → named ≡ is_method_name (first_word text) → o ≡ flags_of (first_word (after_word text)) → Judged (AnyDirective text) (header_with named (first_word text) o (after_word (after_word text)))
judged_header_at text named None e f = inl (refl, no_flags)
  where
    no_flags : ¬ AnyDirective text
    no_flags d = none-some d.flags (f ∙ ap (λ (t : List ℕ). flags_of (first_word t)) (is_rest text d.name d.behind_name d.name_word) ∙ ap flags_of (is_first d.behind_name d.flags_text d.caps d.flags_word ∙ d.are_flags.2) ∙ flags_read d.flags d.are_flags.0 d.are_flags.1)
judged_header_at text false (Some flags) e f = inl (refl, λ d. true_false (sym (e ∙ ap is_method_name (is_first text d.name d.behind_name d.name_word) ∙ d.is_name)))
judged_header_at text true (Some flags) e f =
    let caps = after_word (after_word text) in
    judged_filled _ _ (both (unsigned_of CAPACITY_LIMIT (first_word caps)) (unsigned_of CAPACITY_LIMIT (after_word caps)))
    (judged_by (both (unsigned_of CAPACITY_LIMIT (first_word caps)) (unsigned_of CAPACITY_LIMIT (after_word caps))) to from (judged_both _ _ (unsigned_of CAPACITY_LIMIT (first_word caps)) (unsigned_of CAPACITY_LIMIT (after_word caps)) (judged_unsigned CAPACITY_LIMIT (first_word caps)) (judged_unsigned CAPACITY_LIMIT (after_word caps))))
  where
    to : AnyNumber (first_word (after_word (after_word text))) × AnyNumber (after_word (after_word (after_word text))) → AnyDirective text
    to p =
        let rest = after_word text in
        let caps = after_word rest in
        record {
          behind_name = rest;
          name = first_word text;
          flags_text = first_word rest;
          flags = flags;
          caps = caps;
          in_cap = first_word caps;
          out_cap = after_word caps;
          name_word = has_word text;
          is_name = sym e;
          flags_word = has_word rest;
          are_flags = flags_are (first_word rest) flags (sym f);
          in_cap_word = has_word caps;
          is_in_cap = p.0;
          is_out_cap = p.1;
        }

    from : AnyDirective text → AnyNumber (first_word (after_word (after_word text))) × AnyNumber (after_word (after_word (after_word text)))
    from d =
        let caps : after_word (after_word text) ≡ d.caps = ap after_word (is_rest text d.name d.behind_name d.name_word) ∙ is_rest d.behind_name d.flags_text d.caps d.flags_word in
        let in_cap : first_word (after_word (after_word text)) ≡ d.in_cap = ap first_word caps ∙ is_first d.caps d.in_cap d.out_cap d.in_cap_word in
        let out_cap : after_word (after_word (after_word text)) ≡ d.out_cap = ap after_word caps ∙ is_rest d.caps d.in_cap d.out_cap d.in_cap_word in
        (subst (λ (t : List ℕ). AnyNumber t) (sym in_cap) d.is_in_cap, subst (λ (t : List ℕ). AnyNumber t) (sym out_cap) d.is_out_cap)

judged_header : (text : List ℕ) → Judged (AnyDirective text) (header_of text)
unfolding header_of
judged_header text = judged_header_at text (is_method_name (first_word text)) (flags_of (first_word (after_word text))) refl refl

no_header : (text : List ℕ) (f : AsmFault) → header_of (after_word text) ≡ Err f → (h : MethodHeader) → ¬ IsDirectiveText text h
no_header text f e h d = let read = is_directive text h d in absurd cc

header_fault : (text : List ℕ) (r : Result MethodHeader AsmFault) (f : AsmFault) → r ≡ header_of (after_word text) → r ≡ Err f → Judged (AnyDirective (after_word text)) r → DirectiveFault text (after_word text) f
header_fault text (Ok h) f e k j = absurd cc
header_fault text (Err g) f e k (inl j) =
    let same : g ≡ f = cc in
    subst (λ (v : AsmFault). DirectiveFault text (after_word text) v) (sym j.0 ∙ same) j.1
header_fault text (Err g) f e k (inr j) =
    let same : g ≡ f = cc in
    subst (λ (v : AsmFault). DirectiveFault text (after_word text) v) (sym j.0 ∙ same) (j.1, no_header text g (sym e))

fault_header : (text rest : List ℕ) (f : AsmFault) → HasWord text (codes ".method") rest → DirectiveFault text rest f → header_of rest ≡ Err f
fault_header text rest faults.Word w h = absurd h
fault_header text rest faults.Operand w h = other_shape (AnyDirective rest) (header_of rest) (judged_header rest) h
fault_header text rest faults.Range w h = no_such (AnyDirective rest) (header_of rest) (judged_header rest) h.0 none
  where
    none : (header : MethodHeader) → ¬ (header_of rest ≡ Ok header)
    none header e = h.1 header (directive_is text header (is_first text (codes ".method") rest w) (ap header_of (is_rest text (codes ".method") rest w) ∙ e))
fault_header text rest faults.Label w h = absurd h
fault_header text rest faults.NoMemory w h = absurd h

-- ---- `.rules`

says_rules_at : (text : List ℕ) (two three : Bool) → two ≡ bytes_eq (after_word text) (codes "2") → three ≡ bytes_eq (after_word text) (codes "3") → first_word text ≡ codes ".rules"
    → IsStatementText text (statements.Rules (cond two (Ok Two) (cond three (Ok Three) (Err faults.Operand))))
says_rules_at text true three e g w =
    let rest : after_word text ≡ codes "2" = (bytes_eq-Decides (after_word text) (codes "2")).0 (sym e) in
    record { rest = after_word text; word = subst (λ (v : List ℕ). HasWord text v (after_word text)) w (has_word text); says = rest }
says_rules_at text false true e g w =
    let rest : after_word text ≡ codes "3" = (bytes_eq-Decides (after_word text) (codes "3")).0 (sym g) in
    record { rest = after_word text; word = subst (λ (v : List ℕ). HasWord text v (after_word text)) w (has_word text); says = rest }
says_rules_at text false false e g w =
    record {
      rest = after_word text;
      word = subst (λ (v : List ℕ). HasWord text v (after_word text)) w (has_word text);
      other = none;
      is_fault = refl;
    }
  where
    none : (rules : RuleSet) → ¬ IsRuleSet (after_word text) rules
    none One h = h
    none Two h = true_false (sym ((bytes_eq-Decides (after_word text) (codes "2")).1 h) ∙ sym e)
    none Three h = true_false (sym ((bytes_eq-Decides (after_word text) (codes "3")).1 h) ∙ sym g)

other_rules : (rest number : List ℕ) (b : Bool) → b ≡ bytes_eq rest number → ¬ (rest ≡ number) → b ≡ false
other_rules rest number false e h = refl
other_rules rest number true e h = absurd (h ((bytes_eq-Decides rest number).0 (sym e)))

faulty_rules : (rest : List ℕ) (f : AsmFault) → ((rules : RuleSet) → ¬ IsRuleSet rest rules) → f ≡ faults.Operand → rules_of rest ≡ Err f
faulty_rules rest f h e =
    rw (other_rules rest (codes "2") (bytes_eq rest (codes "2")) refl (h Two), other_rules rest (codes "3") (bytes_eq rest (codes "3")) refl (h Three)) (ap (λ (v : AsmFault). Err v) (sym e))

right_rules : (rest : List ℕ) (rules : RuleSet) → IsRuleSet rest rules → rules_of rest ≡ Ok rules
right_rules rest One h = absurd h
right_rules rest Two h = rw h refl
right_rules rest Three h = rw h refl

some_rules : (text rest : List ℕ) → HasWord text (codes ".rules") rest → (length text == 0) ≡ false
some_rules text rest h = ap (λ t. length t == 0) h.whole ∙ length_some 46 (codes "rules" ++ (h.gap ++ rest))

-- ---- lines

no_bytes : (text : List ℕ) → true ≡ (length text == 0) → text ≡ []
no_bytes [] h = refl
no_bytes (x ∷ xs) h = absurd (true_false (h ∙ length_some x xs))

some_bytes : (text : List ℕ) → false ≡ (length text == 0) → 1 ≤ length text
some_bytes text h = grind (arith, nat_tests)

says_directive : (text : List ℕ) (r : Result MethodHeader AsmFault) → first_word text ≡ codes ".method" → r ≡ header_of (after_word text) → IsStatementText text (statements.Directive r)
says_directive text (Ok h) w e = directive_is text h w (sym e)
says_directive text (Err f) w e =
    record { rest = after_word text; word = subst (λ (v : List ℕ). HasWord text v (after_word text)) w (has_word text); faulty = header_fault text (header_of (after_word text)) f refl (sym e) (judged_header (after_word text)) }

says_fault : (text : List ℕ) (f : AsmFault) → false ≡ (length text == 0) → false ≡ is_label_line text → false ≡ bytes_eq (first_word text) (codes ".rules") → false ≡ bytes_eq (first_word text) (codes ".method") → Err f ≡ instruction_of text → IsFaultyInstruction text f
unfolding instruction_of
says_fault text f a b r c e =
    record {
      word = first_word text;
      rest = after_word text;
      parts = has_word text;
      some = some_bytes text a;
      no_label = λ name h. true_false (sym (ap is_label_line h.0 ∙ label_line name h.1) ∙ sym b);
      no_rules = λ h. true_false (sym ((bytes_eq-Decides (first_word text) (codes ".rules")).1 h) ∙ sym r);
      no_method = λ h. true_false (sym ((bytes_eq-Decides (first_word text) (codes ".method")).1 h) ∙ sym c);
      faulty = fault_is (first_word text) (after_word text) f (sym e);
    }

says_instruction : (text : List ℕ) (r : Result Draft AsmFault) → false ≡ (length text == 0) → false ≡ is_label_line text → false ≡ bytes_eq (first_word text) (codes ".rules") → false ≡ bytes_eq (first_word text) (codes ".method") → r ≡ instruction_of text → IsStatementText text (statements.Instruction r)
says_instruction text (Ok d) a b r c e = instruction_is text d (sym e)
says_instruction text (Err f) a b r c e = says_fault text f a b r c e

says_at : (text : List ℕ) (a b r c : Bool) → a ≡ (length text == 0) → b ≡ is_label_line text → r ≡ bytes_eq (first_word text) (codes ".rules") → c ≡ bytes_eq (first_word text) (codes ".method") → IsStatementText text (cond a statements.Empty (cond b (statements.Label (take (length text - 1) text)) (cond r (statements.Rules (rules_of (after_word text))) (cond c (statements.Directive (header_of (after_word text))) (statements.Instruction (instruction_of text))))))
says_at text true b r c e f i g = no_bytes text e
says_at text false true r c e f i g =
    let l = label_is text (sym f) in
    (l.whole, l.name)
says_at text false false true c e f i g =
    let word : first_word text ≡ codes ".rules" = (bytes_eq-Decides (first_word text) (codes ".rules")).0 (sym i) in
    says_rules_at text (bytes_eq (after_word text) (codes "2")) (bytes_eq (after_word text) (codes "3")) refl refl word
says_at text false false false true e f i g =
    let word : first_word text ≡ codes ".method" = (bytes_eq-Decides (first_word text) (codes ".method")).0 (sym g) in
    says_directive text (header_of (after_word text)) word refl
says_at text false false false false e f i g = says_instruction text (instruction_of text) e f i g refl

statement_is : (text : List ℕ) → IsStatementText text (statement_of text)
unfolding statement_of
statement_is text = says_at text (length text == 0) (is_label_line text) (bytes_eq (first_word text) (codes ".rules")) (bytes_eq (first_word text) (codes ".method")) refl refl refl refl

-- ---- and back

record HasForm (word : List ℕ) : Type 0 where
  form : Form
  is : word ≡ word_of form

plain_form : (i : _) (w rest : List ℕ) → IsPlainText i w rest → HasForm w
plain_form (insns.Alu bits operation dst source) w rest h = record { form = Alu bits operation; is = h.0 }
plain_form (insns.Neg bits dst) w rest h = record { form = Neg bits; is = h.0 }
plain_form (insns.Mov bits dst source) w rest h = record { form = Mov bits; is = h.0 }
plain_form (insns.MovSigned extension dst src) w rest h = record { form = MovSigned extension; is = h.0 }
plain_form (insns.End order width dst) w rest h = record { form = End order width; is = h.0 }
plain_form (insns.LoadWide dst value) w rest h = record { form = LoadWide; is = h.0 }
plain_form (insns.Load width dst base offset) w rest h = record { form = Load width; is = h.0 }
plain_form (insns.LoadSigned width dst base offset) w rest h = record { form = LoadSigned width; is = h.0 }
plain_form (insns.Store width base offset (Immediate imm)) w rest h = record { form = StoreNumber width; is = h.0 }
plain_form (insns.Store width base offset (Register src)) w rest h = record { form = StoreRegister width; is = h.0 }
plain_form (insns.Call helper) w rest h = record { form = Call; is = h.0 }
plain_form insns.Exit w rest h = record { form = Exit; is = h.0 }
plain_form (insns.Jump offset) w rest h = absurd h
plain_form (insns.JumpLong distance) w rest h = absurd h
plain_form (insns.Branch bits comparison dst source offset) w rest h = absurd h
plain_form (insns.CallLocal distance) w rest h = absurd h

draft_form : (d : Draft) (w rest : List ℕ) → IsDraftText d w rest → HasForm w
draft_form (drafts.Plain i) w rest h = plain_form i w rest h
draft_form (drafts.Jump target) w rest h = record { form = Jump; is = h.0 }
draft_form (drafts.JumpLong target) w rest h = record { form = JumpLong; is = h.0 }
draft_form (drafts.Branch bits comparison dst source target) w rest h = record { form = Branch bits comparison; is = h.0 }
draft_form (drafts.CallLocal target) w rest h = record { form = Call; is = h.0 }

some_word : (text word rest : List ℕ) (f : Form) → HasWord text word rest → form_of word ≡ Some f → (length text == 0) ≡ false
unfolding first_word
some_word (x ∷ xs) word rest f h known = length_some x xs
some_word [] word rest f h known =
    let empty : [] ≡ word = is_first [] word rest h in
    absurd (none_is_some f (sym form_of_nil ∙ ap form_of empty ∙ known))

some_directive : (text rest : List ℕ) → HasWord text (codes ".method") rest → (length text == 0) ≡ false
some_directive text rest h = ap (λ t. length t == 0) h.whole ∙ length_some 46 (codes "method" ++ (h.gap ++ rest))

no_bytes_left : (n : ℕ) → 1 ≤ n → (n == 0) ≡ false
no_bytes_left n h = grind (arith, nat_tests)

unlabelled : (text : List ℕ) (b : Bool) → b ≡ is_label_line text → ((name : List ℕ) → ¬ IsLabelText text name) → b ≡ false
unlabelled text false e h = refl
unlabelled text true e h = let l = label_is text (sym e) in absurd (h (take (length text - 1) text) (l.whole, l.name))

unmethod : (word : List ℕ) (b : Bool) → b ≡ bytes_eq word (codes ".method") → ¬ (word ≡ codes ".method") → b ≡ false
unmethod word false e h = refl
unmethod word true e h = absurd (h ((bytes_eq-Decides word (codes ".method")).0 (sym e)))

unruled : (word : List ℕ) (b : Bool) → b ≡ bytes_eq word (codes ".rules") → ¬ (word ≡ codes ".rules") → b ≡ false
unruled word false e h = refl
unruled word true e h = absurd (h ((bytes_eq-Decides word (codes ".rules")).0 (sym e)))

faulty_instruction : (text : List ℕ) (f : AsmFault) → IsFaultyInstruction text f → instruction_of text ≡ Err f
unfolding instruction_of
faulty_instruction text f h =
    ap (λ (w : List ℕ). draft_of (form_of w) (after_word text)) (is_first text h.word h.rest h.parts)
    ∙ ap (λ (r : List ℕ). draft_of (form_of h.word) r) (is_rest text h.word h.rest h.parts)
    ∙ is_fault h.word h.rest f h.faulty

is_statement : (text : List ℕ) (s : Statement) → IsStatementText text s → statement_of text ≡ s
unfolding statement_of
is_statement text statements.Empty h = rw h refl
is_statement text (statements.Label name) h = ap statement_of h.0 ∙ is_label name h.1
is_statement text (statements.Rules (Err fault)) h =
    let label = no_label text (codes ".rules") h.rest h.word (no_label_line (codes ".rules") refl) in
    rw (some_rules text h.rest h.word, label, is_first text (codes ".rules") h.rest h.word, is_rest text (codes ".rules") h.rest h.word, faulty_rules h.rest fault h.other h.is_fault) refl
is_statement text (statements.Rules (Ok rules)) h =
    let label = no_label text (codes ".rules") h.rest h.word (no_label_line (codes ".rules") refl) in
    rw (some_rules text h.rest h.word, label, is_first text (codes ".rules") h.rest h.word, is_rest text (codes ".rules") h.rest h.word, right_rules h.rest rules h.says) refl
is_statement text (statements.Directive (Err fault)) h =
    let label = no_label text (codes ".method") h.rest h.word (no_label_line (codes ".method") refl) in
    rw (some_directive text h.rest h.word, label, is_first text (codes ".method") h.rest h.word, is_rest text (codes ".method") h.rest h.word, fault_header text h.rest fault h.word h.faulty) refl
is_statement text (statements.Directive (Ok header)) h =
    let label = no_label text (codes ".method") h.behind_word h.word (no_label_line (codes ".method") refl) in
    rw (some_directive text h.behind_word h.word, label, is_first text (codes ".method") h.behind_word h.word, is_directive text header h) refl
is_statement text (statements.Instruction (Err fault)) h =
    let label = unlabelled text (is_label_line text) refl h.no_label in
    let rules = unruled h.word (bytes_eq h.word (codes ".rules")) refl h.no_rules in
    let method = unmethod h.word (bytes_eq h.word (codes ".method")) refl h.no_method in
    rw (no_bytes_left (length text) h.some, label, is_first text h.word h.rest h.parts, rules, method, faulty_instruction text fault h) refl
is_statement text (statements.Instruction (Ok d)) h =
    let f = draft_form d h.word h.rest h.says in
    let known = known_word f.form h.word f.is in
    let quiet : is_label_line h.word ≡ false = ap is_label_line f.is ∙ no_label_line (word_of f.form) (quiet_where (word_of f.form) (word_plain f.form)) in
    let label = no_label text h.word h.rest h.parts quiet in
    rw (some_word text h.word h.rest f.form h.parts known, label, is_first text h.word h.rest h.parts, not_rules h.word f.form known, not_directive h.word f.form known, is_instruction text d h) refl

line_is : (line : List ℕ) → IsLine line (statement_of (content line))
line_is line = record { content = content line; has_content = has_content line; says = statement_is (content line) }

is_line : (line : List ℕ) (s : Statement) → IsLine line s → statement_of (content line) ≡ s
is_line line s h = ap statement_of (is_content line h.content h.has_content) ∙ is_statement h.content s h.says

-- ---- texts

-- no line has a line feed
abbrev AllWithout : List (List ℕ) → Type 0
AllWithout [] = Unit {0}
AllWithout (line ∷ lines) = Without 10 line × AllWithout lines

onto_without : (x : ℕ) (lines : List (List ℕ)) → (x == 10) ≡ false → AllWithout lines → AllWithout (onto_first x lines)
onto_without x [] h a = (rw h refl, tt)
onto_without x (line ∷ lines) h a = (rw (h, a.0) refl, a.1)

cut_at : (x : ℕ) (b : Bool) → b ≡ (x == 10) → (parts : List (List ℕ)) → AllWithout parts → AllWithout (cond b ([] ∷ parts) (onto_first x parts))
cut_at x true e parts a = (refl, a)
cut_at x false e parts a = onto_without x parts (sym e) a

cut_without : (text : List ℕ) → AllWithout (lines_of text)
cut_without [] = (refl, tt)
cut_without (x ∷ xs) = cut_at x (x == 10) refl (lines_of xs) (cut_without xs)

lines_are : (lines : List (List ℕ)) → AllWithout lines → AreLines lines (map (λ line. statement_of (content line)) lines)
lines_are [] w = tt
lines_are (line ∷ lines) w = (w.0, line_is line, lines_are lines w.1)

are_lines : (lines : List (List ℕ)) (ss : List Statement) → AreLines lines ss → map (λ line. statement_of (content line)) lines ≡ ss
are_lines [] [] h = refl
are_lines [] (s ∷ ss) h = absurd h
are_lines (line ∷ lines) [] h = absurd h
are_lines (line ∷ lines) (s ∷ ss) h = rw (is_line line s h.1, are_lines lines ss h.2) refl

free_of : (line : List ℕ) → Without 10 line → Free (λ c. c == 10) line
free_of line w = free_not (λ c. c == 10) line w

one_line_of : (line : List ℕ) → Free (λ c. c == 10) line → lines_of line ≡ line ∷ []
one_line_of [] f = refl
one_line_of (x ∷ xs) f = rw (f.0, one_line_of xs f.1) refl

none_line : 1 ≤ length {A = List ℕ} [] → ⊥
none_line h = omega arith

joined_lines : (lines : List (List ℕ)) (ss : List Statement) → 1 ≤ length lines → AreLines lines ss → lines_of (join_with_byte 10 lines) ≡ lines
joined_lines [] ss n h = absurd (none_line n)
joined_lines (line ∷ lines) [] n h = absurd h
joined_lines (line ∷ []) (s ∷ ss) n h = one_line_of line (free_of line h.0)
joined_lines (line ∷ next ∷ lines) (s ∷ ss) n h =
    split_line line (join_with_byte 10 (next ∷ lines)) (free_of line h.0) ∙ ap (λ r. line ∷ r) (joined_lines (next ∷ lines) ss (omega arith) h.2)

-- what the lines of a text say
pub text_says : (text : List ℕ) → TextSays text (statements_of text)
unfolding statements_of
text_says text =
    let many = length-slice_split (λ c. c == 10) text in
    record { lines = lines_of text; joined = sym (join_with_byte-slice_split 10 text); some = omega (arith, many); are_lines = lines_are (lines_of text) (cut_without text) }

pub says_text : (text : List ℕ) (ss : List Statement) → TextSays text ss → statements_of text ≡ ss
unfolding statements_of
says_text text ss h =
    ap (λ t. map (λ line. statement_of (content line)) (lines_of t)) h.joined
    ∙ ap (map (λ line. statement_of (content line))) (joined_lines h.lines ss h.some h.are_lines)
    ∙ are_lines h.lines ss h.are_lines
