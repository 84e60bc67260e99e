-- The line of an instruction, alone and with its slot: the comment says nothing.
use Rattle.std.proofs.Common.{◌≡◌, ℕ, ◌==◌, ◌≤◌, Bool, true, List, [], ◌∷◌, ◌++◌, refl, sym, ap, ◌∙◌, arith, codes, append_assoc}
use Rattle.std.specs.List.{list_all}
use Rattle.std.specs.Fmt.{decimal}
use Rattle.bpf_decode.specs.declared.insn.Insn.{Insn}
use Rattle.bpf_decode.specs.declared.limits.TheConstants.{SLOT_LIMIT}
use Rattle.bpf_decode.specs.Instruction.{Fits}
use Rattle.asm_lines.specs.Texts.{is_blank, trim, content}
use Rattle.asm_lines.specs.Canonical.{line_of}
use Rattle.bpf_asm.proofs.PlainBytes.{is_quiet, Free, and_left, and_right, free_where, quiet_where, quiet_comment, quiet_feed, all_append}
use Rattle.bpf_asm.proofs.NumberTexts.{decimal_plain}
use Rattle.bpf_asm.specs.Syntax.{Without, HasContent}
use Rattle.bpf_asm.proofs.CutRelations.{padded, is_content}
use Rattle.bpf_asm.proofs.InsnTexts.{line_quiet}
use Rattle.std.proofs.lemmas.List.{append-nil}
use Rattle.loop_asm.specs.Canonical.{Written, alone, with_slot}

without_comment : (line : List ℕ) → list_all is_quiet line ≡ true → Without 59 line
without_comment [] q = refl
without_comment (c ∷ cs) q = rw (quiet_comment c (and_left (is_quiet c) (list_all is_quiet cs) q), without_comment cs (and_right (is_quiet c) (list_all is_quiet cs) q)) refl

-- a quiet line alone, and with a comment after a space
alone_content : (line : List ℕ) → list_all is_quiet line ≡ true → HasContent line (trim line)
alone_content line q = record { text = line; comment = []; whole = sym (append-nil line); is_comment = tt; without = without_comment line q; padded = padded line }

commented_content : (line tail : List ℕ) → list_all is_quiet line ≡ true → HasContent (line ++ (32 ∷ 59 ∷ tail)) (trim line)
commented_content line tail q =
    let p = padded line in
    let inner = trim line in
    let whole : line ++ (32 ∷ []) ≡ p.before ++ (inner ++ (p.after ++ (32 ∷ []))) = ap (λ (t : List ℕ). t ++ (32 ∷ [])) p.whole ∙ append_assoc p.before (inner ++ p.after) (32 ∷ []) ∙ ap (λ (t : List ℕ). p.before ++ t) (append_assoc inner p.after (32 ∷ [])) in
    record {
      text = line ++ (32 ∷ []);
      comment = 59 ∷ tail;
      whole = sym (append_assoc line (32 ∷ []) (59 ∷ tail));
      is_comment = refl;
      without = without_comment (line ++ (32 ∷ [])) (all_append is_quiet line (32 ∷ []) q refl);
      padded = record { before = p.before; after = p.after ++ (32 ∷ []); whole = whole; blank_before = p.blank_before; blank_after = all_append is_blank p.after (32 ∷ []) p.blank_after refl; solid = p.solid };
    }

content_commented : (line tail : List ℕ) → list_all is_quiet line ≡ true → content (line ++ (32 ∷ 59 ∷ tail)) ≡ content line
content_commented line tail q =
    is_content (line ++ (32 ∷ 59 ∷ tail)) (trim line) (commented_content line tail q) ∙ sym (is_content line (trim line) (alone_content line q))

pub free_append : {X : Type 0} (p : X → Bool) (xs ys : List X) → Free p xs → Free p ys → Free p (xs ++ ys)
free_append p [] ys f g = g
free_append p (x ∷ xs) ys f g = (f.0, free_append p xs ys f.1 g)

-- what stands between a line and its slot
word_free : Free (λ c. c == 10) (codes " ; slot ")
word_free = (refl, (refl, (refl, (refl, (refl, (refl, (refl, (refl, tt))))))))

line_free : (i : Insn) → Fits i → Free (λ c. c == 10) (line_of i)
line_free i fits = free_where (λ c. c == 10) is_quiet quiet_feed (line_of i) (line_quiet i fits)

slot_free : (slot : ℕ) (i : Insn) → Fits i → slot ≤ SLOT_LIMIT → Free (λ c. c == 10) (with_slot slot i)
slot_free slot i fits few =
    let digits = free_where (λ c. c == 10) is_quiet quiet_feed (decimal slot) (quiet_where (decimal slot) (decimal_plain slot (omega arith))) in
    free_append (λ c. c == 10) (line_of i ++ codes " ; slot ") (decimal slot) (free_append (λ c. c == 10) (line_of i) (codes " ; slot ") (line_free i fits) word_free) digits

slot_same : (slot : ℕ) (i : Insn) → Fits i → content (with_slot slot i) ≡ content (line_of i)
slot_same slot i fits =
    ap content (append_assoc (line_of i) (codes " ; slot ") (decimal slot)) ∙ content_commented (line_of i) (codes " slot " ++ decimal slot) (line_quiet i fits)

-- a way to write lines of instructions: none has a line feed, and its content is that of the instruction's line
pub record IsWritten (write : Written) : Type 0 where
  pub free : (slot : ℕ) (i : Insn) → Fits i → slot ≤ SLOT_LIMIT → Free (λ c. c == 10) (write slot i)
  pub same : (slot : ℕ) (i : Insn) → Fits i → content (write slot i) ≡ content (line_of i)

pub is_alone : IsWritten alone
is_alone = record { free = λ slot i fits few. line_free i fits; same = λ slot i fits. refl }

pub is_with_slot : IsWritten with_slot
is_with_slot = record { free = slot_free; same = slot_same }
