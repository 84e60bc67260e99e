-- A method's loops are read as they were written.
use Rattle.std.proofs.Common.{◌≡◌, ℕ, ◌==◌, ◌+◌, ◌<◌, ◌≤◌, ◌||◌, Bool, true, false, List, [], ◌∷◌, ◌++◌, length, Option, Some, None, Ok, refl, sym, ap, ◌∙◌, arith, append_assoc, codes}
use Rattle.std.specs.List.{list_any}
use Rattle.std.specs.Fmt.{decimal}
use Rattle.std.proofs.lemmas.Bool.Decides.{nat_tests}
use Rattle.std.proofs.lemmas.List.{append-nil, length-append}
use Rattle.bpf_decode.specs.declared.insn.Insn.{Insn}
use Rattle.bpf_decode.specs.declared.limits.TheConstants.{SLOT_LIMIT}
use Rattle.bpf_decode.specs.Instruction.{AllFit, slot_total, slot_count}
use Rattle.asm_lines.specs.Texts.{content}
use Rattle.asm_lines.specs.Canonical.{line_of}
use Rattle.bpf_asm.proofs.BodyLemmas.{one_slot, any_counts}
use Rattle.bpf_asm.proofs.CutRelations.{same_byte}
use Rattle.bpf_asm.proofs.OperandTexts.{length_some}
use Rattle.loop_heads.specs.declared.limits.TheConstants.{HEAD_LIMIT, BUDGET_LIMIT}
use Rattle.loop_heads.specs.Loops.{PlainHead, PlainLoops}
use Rattle.loop_lines.specs.HeadText.{head_line, budget_line}
use Rattle.loop_lines.proofs.RoundTrip.{budget_reads}
use Rattle.loop_asm.specs.Reading.{is_head, has_head, unless_alone, budget_on, with_heads, heads_from, no_loops, method_loops}
use Rattle.loop_asm.proofs.SaidLines.{plain_insn, plain_empty, insn_some, budget_is, head_is}
use Rattle.loop_asm.proofs.Contents.{coded, code_lines}
use Rattle.loop_asm.proofs.HeadLines.{none_starts, Ahead, rise_more, ahead_on, coded_at, coded_off, Below, below_more, below_push, head_step, insn_step}

-- lines below a method's instructions that say nothing
pub record IsTail (tail : List (List ℕ)) : Type 0 where
  pub heads : (line slot : ℕ) (done : List PlainHead) → heads_from line slot done tail ≡ Ok done
  pub none : (line : ℕ) → no_loops line tail ≡ Ok None

pub no_tail : IsTail []
unfolding heads_from no_loops
no_tail = record { heads = λ line slot done. refl; none = λ line. refl }

empty_heads : (line slot : ℕ) (done : List PlainHead) → heads_from line slot done ([] ∷ []) ≡ Ok done
unfolding heads_from
empty_heads line slot done = rw (plain_empty.no_head, plain_empty.no_budget) refl

empty_none : (line : ℕ) → no_loops line ([] ∷ []) ≡ Ok None
unfolding no_loops
empty_none line = rw plain_empty.no_loops refl

pub empty_tail : IsTail ([] ∷ [])
empty_tail = record { heads = empty_heads; none = empty_none }

-- ---- heads

-- the one or the other, by whether the next head stands at the next instruction
head_read : (tail : List (List ℕ)) (line slot : ℕ) (done : List PlainHead) (h : PlainHead) (hs : List PlainHead) (i : Insn) (is : List Insn)
    → Below slot done → Ahead slot (i ∷ is) (h ∷ hs) → AllFit (i ∷ is) → slot + slot_total (i ∷ is) ≤ SLOT_LIMIT → length done < HEAD_LIMIT
    → (h.slot ≡ slot → (l : ℕ) → heads_from l (slot + slot_count i) (done ++ (h ∷ [])) (coded hs (slot + slot_count i) is ++ tail) ≡ Ok ((done ++ (h ∷ [])) ++ hs))
    → (slot < h.slot → (l : ℕ) → heads_from l (slot + slot_count i) done (coded (h ∷ hs) (slot + slot_count i) is ++ tail) ≡ Ok (done ++ (h ∷ hs)))
    → (b : Bool) → (h.slot == slot) ≡ b → heads_from line slot done (coded (h ∷ hs) slot (i ∷ is) ++ tail) ≡ Ok (done ++ (h ∷ hs))
head_read tail line slot done h hs i is below ahead fit room few at off true e =
    let here : h.slot ≡ slot = same_byte h.slot slot e in
    let rest = coded hs (slot + slot_count i) is ++ tail in
    ap (λ (lines : List (List ℕ)). heads_from line slot done (lines ++ tail)) (coded_at h hs slot i is here)
    ∙ head_step line slot done h i rest here ahead.places.0 fit.0 below few (omega arith)
    ∙ insn_step (line + 1) slot (done ++ (h ∷ [])) i rest fit.0
    ∙ at here (line + 1 + 1)
    ∙ ap (λ (r : List PlainHead). Ok r) (append_assoc done (h ∷ []) hs)
head_read tail line slot done h hs i is below ahead fit room few at off false e =
    let from = ahead.rise.0 in
    let past : slot < h.slot = grind (arith, nat_tests) in
    let rest = coded (h ∷ hs) (slot + slot_count i) is ++ tail in
    ap (λ (lines : List (List ℕ)). heads_from line slot done (lines ++ tail)) (coded_off (h ∷ hs) slot i is (omega arith, ahead.rise.1))
    ∙ insn_step line slot done i rest fit.0
    ∙ off past (line + 1)

-- the heads after the first, which stands at that slot
others : (slot : ℕ) (i : Insn) (is : List Insn) (h : PlainHead) (hs : List PlainHead) → h.slot ≡ slot → Ahead slot (i ∷ is) (h ∷ hs) → Ahead (slot + slot_count i) is hs
others slot i is h hs e a =
    let rise = rise_more (slot + 1) (h.slot + 1) hs (omega arith) a.rise.1 in
    let low = rise_more slot (slot + 1) hs (omega arith) rise in
    ahead_on slot i is hs rise (record { rise = low; stand = a.stand.1; places = a.places.1 })

-- all of them, where none stands at it
all_after : (slot : ℕ) (i : Insn) (is : List Insn) (h : PlainHead) (hs : List PlainHead) → slot < h.slot → Ahead slot (i ∷ is) (h ∷ hs) → Ahead (slot + slot_count i) is (h ∷ hs)
all_after slot i is h hs lt a = ahead_on slot i is (h ∷ hs) (omega arith, a.rise.1) a

pub heads_read : (tail : List (List ℕ)) → IsTail tail → (is : List Insn) (line slot : ℕ) (done hs : List PlainHead) → Below slot done → Ahead slot is hs → AllFit is → slot + slot_total is ≤ SLOT_LIMIT → length done + length hs ≤ HEAD_LIMIT
    → heads_from line slot done (coded hs slot is ++ tail) ≡ Ok (done ++ hs)
heads_read tail t [] line slot done [] below ahead fit room few = t.heads line slot done ∙ ap (λ (r : List PlainHead). Ok r) (sym (append-nil done))
heads_read tail t [] line slot done (h ∷ hs) below ahead fit room few = absurd (none_starts slot h.slot ahead.stand.0)
heads_read tail t (i ∷ is) line slot done [] below ahead fit room few =
    insn_step line slot done i (coded [] (slot + slot_count i) is ++ tail) fit.0
    ∙ heads_read tail t is (line + 1) (slot + slot_count i) done [] (below_more done slot (slot + slot_count i) (omega arith) below) (record { rise = tt; stand = tt; places = tt }) fit.1 (omega arith) few
heads_read tail t (i ∷ is) line slot done (h ∷ hs) below ahead fit room few =
    let pushed = length-append done (h ∷ []) in
    let some = one_slot i in
    head_read tail line slot done h hs i is below ahead fit room (omega arith)
    (λ e l. heads_read tail t is l (slot + slot_count i) (done ++ (h ∷ [])) hs (below_push done h slot (slot + slot_count i) (omega arith) (omega arith) below) (others slot i is h hs e ahead) fit.1 (omega arith) (omega arith))
    (λ lt l. heads_read tail t is l (slot + slot_count i) done (h ∷ hs) (below_more done slot (slot + slot_count i) (omega arith) below) (all_after slot i is h hs lt ahead) fit.1 (omega arith) few)
    (h.slot == slot) refl

-- ---- a head stands below

or_right : (a b : Bool) → b ≡ true → (a || b) ≡ true
or_right true b h = refl
or_right false b h = h

or_left : (a b : Bool) → a ≡ true → (a || b) ≡ true
or_left true b h = refl
or_left false b h = absurd cc

head_found : (tail : List (List ℕ)) (slot : ℕ) (h : PlainHead) (hs : List PlainHead) (i : Insn) (is : List Insn) → Ahead slot (i ∷ is) (h ∷ hs)
    → (slot < h.slot → list_any is_head (coded (h ∷ hs) (slot + slot_count i) is ++ tail) ≡ true)
    → (b : Bool) → (h.slot == slot) ≡ b → list_any is_head (coded (h ∷ hs) slot (i ∷ is) ++ tail) ≡ true
head_found tail slot h hs i is ahead off true e =
    let rest = content (line_of i) ∷ (coded hs (slot + slot_count i) is ++ tail) in
    ap (λ (lines : List (List ℕ)). list_any is_head (lines ++ tail)) (coded_at h hs slot i is (same_byte h.slot slot e))
    ∙ or_left (is_head (head_line h.places)) (list_any is_head rest) (head_is h.places ahead.places.0)
head_found tail slot h hs i is ahead off false e =
    let from = ahead.rise.0 in
    let past : slot < h.slot = grind (arith, nat_tests) in
    ap (λ (lines : List (List ℕ)). list_any is_head (lines ++ tail)) (coded_off (h ∷ hs) slot i is (omega arith, ahead.rise.1))
    ∙ or_right (is_head (content (line_of i))) (list_any is_head (coded (h ∷ hs) (slot + slot_count i) is ++ tail)) (off past)

heads_found : (tail : List (List ℕ)) (is : List Insn) (slot : ℕ) (h : PlainHead) (hs : List PlainHead) → Ahead slot is (h ∷ hs) → list_any is_head (coded (h ∷ hs) slot is ++ tail) ≡ true
heads_found tail [] slot h hs ahead = absurd (none_starts slot h.slot ahead.stand.0)
heads_found tail (i ∷ is) slot h hs ahead =
    head_found tail slot h hs i is ahead (λ lt. heads_found tail is (slot + slot_count i) h hs (all_after slot i is h hs lt ahead)) (h.slot == slot) refl

have_head : (tail : List (List ℕ)) (is : List Insn) (hs : List PlainHead) → 1 ≤ length hs → Ahead 0 is hs → has_head (coded hs 0 is ++ tail) ≡ true
have_head tail is [] some ahead = absurd (omega arith)
have_head tail is (h ∷ hs) some ahead = sym (any_counts is_head (coded (h ∷ hs) 0 is ++ tail)) ∙ heads_found tail is 0 h hs ahead

-- ---- a method

-- loops of a method of those instructions
abbrev pub AreOf : List Insn → Option PlainLoops → Type 0
AreOf is None = Unit {0}
AreOf is (Some l) = (1 ≤ l.budget) × (l.budget ≤ BUDGET_LIMIT) × (1 ≤ length l.heads) × (length l.heads ≤ HEAD_LIMIT) × Ahead 0 is l.heads

no_loops_read : (tail : List (List ℕ)) → IsTail tail → (is : List Insn) (line slot : ℕ) → AllFit is → no_loops line (coded [] slot is ++ tail) ≡ Ok None
unfolding no_loops
no_loops_read tail t [] line slot fit = t.none line
no_loops_read tail t (i ∷ is) line slot fit = rw (plain_insn i fit.0).no_loops (no_loops_read tail t is (line + 1) (slot + slot_count i) fit.1)

none_read : (tail : List (List ℕ)) → IsTail tail → (is : List Insn) (line : ℕ) → AllFit is → 1 ≤ slot_total is → method_loops line (coded [] 0 is ++ tail) ≡ Ok None
unfolding method_loops
none_read tail t [] line fit some = absurd (omega arith)
none_read tail t (i ∷ is) line fit some = rw (insn_some i fit.0, (plain_insn i fit.0).no_budget) (no_loops_read tail t (i ∷ is) line 0 fit)

budget_read : (n : ℕ) (rest : List (List ℕ)) → 1 ≤ n → n ≤ BUDGET_LIMIT → has_head rest ≡ true → budget_on rest (budget_line n) ≡ Ok n
budget_read n rest some most h = ap (unless_alone (has_head rest)) (budget_reads n some most).1 ∙ rw h refl

some_read : (tail : List (List ℕ)) → IsTail tail → (is : List Insn) (line : ℕ) (l : PlainLoops) → AllFit is → slot_total is ≤ SLOT_LIMIT → AreOf is (Some l) → method_loops line (budget_line l.budget ∷ (coded l.heads 0 is ++ tail)) ≡ Ok (Some l)
unfolding method_loops
some_read tail t is line l fit room are =
    let rest = coded l.heads 0 is ++ tail in
    rw (length_some 46 (codes "budget " ++ decimal l.budget), budget_is l.budget are.0 are.1, budget_read l.budget rest are.0 are.1 (have_head tail is l.heads are.2 are.4))
    (ap (with_heads l.budget) (heads_read tail t is (line + 1) 0 [] l.heads tt are.4 fit (omega arith) (omega (arith, are.3))))

pub method_read : (tail : List (List ℕ)) → IsTail tail → (is : List Insn) (line : ℕ) (o : Option PlainLoops) → AllFit is → 1 ≤ slot_total is → slot_total is ≤ SLOT_LIMIT → AreOf is o → method_loops line (code_lines o is ++ tail) ≡ Ok o
method_read tail t is line None fit some room are = none_read tail t is line fit some
method_read tail t is line (Some l) fit some room are = some_read tail t is line l fit room are
