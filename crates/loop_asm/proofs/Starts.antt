-- The heads of a method's lines stand at its instructions.
use Rattle.std.proofs.Common.{◌≡◌, ℕ, suc, ◌+◌, ◌-◌, ◌≤◌, ◌==◌, Bool, true, false, cond, List, [], ◌∷◌, ◌++◌, length, map, get_or, replicate, Option, Some, None, Result, Ok, Err, refl, ap, sym, subst, ◌∙◌, append_assoc, arith, nat_le, is_some, length-append}
use Rattle.std.proofs.Math.Seq.{get_or-append_seam}
use Rattle.std.proofs.Math.ListN.{length-replicate}
use Rattle.std.proofs.lemmas.List.{append-nil}
use Rattle.std.proofs.lemmas.Bool.{cond-true, or_right, or_left, ltb-true, eqb-true}
use Rattle.std.specs.List.{AllByRecursion, count_by}
use Rattle.bpf_decode.specs.declared.insn.Insn.{Insn}
use Rattle.bpf_decode.specs.Instruction.{slot_count, slot_total}
use Rattle.bpf_decode.specs.declared.limits.TheConstants.{SLOT_LIMIT}
use Rattle.asm_lines.specs.declared.fault.AsmFault.{AsmFault}
use Rattle.asm_lines.specs.declared.fault.AsmFault.TheVariants as faults
use Rattle.asm_lines.specs.declared.fault.AsmError.{AsmError}
use Rattle.asm_lines.specs.declared.statement.Statement.{Statement}
use Rattle.asm_lines.specs.declared.statement.Statement.TheVariants.{Empty, Label, Rules, Directive, Instruction}
use Rattle.asm_lines.specs.Texts.{first_word, after_word}
use Rattle.asm_lines.specs.Operands.{filled}
use Rattle.asm_lines.specs.Statements.{statement_of}
use Rattle.bpf_asm.specs.Bodies.{draft_slots, line_slots, slot_of_label, finished, line_at, proceed, body_from, is_instruction}
use Rattle.bpf_asm.proofs.BodyLemmas.{one_slot, slot_total_push}
use Rattle.bpf_asm.proofs.GrammarLemmas.{slots_of}
use Rattle.loop_heads.specs.Loops.{PlainHead, PlainLoops}
use Rattle.loop_lines.specs.Reading.{places_of}
use Rattle.loop_asm.specs.Reading.{is_budget, is_head, is_loop_line, other, instruction_follows, placed, head_of, on_line, heads_from, with_heads, budget_on, no_loops, method_loops}
use Rattle.loop_asm.specs.Starts.{IsStart, StandAt}
use Rattle.loop_asm.proofs.Given.{starts, same_starts}
use Rattle.loop_asm.proofs.Heads.{turn, on_head, counted, count_first, head_right}

-- ---- where instructions begin

starts_length : (is : List Insn) → length (starts is) ≡ slot_total is
starts_length [] = refl
starts_length (i ∷ is) =
    omega (arith, length-append (replicate (slot_count i - 1) false) (starts is), length-replicate (slot_count i - 1) false, starts_length is, one_slot i)

starts_append : (xs ys : List Insn) → starts (xs ++ ys) ≡ starts xs ++ starts ys
starts_append [] ys = refl
starts_append (x ∷ xs) ys =
    let half = replicate (slot_count x - 1) false in
    ap (λ (r : List Bool). true ∷ (half ++ r)) (starts_append xs ys) ∙ ap (λ (r : List Bool). true ∷ r) (sym (append_assoc half (starts xs) (starts ys)))

-- an instruction begins after those before it
at_start : (xs : List Insn) (i : Insn) (ys : List Insn) → IsStart (xs ++ (i ∷ ys)) (slot_total xs)
at_start xs i ys =
    let rest = replicate (slot_count i - 1) false ++ starts ys in
    ap (λ (r : List Bool). get_or r (slot_total xs) false) (same_starts (xs ++ (i ∷ ys)))
    ∙ ap (λ (r : List Bool). get_or r (slot_total xs) false) (starts_append xs (i ∷ ys))
    ∙ ap (λ (n : ℕ). get_or (starts xs ++ (true ∷ rest)) n false) (sym (starts_length xs)) ∙ get_or-append_seam (starts xs) true rest false

start_after : (done rest is : List Insn) → is ≡ done ++ rest → 1 ≤ length rest → IsStart is (slot_total done)
start_after done [] is e some = absurd (omega (arith, some))
start_after done (i ∷ rest) is e some = subst (λ (r : List Insn). IsStart r (slot_total done)) (sym e) (at_start done i rest)

-- ---- a method's lines

goes : (line : ℕ) (r : Result (Option Insn) AsmFault) (x : Result (List Insn) AsmError) (y : Insn → Result (List Insn) AsmError) (is : List Insn) (P : Type 0) → (r ≡ Ok None → x ≡ Ok is → P) → ((i : Insn) → r ≡ Ok (Some i) → y i ≡ Ok is → P) → proceed line r x y ≡ Ok is → P
goes line (Err fault) x y is P f g h = absurd cc
goes line (Ok None) x y is P f g h = f refl h
goes line (Ok (Some i)) x y is P f g h = g i refl h

some_fits : (b : Bool) (r : Result Insn AsmFault) (i : Insn) → cond b (filled Some r) (Err faults.Range) ≡ Ok (Some i) → r ≡ Ok i
some_fits true (Ok x) i h = let same : x ≡ i = cc in ap (λ (y : Insn). Ok y) same
some_fits true (Err e) i h = absurd cc
some_fits false r i h = absurd cc

no_none : (b : Bool) (r : Result Insn AsmFault) → cond b (filled Some r) (Err faults.Range) ≡ Ok None → ⊥
no_none true (Ok x) h = cc
no_none true (Err e) h = cc
no_none false r h = cc

no_some : (b : Bool) (i : Insn) → cond b (Err faults.Label) (Ok None) ≡ Ok (Some i) → ⊥
no_some true i h = cc
no_some false i h = cc

-- a line without an instruction takes no slot
none_of_line : (all before : List Statement) (slot : ℕ) (s : Statement) → line_at all before slot s ≡ Ok None → (line_slots s ≡ 0) × (is_instruction s ≡ false)
none_of_line all before slot Empty h = (refl, refl)
none_of_line all before slot (Label name) h = (refl, refl)
none_of_line all before slot (Rules rules) h = absurd cc
none_of_line all before slot (Directive header) h = absurd cc
none_of_line all before slot (Instruction (Err fault)) h = absurd cc
none_of_line all before slot (Instruction (Ok d)) h = absurd (no_none (nat_le (slot + draft_slots (Ok d)) SLOT_LIMIT) (finished all slot d) h)

-- a line takes the slots of its instruction
some_of_line : (all before : List Statement) (slot : ℕ) (s : Statement) (i : Insn) → line_at all before slot s ≡ Ok (Some i) → line_slots s ≡ slot_count i
some_of_line all before slot Empty i h = absurd cc
some_of_line all before slot (Label name) i h = absurd (no_some (is_some (slot_of_label name 0 before)) i h)
some_of_line all before slot (Rules rules) i h = absurd cc
some_of_line all before slot (Directive header) i h = absurd cc
some_of_line all before slot (Instruction (Err fault)) i h = absurd cc
some_of_line all before slot (Instruction (Ok d)) i h =
    slots_of all slot d i (some_fits (nat_le (slot + draft_slots (Ok d)) SLOT_LIMIT) (finished all slot d) i h)

-- that many instructions at least follow others
record Follows (done : List Insn) (least : ℕ) (is : List Insn) : Type 0 where
  pub rest : List Insn
  pub whole : is ≡ done ++ rest
  pub some : least ≤ length rest

one_at_most : (b : Bool) (n m : ℕ) → cond b 1 0 + n ≡ m → m ≤ 1 + n
one_at_most true n m h = omega arith
one_at_most false n m h = omega arith

body_follows : (all before : List Statement) (line slot : ℕ) (done is : List Insn) (lines : List Statement) → body_from all before line slot done lines ≡ Ok is → Follows done (count_by is_instruction lines) is
unfolding body_from
body_follows all before line slot done is [] h =
    let same : done ≡ is = cc in
    record { rest = []; whole = sym same ∙ sym (append-nil done); some = omega arith }
body_follows all before line slot done is (s ∷ ss) h =
    goes line (line_at all before slot s) _ _ is (Follows done (count_by is_instruction (s ∷ ss)) is)
    (λ none e. let f = body_follows all (before ++ (s ∷ [])) (line + 1) slot done is ss e in
    record { rest = f.rest; whole = f.whole; some = omega (arith, f.some, count_first is_instruction s ss false (none_of_line all before slot s none).1) })
    (λ i some e. let f = body_follows all (before ++ (s ∷ [])) (line + 1) (slot + slot_count i) (done ++ (i ∷ [])) is ss e in
    record { rest = i ∷ f.rest; whole = f.whole ∙ append_assoc done (i ∷ []) f.rest; some = omega (arith, f.some, one_at_most (is_instruction s) (count_by is_instruction ss) (count_by is_instruction (s ∷ ss)) (counted is_instruction s ss)) })
    h

-- ---- heads

says_nothing : (text : List ℕ) → is_loop_line text ≡ true → other text ≡ Empty
unfolding other
says_nothing text h = cond-true (is_loop_line text) Empty (statement_of text) h

-- where an instruction stands on the lines to come, one begins at the next slot
next_start : (all before : List Statement) (line slot : ℕ) (done is : List Insn) (texts : List (List ℕ)) → body_from all before line slot done (map other texts) ≡ Ok is → instruction_follows texts ≡ true → IsStart is (slot_total done)
next_start all before line slot done is texts h some =
    let f = body_follows all before line slot done is (map other texts) h in
    let one : 1 ≤ count_by is_instruction (map other texts) = ltb-true 0 (count_by is_instruction (map other texts)) some in
    start_after done f.rest is f.whole (omega (arith, f.some))

had_follower : (b : Bool) (r : Result PlainHead AsmFault) (h : PlainHead) → cond b r (Err faults.Word) ≡ Ok h → b ≡ true
had_follower true r h e = refl
had_follower false r h e = absurd cc

abbrev AllStart : List Insn → List PlainHead → Type 0
AllStart is hs = AllByRecursion (λ h. IsStart is h.slot) hs

start_push : (is : List Insn) (hs : List PlainHead) (h : PlainHead) → AllStart is hs → IsStart is h.slot → AllStart is (hs ++ (h ∷ []))
start_push is [] h a s = (s, tt)
start_push is (x ∷ xs) h a s = (a.0, start_push is xs h a.1 s)

heads_stand : (all before : List Statement) (count at : ℕ) (before_is is : List Insn) (line slot : ℕ) (done hs : List PlainHead) (texts : List (List ℕ)) → slot ≡ slot_total before_is → body_from all before count at before_is (map other texts) ≡ Ok is → heads_from line slot done texts ≡ Ok hs → AllStart is done → AllStart is hs
unfolding heads_from body_from
heads_stand all before count at before_is is line slot done hs [] same body read a =
    let last : done ≡ hs = cc in
    subst (λ (xs : List PlainHead). AllStart is xs) last a
heads_stand all before count at before_is is line slot done hs (t ∷ ts) same body read a =
    turn (is_head t) (is_budget t) _ _ _ hs (AllStart is hs)
    (λ yes e. on_head line (head_of done slot ts t) (λ h. heads_from (line + 1) slot (done ++ (h ∷ [])) ts) hs (AllStart is hs)
    (λ h read_head others.
    let nothing = says_nothing t (or_right (is_budget t) (is_head t) yes) in
    let later : body_from all (before ++ (Empty ∷ [])) (count + 1) at before_is (map other ts) ≡ Ok is = sym (ap (λ (s : Statement). body_from all before count at before_is (s ∷ map other ts)) nothing) ∙ body in
    let follows = had_follower (instruction_follows ts) (placed done slot (places_of (after_word t))) h read_head in
    let here : h.slot ≡ slot_total before_is = (head_right done slot ts t h read_head).at ∙ same in
    let start : IsStart is h.slot = subst (λ (n : ℕ). IsStart is n) (sym here) (next_start all (before ++ (Empty ∷ [])) (count + 1) at before_is is ts later follows) in
    heads_stand all (before ++ (Empty ∷ [])) (count + 1) at before_is is (line + 1) slot (done ++ (h ∷ [])) hs ts same later others (start_push is done h a start)) e)
    (λ no e. goes count (line_at all before at (other t)) _ _ is (AllStart is hs)
    (λ none later. heads_stand all (before ++ (other t ∷ [])) (count + 1) at before_is is (line + 1) (slot + line_slots (other t)) done hs ts (omega (arith, (none_of_line all before at (other t) none).0)) later e a)
    (λ i some later. heads_stand all (before ++ (other t ∷ [])) (count + 1) (at + slot_count i) (before_is ++ (i ∷ [])) is (line + 1) (slot + line_slots (other t)) done hs ts (omega (arith, some_of_line all before at (other t) i some, slot_total_push before_is i)) later e a)
    body)
    read

-- ---- a method's loops

unless_said : (b : Bool) (d : AsmError) (r : Result (Option PlainLoops) AsmError) (l : Option PlainLoops) → (r ≡ Ok l → l ≡ None) → cond b (Err d) r ≡ Ok l → l ≡ None
unless_said true d r l f h = absurd cc
unless_said false d r l f h = f h

no_loops_none : (line : ℕ) (l : Option PlainLoops) (texts : List (List ℕ)) → no_loops line texts ≡ Ok l → l ≡ None
unfolding no_loops
no_loops_none line l [] h = cc
no_loops_none line l (t ∷ ts) h = unless_said (is_loop_line t) _ (no_loops (line + 1) ts) l (λ e. no_loops_none (line + 1) l ts e) h

three : (a b : Bool) (x y z : Result (Option PlainLoops) AsmError) (l : Option PlainLoops) (P : Type 0) → (a ≡ true → x ≡ Ok l → P) → (b ≡ true → y ≡ Ok l → P) → (z ≡ Ok l → P) → cond a x (cond b y z) ≡ Ok l → P
three true b x y z l P f g k h = f refl h
three false true x y z l P f g k h = g refl h
three false false x y z l P f g k h = k h

on_budget : (line : ℕ) (r : Result ℕ AsmFault) (heads : Result (List PlainHead) AsmError) (l : Option PlainLoops) (is : List Insn) → ((hs : List PlainHead) → heads ≡ Ok hs → AllStart is hs) → on_line line r (λ b. with_heads b heads) ≡ Ok l → StandAt is l
on_budget line (Ok b) (Ok hs) l is f h =
    let same : Some (record { budget = b; heads = hs }) ≡ l = cc in
    subst (λ (k : Option PlainLoops). StandAt is k) same (f hs refl)
on_budget line (Ok b) (Err e) l is f h = absurd cc
on_budget line (Err e) heads l is f h = absurd cc

no_text : (text : List ℕ) → (length text == 0) ≡ true → other text ≡ Empty
unfolding other statement_of first_word
no_text [] h = refl
no_text (c ∷ cs) h = let none : suc (length cs) ≡ 0 = eqb-true (suc (length cs)) 0 h in absurd (omega arith)

pub method_stands : (all before : List Statement) (count at : ℕ) (is : List Insn) (line : ℕ) (l : Option PlainLoops) (texts : List (List ℕ)) → body_from all before count at [] (map other texts) ≡ Ok is → method_loops line texts ≡ Ok l → StandAt is l
unfolding method_loops body_from
method_stands all before count at is line l [] body read =
    let same : None ≡ l = cc in
    subst (λ (k : Option PlainLoops). StandAt is k) same tt
method_stands all before count at is line l (t ∷ ts) body read =
    let skip = λ (e : other t ≡ Empty). sym (ap (λ (s : Statement). body_from all before count at [] (s ∷ map other ts)) e) ∙ body in
    three (length t == 0) (is_budget t) _ _ _ l (StandAt is l)
    (λ none e. method_stands all (before ++ (Empty ∷ [])) (count + 1) at is (line + 1) l ts (skip (no_text t none)) e)
    (λ yes e. on_budget line (budget_on ts t) (heads_from (line + 1) 0 [] ts) l is
    (λ hs heads. heads_stand all (before ++ (Empty ∷ [])) (count + 1) at [] is (line + 1) 0 [] hs ts refl (skip (says_nothing t (or_left (is_budget t) (is_head t) yes))) heads tt) e)
    (λ e. subst (λ (k : Option PlainLoops). StandAt is k) (sym (no_loops_none line l (t ∷ ts) e)) tt)
    read
