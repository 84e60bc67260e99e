-- Lemmas on lines: tests and places of what a function gives of each, and a line's refusal.
use Rattle.std.proofs.Common.{◌≡◌, ◌⊎◌, inl, inr, ℕ, ◌+◌, ◌-◌, ◌≤◌, ◌==◌, Bool, true, false, ◌||◌, not, cond, List, [], ◌∷◌, map, length, take, drop, get_or, replicate, suc, Option, Result, Ok, Err, Bor, refl, ap, subst, sym, ◌∙◌, arith}
use Rattle.std.specs.List.{list_any, position_or_len, before_first}
use Rattle.std.proofs.lemmas.Bool.{ne_eqb}
use Rattle.std.proofs.lemmas.List.{take-map, take_all}
use Rattle.loop_heads.specs.Loops.{PlainLoops}
use Rattle.asm_lines.specs.declared.fault.AsmFault.{AsmFault}
use Rattle.asm_lines.specs.declared.fault.AsmFault.TheVariants as faults
use Rattle.asm_lines.specs.declared.fault.AsmError.{AsmError}
use Rattle.asm_lines.specs.Fault.{no_memory}
use Rattle.asm_lines.specs.Texts.{first_word, content}
use Rattle.asm_lines.specs.Statements.{lines_of}
use Rattle.loop_asm.specs.Answers.{contents, refusal_of, Gives}
use Rattle.loop_asm.specs.Reading.{on_line, is_budget, budget_on, with_heads, heads_from, method_loops}

-- ---- lists

-- whether one passes, of what the function gives of each
pub any_seen : {X Y : Type 0} (p : Y → Bool) (f : X → Y) (xs : List X) → list_any (λ x. p (f x)) xs ≡ list_any p (map f xs)
any_seen p f [] = refl
any_seen p f (x ∷ xs) = ap (λ b. p (f x) || b) (any_seen p f xs)

-- the first that passes
pub place_seen : {X Y : Type 0} (p : Y → Bool) (f : X → Y) (xs : List X) → position_or_len (λ x. p (f x)) xs ≡ position_or_len p (map f xs)
place_seen p f [] = refl
place_seen p f (x ∷ xs) = ap (λ (n : ℕ). cond (not (p (f x))) (1 + n) 0) (place_seen p f xs)

-- one function after the other
pub mapped : {X Y Z : Type 0} (g : Y → Z) (f : X → Y) (xs : List X) → map (λ x. g (f x)) xs ≡ map g (map f xs)
mapped g f [] = refl
mapped g f (x ∷ xs) = ap (λ r. g (f x) ∷ r) (mapped g f xs)

-- the lines before the first that passes
pub before_seen : {X Y : Type 0} (p : Y → Bool) (f : X → Y) (xs : List X) → before_first p (map f xs) ≡ map f (before_first (λ x. p (f x)) xs)
before_seen p f xs =
    sym (ap (λ (k : ℕ). take k (map f xs)) (place_seen p f xs)) ∙ take-map f (position_or_len (λ x. p (f x)) xs) xs

-- ---- faults

-- a fault that was met on a line, or that memory ran out there
pub line_refused : {A B : Type 0} (line : ℕ) (fault : AsmFault) (r : Result A AsmFault) (f : A → Result B AsmError) → (fault ≡ faults.NoMemory) ⊎ (r ≡ Err fault)
    → (refusal_of line fault ≡ no_memory) ⊎ (on_line line r f ≡ Err (refusal_of line fault))
line_refused line fault r f (inl h) = inl (ap (refusal_of line) h)
line_refused line faults.NoMemory r f (inr h) = inl refl
line_refused line faults.Word r f (inr h) = inr (ap (λ s. on_line line s f) h)
line_refused line faults.Operand r f (inr h) = inr (ap (λ s. on_line line s f) h)
line_refused line faults.Range r f (inr h) = inr (ap (λ s. on_line line s f) h)
line_refused line faults.Label r f (inr h) = inr (ap (λ s. on_line line s f) h)

-- what was read on a line goes on
pub line_read : {A B : Type 0} (line : ℕ) (r : Result A AsmFault) (x : A) (f : A → Result B AsmError) → on_line line r (λ a. Ok a) ≡ Ok x → on_line line r f ≡ f x
line_read line (Ok a) x f h = let e : a ≡ x = cc in ap f e
line_read line (Err e) x f h = absurd cc

pub line_ends : {A B : Type 0} (line : ℕ) (r : Result A AsmFault) (e : AsmError) (f : A → Result B AsmError) → on_line {B = A} line r (λ a. Ok a) ≡ Err e → on_line line r f ≡ Err e
line_ends line (Ok a) e f h = absurd cc
line_ends line (Err fault) e f h = let same : record { line = line; fault = fault } ≡ e = cc in ap (λ d. Err d) same

-- a budget's line isn't empty
pub budget_some : (text : List ℕ) → is_budget text ≡ true → (length text == 0) ≡ false
unfolding first_word
budget_some [] h = absurd cc
budget_some (c ∷ cs) h = ne_eqb (suc (length cs)) 0 (λ e. omega arith)

-- a method's lines from its budget's on
pub at_budget : (line : ℕ) (text : List ℕ) (rest : List (List ℕ)) → is_budget text ≡ true → method_loops line (text ∷ rest) ≡ on_line line (budget_on rest text) (λ budget. with_heads budget (heads_from (line + 1) 0 [] rest))
unfolding method_loops
at_budget line text rest h = rw (budget_some text h, h) refl

-- lines are their first and the others
pub first_and_rest : (xs : List (Bor (List ℕ))) (d : Bor (List ℕ)) → 1 ≤ length xs → xs ≡ get_or xs 0 d ∷ take (length xs - 1) (drop 1 xs)
first_and_rest [] d h = absurd (omega arith)
first_and_rest (x ∷ xs) d h = ap (λ r. x ∷ r) (sym (take_all (length (x ∷ xs) - 1) xs (omega arith)))

-- the same, of lines that were passed on
pub from_budget : {X : Type 0} (view : X → Option PlainLoops) (result : Result X AsmError) (first line : ℕ) (lines rest : List (Bor (List ℕ))) (d : Bor (List ℕ)) → 1 ≤ length rest → method_loops line (contents rest) ≡ method_loops first (contents lines) → is_budget (get_or rest 0 d).now ≡ true
    → Gives view result (on_line line (budget_on (contents (take (length rest - 1) (drop 1 rest))) (get_or rest 0 d).now) (λ budget. with_heads budget (heads_from (line + 1) 0 [] (contents (take (length rest - 1) (drop 1 rest)))))) → Gives view result (method_loops first (contents lines))
from_budget view result first line lines rest d some same h given =
    let parts = first_and_rest rest d some in
    let step = sym (at_budget line (get_or rest 0 d).now (contents (take (length rest - 1) (drop 1 rest))) h) ∙ sym (ap (λ (ts : List (Bor (List ℕ))). method_loops line (contents ts)) parts) ∙ same in
    subst (λ (r : Result (Option PlainLoops) AsmError). Gives view result r) step given

-- no loops for each
pub none_each : {X : Type 0} (loops : Option PlainLoops) (xs : List X) → map (λ x. loops) xs ≡ replicate (length xs) loops
none_each loops [] = refl
none_each loops (x ∷ xs) = ap (λ r. loops ∷ r) (none_each loops xs)

-- the content of each line of a text
pub each_content : (xs : List (Bor (List ℕ))) (text : List ℕ) → map (λ l. l.now) xs ≡ lines_of text → map (λ l. content l.now) xs ≡ map content (lines_of text)
each_content xs text h = mapped content (λ (l : Bor (List ℕ)). l.now) xs ∙ ap (map content) h
