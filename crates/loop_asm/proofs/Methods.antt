-- Lemmas on the reading of a class's lines, method by method.
use Rattle.std.proofs.Common.{◌≡◌, ◌⊎◌, inl, inr, ℕ, ◌+◌, true, List, [], ◌∷◌, ◌++◌, length, take, replicate, Option, None, Result, Ok, Err, Bor, ap, sym, ◌∙◌}
use Rattle.std.specs.List.{position_or_len, before_first}
use Rattle.std.proofs.lemmas.Bool.{cond-true}
use Rattle.std.proofs.lemmas.List.{take-map}
use Rattle.bpf_decode.specs.Class.{ClassMethod, Class}
use Rattle.asm_lines.specs.declared.fault.AsmError.{AsmError}
use Rattle.asm_lines.specs.Fault.{no_memory}
use Rattle.loop_heads.specs.Loops.{PlainLoops}
use Rattle.loop_asm.specs.Answers.{contents}
use Rattle.loop_asm.specs.Reading.{is_method, method_loops, next_loops, loops_from, without_loops}
use Rattle.loop_asm.proofs.Lines.{none_each}

-- a method's lines are those before the next method's
method_lines : (below : List (Bor (List ℕ))) (n : ℕ) → n ≡ position_or_len is_method (contents below) → contents (take n below) ≡ before_first is_method (contents below)
method_lines below n e = sym (take-map (λ (t : Bor (List ℕ)). t.now) n below) ∙ ap (λ (k : ℕ). take k (contents below)) e

pub at_method : (all : List (Option PlainLoops)) (line : ℕ) (text : List ℕ) (rest : List (List ℕ)) → is_method text ≡ true
    → loops_from all line (text ∷ rest) ≡ next_loops (method_loops (line + 1) (before_first is_method rest)) (λ l. loops_from (all ++ (l ∷ [])) (line + 1) rest)
unfolding loops_from
at_method all line text rest h = cond-true (is_method text) _ _ h

-- reading goes on after the loops of a method
pub loops_go_on : (all : List (Option PlainLoops)) (line : ℕ) (text : List ℕ) (below : List (Bor (List ℕ))) (n : ℕ) (l : Option PlainLoops) → is_method text ≡ true → n ≡ position_or_len is_method (contents below) → method_loops (line + 1) (contents (take n below)) ≡ Ok l
    → loops_from all line (text ∷ contents below) ≡ loops_from (all ++ (l ∷ [])) (line + 1) (contents below)
loops_go_on all line text below n l h e read =
    at_method all line text (contents below) h
    ∙ ap (λ r. next_loops r (λ l. loops_from (all ++ (l ∷ [])) (line + 1) (contents below))) (ap (method_loops (line + 1)) (sym (method_lines below n e)) ∙ read)

-- reading stops at a method whose loops are refused
pub loops_stop : (all : List (Option PlainLoops)) (line : ℕ) (text : List ℕ) (below : List (Bor (List ℕ))) (n : ℕ) (d : AsmError) → is_method text ≡ true → n ≡ position_or_len is_method (contents below) → (d ≡ no_memory) ⊎ (method_loops (line + 1) (contents (take n below)) ≡ Err d)
    → (d ≡ no_memory) ⊎ (loops_from all line (text ∷ contents below) ≡ Err d)
loops_stop all line text below n d h e (inl none) = inl none
loops_stop all line text below n d h e (inr read) =
    inr (at_method all line text (contents below) h
    ∙ ap (λ r. next_loops r (λ l. loops_from (all ++ (l ∷ [])) (line + 1) (contents below))) (ap (method_loops (line + 1)) (sym (method_lines below n e)) ∙ read))

-- a class without loops
pub none_given : (r : Result Class AsmError) (c : Class) (ms : List ClassMethod) (ls : List (Option PlainLoops)) → r ≡ Ok c → ms ≡ c.methods → ls ≡ replicate (length ms) None → without_loops r ≡ Ok (c, ls)
none_given r c ms ls read same e =
    ap without_loops read ∙ ap (λ (k : List (Option PlainLoops)). Ok (c, k)) (none_each None c.methods ∙ ap (λ (k : List ClassMethod). replicate (length k) None) (sym same) ∙ sym e)
