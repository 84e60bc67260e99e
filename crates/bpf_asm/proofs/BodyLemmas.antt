-- Lemmas on the reading of a method's lines.
use Rattle.std.proofs.Common.{◌≡◌, ℕ, ◌+◌, ◌≤◌, ◌<◌, Bool, true, false, ◌||◌, refl, List, [], ◌∷◌, ◌++◌, length, get_or, take, cond, count_by, sym, ap, ◌∙◌, arith, lit≤}
use Rattle.std.specs.Prelude.{nat_lt}
use Rattle.std.specs.List.{list_any}
use Rattle.std.proofs.lemmas.Bool.Decides.{nat_tests}
use Rattle.std.proofs.lemmas.List.Sums.{sum_by-append}
use Rattle.std.proofs.lemmas.List.{take_more}
use Rattle.bpf_decode.specs.declared.insn.Insn.{Insn}
use Rattle.bpf_decode.specs.declared.insn.Insn.TheVariants.{LoadWide}
use Rattle.bpf_decode.specs.Instruction.{slot_total, slot_count}
use Rattle.asm_lines.specs.declared.statement.Statement.{Statement}
use Rattle.bpf_asm.specs.Bodies.{is_instruction}

-- an instruction takes a slot at least
pub one_slot : (i : Insn) → 1 ≤ slot_count i
one_slot (LoadWide dst value) = lit≤ tt
one_slot _ = lit≤ tt

pub slot_total_push : (is : List Insn) (i : Insn) → slot_total (is ++ (i ∷ [])) ≡ slot_total is + slot_count i
slot_total_push [] i = omega arith
slot_total_push (x ∷ xs) i = omega (arith, slot_total_push xs i)

count_push : (xs : List Statement) (x : Statement) → count_by is_instruction (xs ++ (x ∷ [])) ≡ count_by is_instruction xs + cond (is_instruction x) 1 0
count_push xs x = omega (arith, sum_by-append (λ y. cond (is_instruction y) 1 0) xs (x ∷ []))

-- the instructions among one line more
pub counted_more : (xs : List Statement) (n : ℕ) (x : Statement) → n < length xs → x ≡ get_or xs n x → count_by is_instruction (take (n + 1) xs) ≡ count_by is_instruction (take n xs) + cond (is_instruction x) 1 0
counted_more xs n x h e =
    ap (count_by is_instruction) (take_more xs n x h ∙ ap (λ y. take n xs ++ (y ∷ [])) (sym e)) ∙ count_push (take n xs) x

one_counts : (b any : Bool) (n : ℕ) → any ≡ nat_lt 0 n → (b || any) ≡ nat_lt 0 (cond b 1 0 + n)
one_counts true any n h = grind (arith, nat_tests)
one_counts false any n h = grind (arith, nat_tests)

count_first : {X : Type 0} (p : X → Bool) (x : X) (xs : List X) → cond (p x) 1 0 + count_by p xs ≡ count_by p (x ∷ xs)
count_first p x xs = omega (arith, sum_by-append (λ y. cond (p y) 1 0) (x ∷ []) xs)

-- whether one of them passes, by their number
pub any_counts : {X : Type 0} (p : X → Bool) (xs : List X) → list_any p xs ≡ nat_lt 0 (count_by p xs)
any_counts p [] = refl
any_counts p (x ∷ xs) = one_counts (p x) (list_any p xs) (count_by p xs) (any_counts p xs) ∙ ap (nat_lt 0) (count_first p x xs)
