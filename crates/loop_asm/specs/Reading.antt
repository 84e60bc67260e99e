-- A class's text with loops, in rule set 3: which lines say them, and the first line that is refused. The
-- other lines are read as ever, as if those were empty.
use Rattle.std.specs.Prelude.{ℕ, ◌+◌, ◌==◌, ◌||◌, nat_le, nat_lt, Bool, true, false, List, [], ◌∷◌, ◌++◌, length}
use Rattle.std.specs.Prelude.{map, is_some, if◌then◌else◌, Option, Some, None, Result, Ok, Err, codes, count_by, ◌&&◌}
use Rattle.std.specs.List.{before_first}
use Rattle.std.specs.Str.{bytes_eq}
use Rattle.bpf_decode.specs.declared.limits.TheConstants.{SLOT_LIMIT}
use Rattle.bpf_decode.specs.declared.rule_set.RuleSet.TheVariants.{One, Two, Three}
use Rattle.bpf_decode.specs.Class.{Class}
use Rattle.asm_lines.specs.declared.fault.AsmFault.{AsmFault}
use Rattle.asm_lines.specs.declared.fault.AsmFault.TheVariants as faults
use Rattle.asm_lines.specs.declared.fault.AsmError.{AsmError}
use Rattle.asm_lines.specs.declared.statement.Statement.{Statement}
use Rattle.asm_lines.specs.declared.statement.Statement.TheVariants.{Empty, Label, Rules, Directive, Instruction}
use Rattle.asm_lines.specs.Texts.{content, first_word, after_word}
use Rattle.asm_lines.specs.Statements.{statement_of, lines_of}
use Rattle.bpf_asm.specs.Bodies.{line_slots, has_instruction}
use Rattle.bpf_asm.specs.Classes.{is_directive, class_assembled}
use Rattle.loop_heads.specs.declared.limits.TheConstants.{HEAD_LIMIT}
use Rattle.loop_heads.specs.declared.place.HeadPlace.{HeadPlace}
use Rattle.loop_heads.specs.Loops.{PlainHead, PlainLoops, head_at}
use Rattle.loop_lines.specs.Reading.{budget_of, places_of}

-- ---- lines, by their contents

-- the line of a budget, of a head, and of either
abbrev pub is_budget : List ℕ → Bool
is_budget text = bytes_eq (first_word text) (codes ".budget")

abbrev pub is_head : List ℕ → Bool
is_head text = bytes_eq (first_word text) (codes ".head")

abbrev pub is_loop_line : List ℕ → Bool
is_loop_line text = is_budget text || is_head text

-- what a line says besides loops
unfoldable pub other : List ℕ → Statement
other text = if is_loop_line text then Empty else statement_of text

-- the line that begins a method
abbrev pub is_method : List ℕ → Bool
is_method text = is_directive (other text)

-- an instruction stands on one of the lines
abbrev pub instruction_follows : List (List ℕ) → Bool
instruction_follows texts = has_instruction (map other texts)

-- a head stands on one of them
abbrev pub has_head : List (List ℕ) → Bool
has_head texts = nat_lt 0 (count_by is_head texts)

-- ---- a method

abbrev pub refused : {A : Type 0} → ℕ → AsmFault → Result A AsmError
refused line fault = Err (record { line = line; fault = fault })

-- what the function gives of what was read on a line, or the refusal of that line
abbrev pub on_line : {A B : Type 0} → ℕ → Result A AsmFault → (A → Result B AsmError) → Result B AsmError
on_line line (Ok x) f = f x
on_line line (Err fault) f = refused line fault

-- places at a slot after heads above: 3 Range for a 65th head, and past the last slot, where a line above is
-- refused as well; 4 Label for a slot that has a head
abbrev pub placed : List PlainHead → ℕ → Result (List HeadPlace) AsmFault → Result PlainHead AsmFault
placed done slot (Err fault) = Err fault
placed done slot (Ok places) =
    if nat_le HEAD_LIMIT (length done) || nat_lt SLOT_LIMIT slot then Err faults.Range
    else (if is_some (head_at done slot) then Err faults.Label else Ok (record { slot = slot; places = places }))

-- a head's line, with the lines of its method that follow: 1 Word where no instruction does
abbrev pub head_of : List PlainHead → ℕ → List (List ℕ) → List ℕ → Result PlainHead AsmFault
head_of done slot rest text =
    if instruction_follows rest then placed done slot (places_of (after_word text)) else Err faults.Word

-- The heads of a method's lines after its budget: `line` is the number of the next, `slot` the next slot, `done`
-- the heads above. A second budget is 1 Word.
unfoldable pub heads_from : ℕ → ℕ → List PlainHead → List (List ℕ) → Result (List PlainHead) AsmError
heads_from line slot done [] = Ok done
heads_from line slot done (text ∷ rest) =
    if is_head text then on_line line (head_of done slot rest text)
    (λ h. heads_from (line + 1) slot (done ++ (h ∷ [])) rest)
    else (if is_budget text then refused line faults.Word
    else heads_from (line + 1) (slot + line_slots (other text)) done rest)

-- no line says loops: one that does is 1 Word
unfoldable pub no_loops : ℕ → List (List ℕ) → Result (Option PlainLoops) AsmError
no_loops line [] = Ok None
no_loops line (text ∷ rest) = if is_loop_line text then refused line faults.Word else no_loops (line + 1) rest

-- a budget and the heads of the lines below it
abbrev pub with_heads : ℕ → Result (List PlainHead) AsmError → Result (Option PlainLoops) AsmError
with_heads budget (Ok heads) = Ok (Some (record { budget = budget; heads = heads }))
with_heads budget (Err e) = Err e

-- a budget, unless it stands alone: that is 4 Label
abbrev pub unless_alone : Bool → Result ℕ AsmFault → Result ℕ AsmFault
unless_alone some (Err fault) = Err fault
unless_alone some (Ok budget) = if some then Ok budget else Err faults.Label

-- a budget's line, with those of its method that follow, among which a head has to stand
abbrev pub budget_on : List (List ℕ) → List ℕ → Result ℕ AsmFault
budget_on rest text = unless_alone (has_head rest) (budget_of (after_word text))

-- a method's loops, by its lines below `.method`: a budget stands on the first of them that isn't empty
unfoldable pub method_loops : ℕ → List (List ℕ) → Result (Option PlainLoops) AsmError
method_loops line [] = Ok None
method_loops line (text ∷ rest) =
    if length text == 0 then method_loops (line + 1) rest
    else (if is_budget text
    then on_line line (budget_on rest text) (λ budget. with_heads budget (heads_from (line + 1) 0 [] rest))
    else no_loops line (text ∷ rest))

-- ---- a class

-- the loops of a method, then of the others
abbrev pub next_loops : Result (Option PlainLoops) AsmError →
    (Option PlainLoops → Result (List (Option PlainLoops)) AsmError) → Result (List (Option PlainLoops)) AsmError
next_loops (Ok loops) others = others loops
next_loops (Err e) others = Err e

-- The loops of each method of the lines, in order: `line` is the number of the next, `done` those of the methods
-- above. A method's lines reach to the next `.method`, and are read with it. Before the first method they are 1
-- Word.
unfoldable pub loops_from : List (Option PlainLoops) → ℕ → List (List ℕ) → Result (List (Option PlainLoops)) AsmError
loops_from done line [] = Ok done
loops_from done line (text ∷ rest) =
    if is_method text then next_loops (method_loops (line + 1) (before_first is_method rest))
    (λ loops. loops_from (done ++ (loops ∷ [])) (line + 1) rest)
    else (if length done == 0 && is_loop_line text then refused line faults.Word
    else loops_from done (line + 1) rest)

-- the first line that isn't empty is `.rules 3`
abbrev pub says_three : Statement → Bool → Bool
says_three Empty below = below
says_three (Label name) below = false
says_three (Rules (Ok One)) below = false
says_three (Rules (Ok Two)) below = false
says_three (Rules (Ok Three)) below = true
says_three (Rules (Err fault)) below = false
says_three (Directive header) below = false
says_three (Instruction d) below = false

abbrev pub is_of_three : List (List ℕ) → Bool
is_of_three [] = false
is_of_three (text ∷ rest) = says_three (statement_of text) (is_of_three rest)

-- what each line says besides loops, which only set 3 has
abbrev pub said : List (List ℕ) → List Statement
said texts = if is_of_three texts then map other texts else map statement_of texts

-- a class and the loops of each of its methods
abbrev pub Looped : Type 0
Looped = Class × List (Option PlainLoops)

-- the refusal of the line that stands first
abbrev pub first_of : Result Class AsmError → Result (List (Option PlainLoops)) AsmError → Result Looped AsmError
first_of (Ok c) (Ok loops) = Ok (c, loops)
first_of (Ok c) (Err e) = Err e
first_of (Err e) (Ok loops) = Err e
first_of (Err e) (Err d) = if nat_lt d.line e.line then Err d else Err e

-- a class without loops
abbrev pub without_loops : Result Class AsmError → Result Looped AsmError
without_loops (Ok c) = Ok (c, map (λ m. None) c.methods)
without_loops (Err e) = Err e

-- a class's lines, by their contents: in sets 1 and 2 no line says loops
abbrev pub looped : List (List ℕ) → Result Looped AsmError
looped texts =
    if is_of_three texts then first_of (class_assembled (map other texts)) (loops_from [] 1 texts)
    else without_loops (class_assembled (map statement_of texts))

-- Reading a class's text with loops: the class and the loops of each method, or the first line that is refused
-- and the least fault there.
unfoldable pub read_looped_text : List ℕ → Result Looped AsmError
read_looped_text text = looped (map content (lines_of text))
