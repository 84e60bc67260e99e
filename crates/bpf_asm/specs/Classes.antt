-- Classes: the rule set, and methods read one after the other, up to the first line that is
-- refused.
use Rattle.std.specs.Prelude.{ℕ, ◌+◌, ◌==◌, ◌&&◌, ◌||◌, not, nat_le, Bool, true, false, List, [], ◌∷◌, ◌++◌, length}
use Rattle.std.specs.Prelude.{if◌then◌else◌, Option, Some, None, Result, Ok, Err}
use Rattle.std.specs.List.{before_first}
use Rattle.bpf_decode.specs.declared.insn.Insn.{Insn}
use Rattle.bpf_decode.specs.declared.rule_set.RuleSet.{RuleSet}
use Rattle.bpf_decode.specs.declared.rule_set.RuleSet.TheVariants.{One}
use Rattle.bpf_decode.specs.Class.{ClassMethod, Class}
use Rattle.bpf_decode.specs.Limits.{is_capacity}
use Rattle.bpf_decode.specs.ImageReading.{is_above}
use Rattle.asm_lines.specs.declared.fault.AsmFault.{AsmFault}
use Rattle.asm_lines.specs.declared.fault.AsmFault.TheVariants as faults
pub use Rattle.asm_lines.specs.declared.fault.AsmError.{AsmError}
use Rattle.asm_lines.specs.Headers.{MethodHeader}
use Rattle.asm_lines.specs.declared.statement.Statement.{Statement}
use Rattle.asm_lines.specs.declared.statement.Statement.TheVariants.{Empty, Label, Rules, Directive, Instruction}
use Rattle.asm_lines.specs.Operands.{least}
use Rattle.asm_lines.specs.Statements.{statements_of}
use Rattle.bpf_asm.specs.Bodies.{body, has_instruction}
use Rattle.bpf_decode.specs.declared.limits.TheConstants.{METHOD_LIMIT}

-- whether a line begins a method
abbrev pub is_directive : Statement → Bool
is_directive Empty = false
is_directive (Label name) = false
is_directive (Rules rules) = false
is_directive (Directive header) = true
is_directive (Instruction d) = false

-- the name of the last method, or the one before them
abbrev pub last_name : List ℕ → List ClassMethod → List ℕ
last_name before [] = before
last_name before (m ∷ ms) = last_name m.name ms

-- whether a rule set allows the capacities of a header
abbrev pub is_within_set : RuleSet → MethodHeader → Bool
is_within_set rules h = is_capacity rules h.in_cap && is_capacity rules h.out_cap

-- the fault of a method's first line after other methods: 3 Range for a 33rd, one without
-- instruction or one with a capacity above the rule set's, 4 Label for a name that isn't above the
-- one before
abbrev pub opening_fault : RuleSet → List ClassMethod → Bool → MethodHeader → Option AsmFault
opening_fault rules done bare h =
    if nat_le METHOD_LIMIT (length done) || bare || not (is_within_set rules h) then Some faults.Range
    else (if is_above (last_name [] done) h.name then None else Some faults.Label)

-- a method of that header and those instructions, without loops
abbrev pub method_with : MethodHeader → List Insn → ClassMethod
method_with h insns =
    record {
      name = h.name;
      flags = h.flags;
      in_cap = h.in_cap;
      out_cap = h.out_cap;
      instructions = insns;
      loops = None;
    }

-- that method, or what is refused of its lines
abbrev pub with_body : MethodHeader → Result (List Insn) AsmError → Result ClassMethod AsmError
with_body h (Ok insns) = Ok (method_with h insns)
with_body h (Err e) = Err e

-- the fault of a method's first line comes before those of its other lines
abbrev pub unless_fault : Option AsmFault → ℕ → Result ClassMethod AsmError → Result ClassMethod AsmError
unless_fault None line m = m
unless_fault (Some fault) line m = Err (record { line = line; fault = fault })

-- the method that begins at a line, with its lines below
abbrev pub method_at : RuleSet → List ClassMethod → ℕ → Result MethodHeader AsmFault → List Statement →
    Result ClassMethod AsmError
method_at rules done line (Err fault) lines = Err (record { line = line; fault = fault })
method_at rules done line (Ok h) lines =
    unless_fault (opening_fault rules done (not (has_instruction lines)) h) line (with_body h (body (line + 1) lines))

-- the methods after a right one, or the refusal of a wrong one
abbrev pub next_method : Result ClassMethod AsmError → (ClassMethod → Result (List ClassMethod) AsmError) →
    Result (List ClassMethod) AsmError
next_method (Err e) others = Err e
next_method (Ok m) others = others m

-- The methods of lines in order, by a rule set: `line` is the number of the next, `done` the
-- methods above it. A method's lines reach to the next `.method`, and are read with it. Before the
-- first one nothing may stand.
unfoldable pub class_from : RuleSet → List ClassMethod → ℕ → List Statement → Result (List ClassMethod) AsmError
class_from rules done line [] = if length done == 0 then Err (record { line = 1; fault = faults.Range }) else Ok done
class_from rules done line (Directive header ∷ rest) =
    next_method (method_at rules done line header (before_first is_directive rest))
    (λ m. class_from rules (done ++ (m ∷ [])) (line + 1) rest)
class_from rules done line (Empty ∷ rest) = class_from rules done (line + 1) rest
class_from rules done line (Label name ∷ rest) = if length done == 0
    then Err (record { line = line; fault = faults.Word }) else class_from rules done (line + 1) rest
class_from rules done line (Rules other ∷ rest) = if length done == 0
    then Err (record { line = line; fault = faults.Word }) else class_from rules done (line + 1) rest
class_from rules done line (Instruction d ∷ rest) = if length done == 0
    then Err (record { line = line; fault = faults.Word }) else class_from rules done (line + 1) rest

-- the class of that rule set and those methods
abbrev pub with_rules : RuleSet → Result (List ClassMethod) AsmError → Result Class AsmError
with_rules rules (Ok ms) = Ok (record { rules = rules; methods = ms })
with_rules rules (Err e) = Err e

-- The class of lines in order: its rule set is 1, or what the first line that isn't empty says by
-- `.rules`. After it stand the methods, with no `.rules` among them.
unfoldable pub ruled_from : ℕ → List Statement → Result Class AsmError
ruled_from line [] = with_rules One (class_from One [] line [])
ruled_from line (Empty ∷ rest) = ruled_from (line + 1) rest
ruled_from line (Rules (Ok rules) ∷ rest) = with_rules rules (class_from rules [] (line + 1) rest)
ruled_from line (Rules (Err fault) ∷ rest) = Err (record { line = line; fault = fault })
ruled_from line (Label name ∷ rest) = with_rules One (class_from One [] line (Label name ∷ rest))
ruled_from line (Directive header ∷ rest) = with_rules One (class_from One [] line (Directive header ∷ rest))
ruled_from line (Instruction d ∷ rest) = with_rules One (class_from One [] line (Instruction d ∷ rest))

-- the fault on the first line of a text without instructions: a label before the first `.method` is
-- 1 Word, and a `.rules` or `.method` of the wrong form 2 Operand
abbrev pub bare_class_fault : List Statement → AsmFault
bare_class_fault [] = faults.Range
bare_class_fault (Empty ∷ rest) = faults.Range
bare_class_fault (Label name ∷ rest) = faults.Word
bare_class_fault (Rules (Ok rules) ∷ rest) = faults.Range
bare_class_fault (Rules (Err fault) ∷ rest) = least fault faults.Range
bare_class_fault (Directive (Ok header) ∷ rest) = faults.Range
bare_class_fault (Directive (Err fault) ∷ rest) = least fault faults.Range
bare_class_fault (Instruction d ∷ rest) = faults.Range

-- what `assemble_class` answers
abbrev pub class_assembled : List Statement → Result Class AsmError
class_assembled lines =
    if has_instruction lines then ruled_from 1 lines else Err (record { line = 1; fault = bare_class_fault lines })

-- Reading a class's text: the class, or the first line that is refused and the least fault there.
unfoldable pub read_class_text : List ℕ → Result Class AsmError
read_class_text text = class_assembled (statements_of text)
