-- Why a text is refused, apart from its grammar: "line n has fault f" as a relation, and the first
-- fault of a text. A line's faults are those of its place, whatever is wrong elsewhere; a line that
-- is none of its form has its own (Shapes).
use Rattle.std.specs.Prelude.{◌≡◌, ◌⊎◌, ℕ, ℤ, pos, ◌+◌, ◌-ℤ◌, ◌<◌, ◌≤◌, Bool, true, false, List, [], ◌∷◌, ◌++◌, Option}
use Rattle.std.specs.Prelude.{Some, None, IsSome, Result, Ok, Err, FitsSigned}
use Rattle.std.specs.Int.{w16, w32}
use Rattle.std.specs.List.{before_first}
use Rattle.bpf_decode.specs.declared.limits.TheConstants.{METHOD_LIMIT, SLOT_LIMIT}
use Rattle.bpf_decode.specs.declared.rule_set.RuleSet.{RuleSet}
use Rattle.bpf_decode.specs.declared.rule_set.RuleSet.TheVariants.{One}
use Rattle.bpf_decode.specs.Limits.{capacity_limit}
use Rattle.bpf_decode.specs.ImageReading.{is_above}
use Rattle.asm_lines.specs.declared.fault.AsmFault.{AsmFault}
use Rattle.asm_lines.specs.declared.fault.AsmFault.TheVariants as faults
use Rattle.asm_lines.specs.declared.fault.AsmError.{AsmError}
use Rattle.asm_lines.specs.declared.target.Target.{Target}
use Rattle.asm_lines.specs.declared.target.Target.TheVariants as targets
use Rattle.asm_lines.specs.declared.draft.Draft.{Draft}
use Rattle.asm_lines.specs.declared.draft.Draft.TheVariants as drafts
use Rattle.asm_lines.specs.declared.statement.Statement.{Statement}
use Rattle.asm_lines.specs.declared.statement.Statement.TheVariants.{Empty, Label, Rules, Directive, Instruction}
use Rattle.asm_lines.specs.Fault.{fault_number}
use Rattle.asm_lines.specs.Headers.{MethodHeader}
use Rattle.bpf_asm.specs.Lines.{TextSays}
use Rattle.bpf_asm.specs.Bodies.{draft_slots, slot_of_label, has_instruction}
use Rattle.bpf_asm.specs.Classes.{is_directive}

-- ---- the lines of one method

-- a label that no line of the method has, or one too far away
abbrev pub LabelFault : (ℤ → Type 0) → ℕ → Option ℕ → AsmFault → Type 0
LabelFault Fits slot None f = f ≡ faults.Label
LabelFault Fits slot (Some at) f = (¬ Fits (pos at -ℤ pos (slot + 1))) × (f ≡ faults.Range)

-- a distance that doesn't fit, or a label that has such a fault
abbrev pub TargetFault : (ℤ → Type 0) → List Statement → ℕ → Target → AsmFault → Type 0
TargetFault Fits all slot (targets.Slots z) f = (¬ Fits z) × (f ≡ faults.Range)
TargetFault Fits all slot (targets.Label name) f = LabelFault Fits slot (slot_of_label name 0 all) f

-- where an instruction of the right form goes
abbrev pub DraftFault : List Statement → ℕ → Draft → AsmFault → Type 0
DraftFault all slot (drafts.Plain insn) f = ⊥
DraftFault all slot (drafts.Jump target) f = TargetFault (FitsSigned w16) all slot target f
DraftFault all slot (drafts.JumpLong target) f = TargetFault (FitsSigned w32) all slot target f
DraftFault all slot (drafts.Branch bits comparison dst source target) f = TargetFault (FitsSigned w16) all slot target f
DraftFault all slot (drafts.CallLocal target) f = TargetFault (FitsSigned w32) all slot target f

-- a line at a slot, among all lines of its method and after those above it: its own fault if it
-- isn't of the form, a label that stands above, a `.rules` or `.method` inside, an instruction that
-- passes the limit of slots, or one that goes nowhere
abbrev pub LineFault : List Statement → List Statement → ℕ → Statement → AsmFault → Type 0
LineFault all above slot Empty f = ⊥
LineFault all above slot (Label name) f = IsSome (slot_of_label name 0 above) × (f ≡ faults.Label)
LineFault all above slot (Rules rules) f = f ≡ faults.Word
LineFault all above slot (Directive header) f = f ≡ faults.Word
LineFault all above slot (Instruction (Err g)) f = f ≡ g
LineFault all above slot (Instruction (Ok d)) f =
    ((SLOT_LIMIT < slot + draft_slots (Ok d)) × (f ≡ faults.Range)) ⊎ DraftFault all slot d f

-- the slot after a line
abbrev pub slot_behind : ℕ → Statement → ℕ
slot_behind slot Empty = slot
slot_behind slot (Label name) = slot
slot_behind slot (Rules rules) = slot
slot_behind slot (Directive header) = slot
slot_behind slot (Instruction d) = slot + draft_slots d

-- of lines that begin with that number, line n has fault f
abbrev pub LinesHaveFault : List Statement → List Statement → ℕ → ℕ → List Statement → ℕ → AsmFault → Type 0
LinesHaveFault all above line slot [] n f = ⊥
LinesHaveFault all above line slot (s ∷ ss) n f =
    ((n ≡ line) × LineFault all above slot s f) ⊎
    LinesHaveFault all (above ++ (s ∷ [])) (line + 1) (slot_behind slot s) ss n f

-- if no line has an instruction, the first one is out of range
abbrev pub IsBare : List Statement → ℕ → AsmFault → Type 0
IsBare lines n f = (n ≡ 1) × (has_instruction lines ≡ false) × (f ≡ faults.Range)

-- line n of a method's text has fault f
abbrev pub HasFault : List Statement → ℕ → AsmFault → Type 0
HasFault lines n f = IsBare lines n f ⊎ LinesHaveFault lines [] 1 0 lines n f

-- ---- the lines of a class

-- where a line of a class stands: whether a `.rules` stands above it and the rule set that the last
-- one says, how many methods begin above it and the last one's name, all lines of that method,
-- those above the line, and the line's slot
pub record Place : Type 0 where
  pub ruled : Bool
  pub rules : RuleSet
  pub methods : ℕ
  pub name : List ℕ
  pub lines : List Statement
  pub above : List Statement
  pub slot : ℕ

-- above the first line
abbrev pub top : Place
top = record { ruled = false; rules = One; methods = 0; name = []; lines = []; above = []; slot = 0 }

-- the rule set below a `.rules`
abbrev pub set_after : RuleSet → Result RuleSet AsmFault → RuleSet
set_after before (Ok rules) = rules
set_after before (Err f) = before

-- the place of the next line; `below` are all of them
abbrev pub next_place : Place → Statement → List Statement → Place
next_place p (Directive (Ok h)) below = record {
  ruled = p.ruled;
  rules = p.rules;
  methods = p.methods + 1;
  name = h.name;
  lines = before_first is_directive below;
  above = [];
  slot = 0;
}
next_place p (Directive (Err f)) below = record {
  ruled = p.ruled;
  rules = p.rules;
  methods = p.methods + 1;
  name = p.name;
  lines = before_first is_directive below;
  above = [];
  slot = 0;
}
next_place p Empty below = record p { above = p.above ++ (Empty ∷ []) }
next_place p (Label name) below = record p { above = p.above ++ (Label name ∷ []) }
next_place p (Rules rules) below =
    record p { ruled = true; rules = set_after p.rules rules; above = p.above ++ (Rules rules ∷ []) }
next_place p (Instruction d) below = record p { above = p.above ++ (Instruction d ∷ []); slot = p.slot + draft_slots d }

-- a header with a capacity that the rule set doesn't allow
abbrev pub IsTooWide : RuleSet → MethodHeader → Type 0
IsTooWide rules h = (capacity_limit rules < h.in_cap) ⊎ (capacity_limit rules < h.out_cap)

-- a `.method` line: its own fault if it isn't of the form; a method too many, one without
-- instruction, or one whose capacities the rule set doesn't allow; a name that isn't above the last
abbrev pub OpeningFault : Place → Result MethodHeader AsmFault → List Statement → AsmFault → Type 0
OpeningFault p (Err g) below f = f ≡ g
OpeningFault p (Ok h) below f =
    ((METHOD_LIMIT ≤ p.methods) × (f ≡ faults.Range))
    ⊎ (((has_instruction (before_first is_directive below) ≡ false) × (f ≡ faults.Range))
    ⊎ ((IsTooWide p.rules h × (f ≡ faults.Range)) ⊎ ((is_above p.name h.name ≡ false) × (f ≡ faults.Label))))

-- a `.rules` of the wrong form
abbrev pub RulesOperand : Result RuleSet AsmFault → AsmFault → Type 0
RulesOperand (Ok rules) f = ⊥
RulesOperand (Err g) f = f ≡ g

-- a `.rules` line: one after another or after a `.method`; one before the first `.method` that is
-- of the wrong form
abbrev pub RulesFault : Place → Result RuleSet AsmFault → AsmFault → Type 0
RulesFault p rules f =
    (((p.ruled ≡ true) ⊎ (1 ≤ p.methods)) × (f ≡ faults.Word)) ⊎ ((p.methods ≡ 0) × RulesOperand rules f)

-- what stands before the first `.method`
abbrev pub EarlyFault : Place → AsmFault → Type 0
EarlyFault p f = (p.methods ≡ 0) × (f ≡ faults.Word)

-- a line of a class at a place, with the lines below it
abbrev pub ClassLineFault : Place → Statement → List Statement → AsmFault → Type 0
ClassLineFault p Empty below f = ⊥
ClassLineFault p (Label name) below f = EarlyFault p f ⊎ LineFault p.lines p.above p.slot (Label name) f
ClassLineFault p (Instruction d) below f = EarlyFault p f ⊎ LineFault p.lines p.above p.slot (Instruction d) f
ClassLineFault p (Rules rules) below f = RulesFault p rules f
ClassLineFault p (Directive header) below f = OpeningFault p header below f

-- of lines that begin at a place and with that number, line n has fault f
abbrev pub ClassLinesHaveFault : Place → ℕ → List Statement → ℕ → AsmFault → Type 0
ClassLinesHaveFault p line [] n f = ⊥
ClassLinesHaveFault p line (s ∷ ss) n f =
    ((n ≡ line) × ClassLineFault p s ss f) ⊎ ClassLinesHaveFault (next_place p s ss) (line + 1) ss n f

-- line n of a class's text has fault f
abbrev pub HasClassFault : List Statement → ℕ → AsmFault → Type 0
HasClassFault lines n f = IsBare lines n f ⊎ ClassLinesHaveFault top 1 lines n f

-- ---- the first fault

-- the lowest line that has a fault, and there the lowest number
pub record IsFirstFault (Has : ℕ → AsmFault → Type 0) (line : ℕ) (f : AsmFault) : Type 0 where
  pub has : Has line f
  pub least : (n : ℕ) (g : AsmFault) → Has n g → (line < n) ⊎ ((line ≡ n) × (fault_number f ≤ fault_number g))

-- a refusal of one method's text, and of a class's: the first fault of what its lines say
pub record RefusesText (text : List ℕ) (e : AsmError) : Type 0 where
  pub lines : List Statement
  pub say : TextSays text lines
  pub first : IsFirstFault (HasFault lines) e.line e.fault

-- the same of a class's text
pub record RefusesClassText (text : List ℕ) (e : AsmError) : Type 0 where
  pub lines : List Statement
  pub say : TextSays text lines
  pub first : IsFirstFault (HasClassFault lines) e.line e.fault

-- a text without fault
pub record IsFaultless (text : List ℕ) : Type 0 where
  pub lines : List Statement
  pub say : TextSays text lines
  pub none : (n : ℕ) (f : AsmFault) → ¬ HasFault lines n f

-- the same of a class's text
pub record IsFaultlessClass (text : List ℕ) : Type 0 where
  pub lines : List Statement
  pub say : TextSays text lines
  pub none : (n : ℕ) (f : AsmFault) → ¬ HasClassFault lines n f
