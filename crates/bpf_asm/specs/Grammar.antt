-- The grammar of one method's text and of a class's, as relations: what each line says, labels that
-- stand once, and distances that reach them.
use Rattle.std.specs.Prelude.{◌≡◌, ℕ, ℤ, pos, ◌+◌, ◌-ℤ◌, ◌≤◌, true, length, List, [], ◌∷◌, ◌++◌, Some, None, Result, Ok}
use Rattle.std.specs.Prelude.{Err, FitsSigned}
use Rattle.std.specs.Int.{w16, w32}
use Rattle.bpf_decode.specs.declared.insn.Insn.{Insn}
use Rattle.bpf_decode.specs.declared.insn.Insn.TheVariants as insns
use Rattle.bpf_decode.specs.Instruction.{slot_count, slot_total}
use Rattle.asm_lines.specs.declared.fault.AsmFault.{AsmFault}
use Rattle.asm_lines.specs.declared.target.Target.{Target}
use Rattle.asm_lines.specs.declared.target.Target.TheVariants as targets
use Rattle.asm_lines.specs.declared.draft.Draft.{Draft}
use Rattle.asm_lines.specs.declared.draft.Draft.TheVariants as drafts
use Rattle.asm_lines.specs.declared.statement.Statement.{Statement}
use Rattle.asm_lines.specs.declared.statement.Statement.TheVariants.{Empty, Label, Rules, Directive, Instruction}
use Rattle.std.specs.List.{before_first}
use Rattle.bpf_decode.specs.declared.rule_set.RuleSet.{RuleSet}
use Rattle.bpf_decode.specs.declared.rule_set.RuleSet.TheVariants.{One}
use Rattle.bpf_decode.specs.Class.{ClassMethod, Class, AreWithinSet}
use Rattle.bpf_decode.specs.ImageReading.{is_above}
use Rattle.asm_lines.specs.Headers.{MethodHeader}
use Rattle.bpf_asm.specs.Classes.{is_directive, method_with}
use Rattle.bpf_asm.specs.Lines.{TextSays}
use Rattle.bpf_asm.specs.Bodies.{slot_of_label}
use Rattle.bpf_decode.specs.declared.limits.TheConstants.{METHOD_LIMIT, SLOT_LIMIT}

-- a label that stands on no line above
abbrev pub IsFirst : List Statement → Statement → Type 0
IsFirst before Empty = Unit {0}
IsFirst before (Label name) = slot_of_label name 0 before ≡ None
IsFirst before (Rules rules) = Unit {0}
IsFirst before (Directive header) = Unit {0}
IsFirst before (Instruction d) = Unit {0}

-- each label of the lines stands once, also among those above them
abbrev pub LabelsOnce : List Statement → List Statement → Type 0
LabelsOnce before [] = Unit {0}
LabelsOnce before (s ∷ ss) = IsFirst before s × LabelsOnce (before ++ (s ∷ [])) ss

-- how far a jump at a slot goes: as it is written, or from the slot after it to its label
pub record ReachesLabel (all : List Statement) (slot : ℕ) (name : List ℕ) (distance : ℤ) : Type 0 where
  pub at : ℕ
  pub stands : slot_of_label name 0 all ≡ Some at
  pub is_distance : distance ≡ pos at -ℤ pos (slot + 1)

-- by its target
abbrev pub Reaches : List Statement → ℕ → Target → ℤ → Type 0
Reaches all slot (targets.Slots z) distance = z ≡ distance
Reaches all slot (targets.Label name) distance = ReachesLabel all slot name distance

-- an instruction with a distance that fits
pub record GoesBy (all : List Statement) (slot : ℕ) (target : Target) (Fits : ℤ → Type 0) (with_distance : ℤ →
    Insn) (i : Insn) : Type 0 where
  pub distance : ℤ
  pub is_insn : with_distance distance ≡ i
  pub reaches : Reaches all slot target distance
  pub fits : Fits distance

-- the instruction that a line says; jumps to labels are resolved among all the method's lines
abbrev pub SaysInsn : List Statement → ℕ → Result Draft AsmFault → Insn → Type 0
SaysInsn all slot (Ok (drafts.Plain insn)) i = insn ≡ i
SaysInsn all slot (Ok (drafts.Jump target)) i = GoesBy all slot target (FitsSigned w16) insns.Jump i
SaysInsn all slot (Ok (drafts.JumpLong target)) i = GoesBy all slot target (FitsSigned w32) insns.JumpLong i
SaysInsn all slot (Ok (drafts.Branch bits comparison dst source target)) i =
    GoesBy all slot target (FitsSigned w16) (insns.Branch bits comparison dst source) i
SaysInsn all slot (Ok (drafts.CallLocal target)) i = GoesBy all slot target (FitsSigned w32) insns.CallLocal i
SaysInsn all slot (Err fault) i = ⊥

-- the lines from a slot on say these instructions
abbrev pub Says : List Statement → ℕ → List Statement → List Insn → Type 0
Says all slot [] [] = Unit {0}
Says all slot [] (i ∷ is) = ⊥
Says all slot (Empty ∷ ss) is = Says all slot ss is
Says all slot (Label name ∷ ss) is = Says all slot ss is
Says all slot (Rules rules ∷ ss) is = ⊥
Says all slot (Directive header ∷ ss) is = ⊥
Says all slot (Instruction d ∷ ss) [] = ⊥
Says all slot (Instruction d ∷ ss) (i ∷ is) = SaysInsn all slot d i × Says all (slot + slot_count i) ss is

-- The lines of one method: its instructions.
pub record AreMethodLines (lines : List Statement) (is : List Insn) : Type 0 where
  pub labels : LabelsOnce [] lines
  pub says : Says lines 0 lines is
  pub some : 1 ≤ slot_total is
  pub limit : slot_total is ≤ SLOT_LIMIT

-- The text of a method's instructions.
pub record IsMethodText (text : List ℕ) (is : List Insn) : Type 0 where
  pub lines : List Statement
  pub say : TextSays text lines
  pub method : AreMethodLines lines is

-- nothing stands above the first `.method`
abbrev pub BeginsWithMethod : List Statement → Type 0
BeginsWithMethod [] = Unit {0}
BeginsWithMethod (Empty ∷ ss) = BeginsWithMethod ss
BeginsWithMethod (Label name ∷ ss) = ⊥
BeginsWithMethod (Rules rules ∷ ss) = ⊥
BeginsWithMethod (Directive header ∷ ss) = Unit {0}
BeginsWithMethod (Instruction d ∷ ss) = ⊥

-- above the first `.method` stands `.rules` with the rule set, or nothing if the set is 1
abbrev pub BeginsWith : RuleSet → List Statement → Type 0
BeginsWith rules [] = rules ≡ One
BeginsWith rules (Empty ∷ ss) = BeginsWith rules ss
BeginsWith rules (Label name ∷ ss) = ⊥
BeginsWith rules (Rules (Ok set) ∷ ss) = (set ≡ rules) × BeginsWithMethod ss
BeginsWith rules (Rules (Err fault) ∷ ss) = ⊥
BeginsWith rules (Directive header ∷ ss) = rules ≡ One
BeginsWith rules (Instruction d ∷ ss) = ⊥

-- a method of that header
abbrev pub HasHeader : Result MethodHeader AsmFault → ClassMethod → Type 0
HasHeader (Ok h) m = m ≡ method_with h m.instructions
HasHeader (Err fault) m = ⊥

-- each `.method` with the lines up to the next one says a method
abbrev pub SayMethods : List Statement → List ClassMethod → Type 0
SayMethods [] [] = Unit {0}
SayMethods [] (m ∷ ms) = ⊥
SayMethods (Empty ∷ ss) ms = SayMethods ss ms
SayMethods (Label name ∷ ss) ms = SayMethods ss ms
SayMethods (Rules rules ∷ ss) ms = SayMethods ss ms
SayMethods (Instruction d ∷ ss) ms = SayMethods ss ms
SayMethods (Directive header ∷ ss) [] = ⊥
SayMethods (Directive header ∷ ss) (m ∷ ms) =
    HasHeader header m × AreMethodLines (before_first is_directive ss) m.instructions × SayMethods ss ms

-- each name is above the one before it
abbrev pub NamesAbove : List ℕ → List ClassMethod → Type 0
NamesAbove before [] = Unit {0}
NamesAbove before (m ∷ ms) = (is_above before m.name ≡ true) × NamesAbove m.name ms

-- The lines of a class: its rule set and its methods.
pub record AreClassLines (lines : List Statement) (c : Class) : Type 0 where
  pub begins : BeginsWith c.rules lines
  pub methods : SayMethods lines c.methods
  pub within : AreWithinSet c.rules c.methods
  pub names : NamesAbove [] c.methods
  pub some : 1 ≤ length c.methods
  pub limit : length c.methods ≤ METHOD_LIMIT

-- The text of a class.
pub record IsClassText (text : List ℕ) (c : Class) : Type 0 where
  pub lines : List Statement
  pub say : TextSays text lines
  pub class : AreClassLines lines c
