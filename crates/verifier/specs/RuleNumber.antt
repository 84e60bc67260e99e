-- The rules by number and name, and how they and a refusal print.
use Rattle.std.specs.Prelude.{ℕ, List, ◌++◌, codes}
use Rattle.std.specs.Fmt.{decimal}
use Rattle.verifier.specs.declared.refusal.Refusal.{Refusal}
use Rattle.verifier.specs.declared.rule.Rule.{Rule}
use Rattle.verifier.specs.declared.rule.Rule.TheVariants.{Backward, Target, FallsOff, LocalCall, UnsetRead, WritesR10}
use Rattle.verifier.specs.declared.rule.Rule.TheVariants.{PointerArithmetic, PointerCompare, PointerStored, Bounds}
use Rattle.verifier.specs.declared.rule.Rule.TheVariants.{ReadOnlyRegion, UnknownHelper, HelperArgument}
use Rattle.verifier.specs.declared.rule.Rule.TheVariants.{WriteHelperInReader, ReturnsPointer, NoMemory, PointerBytes}

-- the numbers of the rules
abbrev pub rule_number : Rule → ℕ
rule_number Backward = 1
rule_number Target = 2
rule_number FallsOff = 3
rule_number LocalCall = 4
rule_number UnsetRead = 5
rule_number WritesR10 = 6
rule_number PointerArithmetic = 7
rule_number PointerCompare = 8
rule_number PointerStored = 9
rule_number Bounds = 10
rule_number ReadOnlyRegion = 11
rule_number UnknownHelper = 12
rule_number HelperArgument = 13
rule_number WriteHelperInReader = 14
rule_number ReturnsPointer = 15
rule_number NoMemory = 16
rule_number PointerBytes = 17

-- the names of the rules
abbrev pub rule_name : Rule → List ℕ
rule_name Backward = codes "Backward"
rule_name Target = codes "Target"
rule_name FallsOff = codes "FallsOff"
rule_name LocalCall = codes "LocalCall"
rule_name UnsetRead = codes "UnsetRead"
rule_name WritesR10 = codes "WritesR10"
rule_name PointerArithmetic = codes "PointerArithmetic"
rule_name PointerCompare = codes "PointerCompare"
rule_name PointerStored = codes "PointerStored"
rule_name Bounds = codes "Bounds"
rule_name ReadOnlyRegion = codes "ReadOnlyRegion"
rule_name UnknownHelper = codes "UnknownHelper"
rule_name HelperArgument = codes "HelperArgument"
rule_name WriteHelperInReader = codes "WriteHelperInReader"
rule_name ReturnsPointer = codes "ReturnsPointer"
rule_name NoMemory = codes "NoMemory"
rule_name PointerBytes = codes "PointerBytes"

-- a rule's text: number and name
abbrev pub rule_text : Rule → List ℕ
rule_text rule = decimal (rule_number rule) ++ codes " " ++ rule_name rule

-- a refusal's text: method, slot and rule
abbrev pub refusal_text : Refusal → List ℕ
refusal_text r =
    codes "refused method " ++ decimal r.method ++ codes " slot " ++ decimal r.slot ++ codes ": " ++ rule_text r.rule
