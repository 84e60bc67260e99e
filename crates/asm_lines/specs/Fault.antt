-- Refusals: their numbers and names, how they print, and the one for want of memory.
use Rattle.std.specs.Prelude.{ℕ, List, ◌++◌, codes}
use Rattle.std.specs.Fmt.{decimal}
use Rattle.asm_lines.specs.declared.fault.AsmFault.{AsmFault}
use Rattle.asm_lines.specs.declared.fault.AsmFault.TheVariants.{Word, Operand, Range, Label, NoMemory}
use Rattle.asm_lines.specs.declared.fault.AsmError.{AsmError}

-- the numbers of the faults, and their names
abbrev pub fault_number : AsmFault → ℕ
fault_number Word = 1
fault_number Operand = 2
fault_number Range = 3
fault_number Label = 4
fault_number NoMemory = 5

abbrev pub fault_name : AsmFault → List ℕ
fault_name Word = codes "Word"
fault_name Operand = codes "Operand"
fault_name Range = codes "Range"
fault_name Label = codes "Label"
fault_name NoMemory = codes "NoMemory"

-- number and name
abbrev pub fault_text : AsmFault → List ℕ
fault_text f = decimal (fault_number f) ++ codes " " ++ fault_name f

-- the line and its fault
abbrev pub error_text : AsmError → List ℕ
error_text e = codes "line " ++ decimal e.line ++ codes ": " ++ fault_text e.fault

-- want of memory, on no line
abbrev pub no_memory : AsmError
no_memory = record { line = 0; fault = NoMemory }
