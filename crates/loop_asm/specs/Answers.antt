-- What code returns, by what reading gives.
use Rattle.std.specs.Prelude.{◌≡◌, ◌⊎◌, ℕ, List, map, Result, Ok, Err}
use Rattle.std.specs.Borrow.{Bor}
use Rattle.asm_lines.specs.declared.fault.AsmFault.{AsmFault}
use Rattle.asm_lines.specs.declared.fault.AsmFault.TheVariants.{NoMemory}
use Rattle.asm_lines.specs.declared.fault.AsmError.{AsmError}
use Rattle.asm_lines.specs.Fault.{no_memory}

-- the contents of lines
abbrev pub contents : List (Bor (List ℕ)) → List (List ℕ)
contents texts = map (λ t. t.now) texts

-- the refusal of a line for that fault; want of memory is on no line
abbrev pub refusal_of : ℕ → AsmFault → AsmError
refusal_of line NoMemory = no_memory
refusal_of line fault = record { line = line; fault = fault }

-- What a function returned, seen by view, is what reading gives, unless memory ran out.
abbrev pub Gives : {X Y : Type 0} → (X → Y) → Result X AsmError → Result Y AsmError → Type 0
Gives view (Ok x) read = read ≡ Ok (view x)
Gives view (Err e) read = (e ≡ no_memory) ⊎ (read ≡ Err e)
