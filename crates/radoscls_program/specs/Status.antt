-- The number that the process ends with.
use Rattle.std.specs.Prelude.{ℕ}
use Rattle.radoscls_program.specs.declared.status.ExitStatus.{ExitStatus}
use Rattle.radoscls_program.specs.declared.status.ExitStatus.TheVariants.{Done, Refused, Usage}

-- the number of each ending
abbrev pub code_of : ExitStatus → ℕ
code_of Done = 0
code_of Refused = 1
code_of Usage = 2
