-- The task that words ask for.
use Rattle.std.specs.Prelude.{List}
use Rattle.command_line.specs.Parsed.{IsParse, Parsed, Text}
use Rattle.radoscls_program.specs.Arguments.{Asks}
use Rattle.radoscls_program.specs.declared.task.Task.{Task}

-- The words ask for a task, and have no fault.
pub record AreFor (words : List Text) (task : Task) : Type 0 where
  pub parsed : Parsed
  pub parse : IsParse words parsed
  pub asks : Asks parsed task

-- The words have a fault or name no task.
abbrev pub AreForNone : List Text → Type 0
AreForNone words = (task : Task) → AreFor words task → ⊥
