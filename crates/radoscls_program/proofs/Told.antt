-- The task that words ask for, by the parse of the words.
use Rattle.std.proofs.Common.{◌≡◌, ◌∙◌, ap₂, sym, subst, List, Result, Ok, Err, IfErr, IfOk}
use Rattle.std.proofs.lemmas.Option.{some_pair_parts}
use Rattle.command_line.specs.Parsed.{IsMemory, IsNoParse, IsParse, Parsed, Text}
use Rattle.command_line.specs.declared.unparsed.Unparsed.{Unparsed}
use Rattle.radoscls_program.specs.Arguments.{Asks}
use Rattle.radoscls_program.specs.Asked.{AreFor, AreForNone}
use Rattle.radoscls_program.specs.declared.task.Task.{Task}

-- words with that parse ask for the task that the parse asks for
asks_of : (words : List Text) (p : Parsed) → IsParse words p → ((task : Task) → Asks p task → ⊥) → AreForNone words
asks_of words p is none task for =
    let same = some_pair_parts for.parsed.name p.name for.parsed.rows p.rows (sym for.parse.entered ∙ is.entered) in
    let alike : for.parsed ≡ p = ap₂ (λ name rows. record { name = name; rows = rows }) same.0 same.1 in
    none task (subst (λ (q : Parsed). Asks q task) alike for.asks)

pub task_asked : (words : List Text) (p : Parsed) (found : Result Task Unparsed) → IsParse words p → IfOk found (Asks p) → IfOk found (AreFor words)
task_asked words p (Ok task) is asks = record { parsed = p; parse = is; asks = asks }
task_asked words p (Err e) is asks = tt

pub none_asked : (words : List Text) (p : Parsed) (found : Result Task Unparsed) → IsParse words p
    → IfErr found (λ e. (IsMemory e → ⊥) → (task : Task) → Asks p task → ⊥) → IfErr found (λ e. (IsMemory e → ⊥) → AreForNone words)
none_asked words p (Ok task) is none = tt
none_asked words p (Err e) is none = λ known. asks_of words p is (none known)

-- words without a parse ask for no task
pub asks_nothing : (words : List Text) → IsNoParse words → AreForNone words
asks_nothing words none task for = none for.parsed for.parse
