-- What one more argument or subcommand makes of a command.
use Rattle.std.proofs.Common.{◌≡◌, ◌∙◌, ◌||◌, Result, Ok, Err, ap, ap₂, subst, false}
use Rattle.std.specs.Prelude.{IfOk}
use Rattle.clap.specs.Words.{AddsArg, AddsSubcommand, App, Rule, app_of, rule_of, with_rule, with_subcommand}
use Rattle.clap.specs.declared.builder.arg.Arg.{Arg}
use Rattle.clap.specs.declared.builder.command.Command.{Command}
use Rattle.clap.specs.declared.builder.command.Command.TheViews.{out-Command}

-- a command has that line, where there is one
abbrev pub HasLine : {E : Type 0} → App → Result Command E → Type 0
HasLine line o = IfOk o (λ c. app_of c ≡ line)

-- it has no argument for subcommands too
abbrev pub IsLocal : {E : Type 0} → Result Command E → Type 0
IsLocal o = IfOk o (λ c. (out-Command c).has_globals ≡ false)

-- after the line of a command stands that of an argument for it alone
pub arg_line : {E : Type 0} (before after : Result Command E) (a : Arg) (line : App) (rule : Rule)
    → IfOk after (λ new. (old : Command) × (before ≡ Ok old) × AddsArg old a new) → a.global ≡ false → rule_of a ≡ rule
    → HasLine line before → HasLine (with_rule line rule) after
arg_line {E} before (Ok new) a line rule added local is had =
    let line_before : app_of added.0 ≡ line = subst (λ (o : Result Command E). HasLine line o) added.1 had in
    added.2.shape local ∙ ap₂ with_rule line_before is
arg_line before (Err e) a line rule added local is had = tt

pub arg_local : {E : Type 0} (before after : Result Command E) (a : Arg)
    → IfOk after (λ new. (old : Command) × (before ≡ Ok old) × AddsArg old a new) → a.global ≡ false → IsLocal before → IsLocal after
arg_local {E} before (Ok new) a added local had =
    let local_before : (out-Command added.0).has_globals ≡ false = subst (λ (o : Result Command E). IsLocal o) added.1 had in
    added.2.globals ∙ ap₂ (λ x y. x || y) local_before local
arg_local before (Err e) a added local had = tt

-- after it stands that of a subcommand
pub subcommand_line : {E : Type 0} (before added after : Result Command E) (line more : App)
    → IfOk after (λ new. (old : Command) × (sub : Command) × (before ≡ Ok old) × (added ≡ Ok sub) × AddsSubcommand old sub new)
    → IsLocal added → HasLine more added → HasLine line before → HasLine (with_subcommand line more.top) after
subcommand_line {E} before added (Ok new) line more adds local is had =
    let line_before : app_of adds.0 ≡ line = subst (λ (o : Result Command E). HasLine line o) adds.2 had in
    let line_added : app_of adds.1 ≡ more = subst (λ (o : Result Command E). HasLine more o) adds.3 is in
    let local_added : (out-Command adds.1).has_globals ≡ false = subst (λ (o : Result Command E). IsLocal o) adds.3 local in
    adds.4.shape local_added ∙ ap₂ with_subcommand line_before (ap (λ (a : App). a.top) line_added)
subcommand_line before added (Err e) line more adds local is had = tt
