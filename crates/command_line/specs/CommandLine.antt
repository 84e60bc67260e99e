-- The command line: `verify IN .. [--all] [--loops] [--json] [--explain]`, `run IN METHOD [--caller N]
-- [--input HEX] [--input-text TEXT] [--input-u64 N,..] [--object HEX] [--xattr NAME=HEX ..] [--key KEY=HEX ..]
-- [--limits LIMITS] [--loops] [--load FILE] [--save FILE] [--show] [--trace] [--json] [--explain]`, `test IN FILE
-- [--trace] [--loops] [--explain]`, `asm IN OUT [--all] [--heads] [--budget N] [--explain]`,
-- `pack OUT METHOD .. [--rules N] [--heads] [--budget N] [--explain]`, `dis IN [--slots] [--explain]`,
-- `heads IN OUT [--budget N]`,
-- `sim FILE [--class NAME=IMAGE ..] [--trace] [--objects] [--explain]`, and
-- `cluster FILE [--class NAME=IMAGE ..] [--show] [--stats] [--strict] [--explain] [--follow]`.
use Rattle.std.specs.Prelude.{[], ◌∷◌, Some, true, codes}
use Rattle.clap.specs.Lexer.{usize_max}
use Rattle.clap.specs.Words.{App, Rule, Text, new_app, new_rule, with_rule, with_subcommand}
use Rattle.clap.specs.declared.builder.action.ArgAction.TheVariants as argument

-- an argument that has to be there, by its place
abbrev pub required_rule : Text → Rule
required_rule id = record (new_rule id) { required = true }

-- an argument that has to be there, by its place, once or more often
abbrev pub many_rule : Text → Rule
many_rule id =
    record (required_rule id) { range = Some (record { start_inclusive = 1; end_inclusive = usize_max }) }

-- an option with one value and a default
abbrev pub option_rule : Text → Text → Rule
option_rule id default = record (new_rule id) { long = Some id; value_names = 1; defaults = default ∷ [] }

-- an option with one value and no default
abbrev pub value_rule : Text → Rule
value_rule id = record (new_rule id) { long = Some id; value_names = 1 }

-- an option that may stand more than once, each with one value
abbrev pub each_rule : Text → Rule
each_rule id = record (new_rule id) { long = Some id; value_names = 1; action = Some argument.Append }

-- a flag
abbrev pub flag_rule : Text → Rule
flag_rule id = record (new_rule id) { long = Some id; action = Some argument.SetTrue }

-- the number of the client that calls
abbrev pub caller_rule : Rule
caller_rule = option_rule (codes "caller") (codes "1")

-- the flag that has a failure explained
abbrev pub explain_rule : Rule
explain_rule = flag_rule (codes "explain")

-- the flag that has what is printed in JSON
abbrev pub json_rule : Rule
json_rule = flag_rule (codes "json")

-- the flag that has loops judged by the heads that methods declare, and run by their budgets
abbrev pub loops_rule : Rule
loops_rule = flag_rule (codes "loops")

-- `verify`, which tells whether classes are safe
abbrev pub verify_line : App
verify_line =
    with_rule (with_rule (with_rule (with_rule (with_rule (new_app (codes "verify")) (many_rule (codes "IN")))
    (flag_rule (codes "all"))) loops_rule) json_rule) explain_rule

-- a call of a method
abbrev pub plain_call_line : App
plain_call_line = with_rule (with_rule (with_rule (new_app (codes "run")) (required_rule (codes "IN")))
    (required_rule (codes "METHOD"))) caller_rule

-- on an input that digits, a text or numbers spell
abbrev pub call_line : App
call_line = with_rule (with_rule (with_rule plain_call_line (value_rule (codes "input")))
    (value_rule (codes "input-text"))) (value_rule (codes "input-u64"))

-- on an object that words spell
abbrev pub object_line : App
object_line = with_rule (with_rule (with_rule call_line (value_rule (codes "object"))) (each_rule (codes "xattr")))
    (each_rule (codes "key"))

-- by limits, or by loops
abbrev pub limits_line : App
limits_line = with_rule (with_rule object_line (option_rule (codes "limits") (codes "profile"))) loops_rule

-- or a file, and into a file
abbrev pub run_line : App
run_line =
    with_rule (with_rule (with_rule (with_rule (with_rule (with_rule limits_line (value_rule (codes "load")))
    (value_rule (codes "save"))) (flag_rule (codes "show"))) (flag_rule (codes "trace"))) json_rule) explain_rule

-- `test`, which runs the tests of a class
abbrev pub test_line : App
test_line =
    with_rule (with_rule (with_rule (with_rule (with_rule (new_app (codes "test")) (required_rule (codes "IN")))
    (required_rule (codes "FILE"))) (flag_rule (codes "trace"))) loops_rule) explain_rule

-- the flag that has heads of loops found
abbrev pub heads_rule : Rule
heads_rule = flag_rule (codes "heads")

-- what a call of a method that gets heads by that flag may take
abbrev pub given_budget_rule : Rule
given_budget_rule = value_rule (codes "budget")

-- `asm`, which makes an image of a text
abbrev pub asm_line : App
asm_line =
    with_rule (with_rule (with_rule (with_rule (with_rule (with_rule (new_app (codes "asm"))
    (required_rule (codes "IN"))) (required_rule (codes "OUT"))) (flag_rule (codes "all"))) heads_rule)
    given_budget_rule) explain_rule

-- the methods that are packed, one or more
abbrev pub methods_rule : Rule
methods_rule = many_rule (codes "METHOD")

-- the rule set of a packed class
abbrev pub rules_rule : Rule
rules_rule = option_rule (codes "rules") (codes "1")

-- `pack`, which makes an image of raw code
abbrev pub pack_line : App
pack_line =
    with_rule (with_rule (with_rule (with_rule (with_rule (with_rule (new_app (codes "pack"))
    (required_rule (codes "OUT"))) methods_rule) rules_rule) heads_rule) given_budget_rule) explain_rule

-- `dis`, which gives the text of a class
abbrev pub dis_line : App
dis_line = with_rule (with_rule (with_rule (new_app (codes "dis")) (required_rule (codes "IN")))
    (flag_rule (codes "slots"))) explain_rule

-- what a call of a method that gets heads may take
abbrev pub budget_rule : Rule
budget_rule = option_rule (codes "budget") (codes "131072")

-- `heads`, which makes an image with heads of loops
abbrev pub heads_line : App
heads_line = with_rule (with_rule (with_rule (new_app (codes "heads")) (required_rule (codes "IN")))
    (required_rule (codes "OUT"))) budget_rule

-- the option of a tenant's class, which may stand more than once
abbrev pub class_rule : Rule
class_rule = each_rule (codes "class")

-- the flag that has the run drawn
abbrev pub trace_rule : Rule
trace_rule = flag_rule (codes "trace")

-- the flag that has the objects of a node shown
abbrev pub objects_rule : Rule
objects_rule = flag_rule (codes "objects")

-- `sim`, which plays a file of events
abbrev pub sim_line : App
sim_line =
    with_rule (with_rule (with_rule (with_rule (with_rule (new_app (codes "sim")) (required_rule (codes "FILE")))
    class_rule) trace_rule) objects_rule) explain_rule

-- the flag that has a run measured
abbrev pub stats_rule : Rule
stats_rule = flag_rule (codes "stats")

-- the flag that has refused calls change the status
abbrev pub strict_rule : Rule
strict_rule = flag_rule (codes "strict")

-- the flag that has each call's line written while the run goes on
abbrev pub follow_rule : Rule
follow_rule = flag_rule (codes "follow")

-- `cluster`, which plays a file of calls and maps
abbrev pub cluster_line : App
cluster_line =
    with_rule (with_rule (with_rule (with_rule (with_rule (with_rule (with_rule (new_app (codes "cluster"))
    (required_rule (codes "FILE"))) class_rule) (flag_rule (codes "show"))) stats_rule) strict_rule) explain_rule)
    follow_rule

-- the program's name, which wants a subcommand
abbrev pub plain_line : App
plain_line = let named = new_app (codes "radoscls") in
    record named {
      top = record named.top {
        has_version = true;
        arg_required_else_help = true;
        subcommand_required = true;
      };
    }

-- with the subcommands that judge a class, call it and test it
abbrev pub image_line : App
image_line = with_subcommand (with_subcommand (with_subcommand plain_line verify_line.top) run_line.top) test_line.top

-- with those that make images and texts too
abbrev pub class_line : App
class_line = with_subcommand (with_subcommand (with_subcommand image_line asm_line.top) pack_line.top) dis_line.top

-- with that which finds heads too
abbrev pub loop_line : App
loop_line = with_subcommand class_line heads_line.top

-- with that of a group too
abbrev pub group_line : App
group_line = with_subcommand loop_line sim_line.top

-- the whole of it
abbrev pub command_line : App
command_line = with_subcommand group_line cluster_line.top
