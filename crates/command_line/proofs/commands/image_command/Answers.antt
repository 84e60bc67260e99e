use Rattle.command_line.proofs.Built.{subcommand_line}
use Rattle.command_line.proofs.commands.image_command.Goals as goal

pub returns : goal.returns
returns c =
    let verify = subcommand_line _ _ _ _ _ c.with_subcommand.ensures c.verify_command.ensures.local c.verify_command.ensures.line c.plain_command.ensures in
    let run = subcommand_line _ _ _ _ _ c.with_subcommand-of_calls.ensures c.run_command.ensures.local c.run_command.ensures.line verify in
    subcommand_line _ _ _ _ _ c.with_subcommand-2.ensures c.test_command.ensures.local c.test_command.ensures.line run
