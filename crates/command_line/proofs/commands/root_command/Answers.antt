use Rattle.command_line.proofs.Built.{subcommand_line}
use Rattle.command_line.proofs.commands.root_command.Goals as goal

pub returns : goal.returns
returns c =
    let asm = subcommand_line _ _ _ _ _ c.with_subcommand.ensures c.asm_command.ensures.local c.asm_command.ensures.line c.image_command-of_images.ensures in
    let pack = subcommand_line _ _ _ _ _ c.with_subcommand-of_code.ensures c.pack_command.ensures.local c.pack_command.ensures.line asm in
    let dis = subcommand_line _ _ _ _ _ c.with_subcommand-of_texts.ensures c.dis_command.ensures.local c.dis_command.ensures.line pack in
    let heads = subcommand_line _ _ _ _ _ c.with_subcommand-of_loops.ensures c.heads_command.ensures.local c.heads_command.ensures.line dis in
    let sim = subcommand_line _ _ _ _ _ c.with_subcommand-of_groups.ensures c.sim_command.ensures.local c.sim_command.ensures.line heads in
    subcommand_line _ _ _ _ _ c.with_subcommand-2.ensures c.cluster_command.ensures.local c.cluster_command.ensures.line sim
