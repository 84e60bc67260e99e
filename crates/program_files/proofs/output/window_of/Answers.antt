use Rattle.program_files.proofs.Printed.{known_seen}
use Rattle.program_files.proofs.output.window_of.Goals as goal

pub returns : goal.returns
returns g c = known_seen 1024 c.args.skip c.after-window.result c.write.new.self (g.D.Display.output c.args.text.now) c.after-window.ensures.shown c.after-window.ensures.skip c.in_ok-write.ensures.writes
