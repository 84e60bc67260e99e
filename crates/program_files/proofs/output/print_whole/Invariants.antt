use Rattle.std.proofs.Common.{take, IfSome}
use Rattle.std.specs.Io.KnownBytes.{Appends}
use Rattle.program_files.proofs.output.print_whole.Given as goal

-- what comes before was written
abbrev pub invariant-loop : goal.invariant-loop
invariant-loop g l = IfSome (g.D.Display.output l.text) (λ t. Appends (g.W.Write.contents l.fn.writer) (g.W.Write.contents l.writer) (take l.written t))
