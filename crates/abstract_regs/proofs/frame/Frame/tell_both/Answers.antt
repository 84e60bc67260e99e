use Rattle.std.proofs.Common.{rules, ◌≡◌, false}
use Rattle.abstract_regs.specs.Edged.{is_told}
use Rattle.abstract_regs.proofs.Forks.{untold}
use Rattle.abstract_regs.proofs.frame.Frame.tell_both.Goals as goal

pub returns-then-not-is_told : goal.returns-then-not-is_told
returns-then-not-is_told c =
    let free : is_told c.args.self.now c.args.dst c.args.source.now ≡ false = search rules in
    untold c.args.precision c.args.self.now c.args.dst c.args.source.now free
