use Rattle.std.proofs.Common.{ap, ◌∙◌, sym}
use Rattle.abstract_regs.specs.Slots.{meets}
use Rattle.abstract_regs.specs.Seen.{seen_each}
use Rattle.abstract_regs.proofs.SlotLists.{meets_nowhere}
use Rattle.abstract_regs.proofs.slots.meets.Goals as goal

pub returns-in-None : goal.returns-in-None
returns-in-None c =
    let ys = seen_each c.args.slots.now in
    sym (ap (λ s. meets c.args.content s 0 ys) c.in-None.is ∙ meets_nowhere c.args.content 0 ys)
