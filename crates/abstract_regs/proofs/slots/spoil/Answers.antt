use Rattle.std.proofs.Common.{ap, ◌∙◌, sym}
use Rattle.abstract_regs.specs.Slots.{spoiled}
use Rattle.abstract_regs.specs.Seen.{seen_each}
use Rattle.abstract_regs.proofs.SlotLists.{spoiled_none}
use Rattle.abstract_regs.proofs.slots.spoil.Goals as goal

pub returns-in-None : goal.returns-in-None
returns-in-None c =
    let ys = seen_each c.args.slots.now in
    sym (ap (λ s. spoiled s 0 ys) c.in-None.is ∙ spoiled_none 0 ys)
