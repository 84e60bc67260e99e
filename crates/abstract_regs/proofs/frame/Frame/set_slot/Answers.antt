use Rattle.std.proofs.Common.{List, ap, ◌∙◌}
use Rattle.std.specs.Prelude.{slice_set}
use Rattle.std.proofs.lemmas.List.{map-set}
use Rattle.abstract_regs.specs.Frame.{PlainFrame, with_slots}
use Rattle.abstract_regs.specs.Kind.{PlainKind}
use Rattle.abstract_regs.specs.Seen.{seen, seen_each}
use Rattle.abstract_regs.proofs.frame.Frame.set_slot.Goals as goal

pub returns-then-slot-len : goal.returns-then-slot-len
returns-then-slot-len c =
    let of : List PlainKind → PlainFrame = λ xs. record { registers = seen_each c.self.inside.registers; slots = xs; links = c.self.inside.links.items } in
    ap of (map-set seen c.self.inside.slots.items c.args.slot c.args.kind)
    ∙ ap (λ f. with_slots f (slice_set f.slots c.args.slot (seen c.args.kind))) c.self.view_is
