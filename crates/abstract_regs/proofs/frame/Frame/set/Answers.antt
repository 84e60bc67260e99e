use Rattle.std.proofs.Common.{◌≡◌, List, ap, ◌∙◌}
use Rattle.std.proofs.lemmas.List.{map-set}
use Rattle.abstract_regs.specs.Frame.{PlainFrame, with_kind}
use Rattle.abstract_regs.specs.Kind.{PlainKind}
use Rattle.abstract_regs.specs.Seen.{seen, seen_each}
use Rattle.abstract_regs.proofs.frame.Frame.set.Goals as goal

pub returns : goal.returns
returns c =
    let of : List PlainKind → PlainFrame = λ xs. record { registers = xs; slots = seen_each c.self.inside.slots.items; links = c.self.inside.links.items } in
    let same : c.from.result ≡ c.args.dst = cc in
    ap of (map-set seen c.self.inside.registers c.from.result c.args.kind)
    ∙ ap (λ f. with_kind f c.from.result (seen c.args.kind)) c.self.view_is
    ∙ ap (λ r. with_kind c.args.self.now r (seen c.args.kind)) same
