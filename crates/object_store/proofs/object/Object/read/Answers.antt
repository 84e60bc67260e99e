use Rattle.std.proofs.Common.{◌≡◌, ℕ, [], length, take, ap, sym, ◌∙◌}
use Rattle.std.proofs.Math.Seq.{take-nil, drop-nil}
use Rattle.object_store.specs.Object.{Content, nothing, part}
use Rattle.object_store.specs.Edits.{overlaid}
use Rattle.object_store.specs.Shared.{content_behind}
use Rattle.object_store.proofs.object.Object.read.Goals as goal

part_nil : (place n : ℕ) → [] ≡ part [] place n
part_nil place n = sym (ap (take n) (drop-nil place) ∙ take-nil n)

pub returns-in-None-clause-count : goal.returns-in-None-clause-count
returns-in-None-clause-count c =
    let empty : nothing ≡ c.args.self.now = ap content_behind (sym c.in-None.is) ∙ c.self.view_is in
    ap length (part_nil c.args.at (length c.args.out.now)) ∙ ap (λ (o : Content). length (part o.bytes c.args.at (length c.args.out.now))) empty

pub returns-in-None-clause-bytes : goal.returns-in-None-clause-bytes
returns-in-None-clause-bytes c =
    let empty : nothing ≡ c.args.self.now = ap content_behind (sym c.in-None.is) ∙ c.self.view_is in
    ap (λ b. overlaid b c.args.out.now) (part_nil c.args.at (length c.args.out.now)) ∙ ap (λ (o : Content). overlaid (part o.bytes c.args.at (length c.args.out.now)) c.args.out.now) empty
