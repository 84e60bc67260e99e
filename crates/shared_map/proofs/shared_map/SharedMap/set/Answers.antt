use Rattle.std.proofs.Common.{◌≡◌, ap, ◌∙◌}
use Rattle.std.specs.Ordering.{nat_cmp}
use Rattle.std.specs.Cmp.Lexicographic.{slice_cmp}
use Rattle.std.specs.FinMap as fin
use Rattle.std.specs.FinMap.{put}
use Rattle.shared_map.specs.Entries.{sorted}
use Rattle.shared_map.proofs.Halves.{sorted-put}
use Rattle.shared_map.proofs.Maps.{map_of, put-map}
use Rattle.shared_map.proofs.shared_map.SharedMap.set.Goals as goal

pub invariant_of-self : goal.invariant_of-self
invariant_of-self g c =
    let es = c.self.inside.tree.entries in
    let n : c.in_ok-self-inside.field-0.entries ≡ put (slice_cmp nat_cmp) c.args.key.now c.args.value es = c.in_ok-self-inside.ensures in
    ap sorted n ∙ sorted-put c.args.key.now c.args.value es c.self.invariant

pub returns-clause-ok : goal.returns-clause-ok
returns-clause-ok g c =
    let es = c.self.inside.tree.entries in
    let k = c.args.key.now in
    let v = c.args.value in
    let n : c.in_ok-self-inside.field-0.entries ≡ put (slice_cmp nat_cmp) k v es = c.in_ok-self-inside.ensures in
    ap map_of n ∙ put-map es k v c.self.invariant ∙ ap (λ m. fin.insert m k v) c.self.view_is
