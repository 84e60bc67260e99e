use Rattle.std.proofs.Common.{ap, sym, ◌∙◌}
use Rattle.std.specs.FinMap as fin
use Rattle.shared_map.proofs.Maps.{len-map}
use Rattle.shared_map.proofs.shared_map.SharedMap.len.Goals as goal

pub returns : goal.returns
returns g c = c.len.ensures ∙ sym (len-map _ c.self.invariant) ∙ ap fin.len c.self.view_is
