use Rattle.std.proofs.Common.{ap, ◌∙◌}
use Rattle.shared_map.specs.Shape.{Shape}
use Rattle.shared_map.proofs.Maps.{map_of, empty-map}
use Rattle.shared_map.proofs.shared_map.SharedMap.new.Goals as goal

pub returns : goal.returns
returns g c = ap (λ (s : Shape g.row.V.Denot). map_of s.entries) c.new.ensures ∙ empty-map
