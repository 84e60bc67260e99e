use Rattle.std.proofs.Common.{refl}
use Rattle.std.specs.Prelude.{string_bytes}
use Rattle.sim.proofs.drawing.with_bad.Goals as goal

pub returns : goal.returns
returns c = record { picture = string_bytes c.args.picture; text_is = c.in_ok-push_bad.ensures; bad_is = refl }
