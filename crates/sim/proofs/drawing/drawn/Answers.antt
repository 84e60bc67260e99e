use Rattle.std.proofs.Common.{append-nil, refl, subst, sym, false, ℕ, None, Option}
use Rattle.std.specs.Prelude.{string_bytes}
use Rattle.sim.specs.Run.{IsPicture}
use Rattle.sim.proofs.drawing.drawn.Goals as goal

pub returns-in-None : goal.returns-in-None
returns-in-None c =
    let text = string_bytes c.in_ok-picture.picture in
    let plain : IsPicture None text false = record { picture = text; text_is = sym (append-nil text); bad_is = refl } in
    subst (λ (bad : Option ℕ). IsPicture bad text false) (sym c.in-None.is) plain
