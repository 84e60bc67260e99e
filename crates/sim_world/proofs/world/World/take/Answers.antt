use Rattle.std.proofs.Common.{sym, ap, subst, ◌∙◌}
use Rattle.pg_log.specs.Log.{Classes}
use Rattle.sim_world.specs.Holds.{Holds}
use Rattle.sim_world.specs.Step.{step}
use Rattle.sim_world.specs.inner.Parts.{Parts, turn}
use Rattle.sim_world.proofs.Stepping.{Laws, line_done}
use Rattle.sim_world.proofs.world.World.take.Goals as goal

pub invariant_of-self-2 : goal.invariant_of-self-2
invariant_of-self-2 g c = λ e.
    let laws : Laws = record { agreed = c.agreement.ensures.agreed; kept = c.agreement.ensures.kept; uncut = c.nothing_is_cut.ensures; packed = c.packed_lists.ensures.committed } in
    let classes = g.C.Classes.classes in
    let old = c.self.invariant c.if-self.false in
    let is = c.in_ok-taken.ensures ∙ ap (λ (t : Classes). turn t c.self.inside.parts c.args.line) c.requires in
    let done = line_done laws classes c.self.inside.parts c.take.new.self c.in_ok-taken.taken c.args.line old.0 old.1 is in
    ((step old.0 c.args.line).played, done.held)

pub returns : goal.returns
returns g c = λ p held.
    let laws : Laws = record { agreed = c.agreement.ensures.agreed; kept = c.agreement.ensures.kept; uncut = c.nothing_is_cut.ensures; packed = c.packed_lists.ensures.committed } in
    let classes = g.C.Classes.classes in
    let is = c.in_ok-taken.ensures ∙ ap (λ (t : Classes). turn t c.self.inside.parts c.args.line) c.requires in
    line_done laws classes c.self.inside.parts c.take.new.self c.in_ok-taken.taken c.args.line p (subst (λ (w : Parts). Holds classes w p) (sym c.self.view_is) held) is
