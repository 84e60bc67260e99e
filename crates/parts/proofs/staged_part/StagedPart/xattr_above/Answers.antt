use Rattle.std.proofs.Common.{ap, ◌∙◌, sym, subst}
use Rattle.object_store.specs.Object.{PlainObject, content_of}
use Rattle.parts.specs.Known.{KnownObject, Stands}
use Rattle.parts.proofs.Standing.{above_is}
use Rattle.parts.proofs.staged_part.StagedPart.xattr_above.Goals as goal

pub returns-in-Ok-clause-found : goal.returns-in-Ok-clause-found
returns-in-Ok-clause-found c =
    let most = c.args.limits.now.xattrs.length in
    let there = c.self.inside.is_there in
    record {
      number = λ (o : PlainObject) (h : Stands c.args.self.now o).
          let g = subst (λ (k : KnownObject). Stands k o) (sym c.self.view_is) h in
          (c.in-Ok.ensures.found (content_of o).xattrs g.xattrs).number ∙ ap (λ a. a.number) (above_is (λ o. o.xattrs) most there o c.args.name.now c.args.room g.presence);
      bytes = λ (o : PlainObject) (h : Stands c.args.self.now o).
          let g = subst (λ (k : KnownObject). Stands k o) (sym c.self.view_is) h in
          (c.in-Ok.ensures.found (content_of o).xattrs g.xattrs).bytes ∙ ap (λ a. a.bytes) (above_is (λ o. o.xattrs) most there o c.args.name.now c.args.room g.presence);
    }
