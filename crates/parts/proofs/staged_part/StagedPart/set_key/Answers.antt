use Rattle.std.proofs.Common.{◌++◌, [], ◌∷◌, refl, ap, sym, subst, ◌∙◌, arith}
use Rattle.std.specs.Prelude.{IsTrue}
use Rattle.object_store.specs.Object.{PlainObject, content_of}
use Rattle.txn.specs.Edits.{SetKey, created, noted}
use Rattle.txn.specs.Staging.{kept}
use Rattle.helpers.specs.Effect.{Effect}
use Rattle.part_names.specs.Known.{PlainNames}
use Rattle.part_names.specs.Order.{is_held}
use Rattle.parts.specs.Known.{KnownObject, Stands}
use Rattle.parts.proofs.Standing.{own_entries, Passes, passes, third, name_of, name_short, value_short, creation_is}
use Rattle.parts.proofs.staged_part.StagedPart.set_key.Goals as goal

pub note_edits-requires : goal.note_edits-requires
note_edits-requires c =
    let p = passes c.args.limits.now.keys c.self.inside.keys.entries c.args.key.now c.args.value.now (sym c.in_default.is ∙ c.set_errno.ensures.is c.self.inside.keys.entries (own_entries c.self.inside.keys)) in
    let short = name_short c.args.limits.now.keys.length c.args.key.now c.requires.limits.key_names p.named in
    let fits = value_short c.args.value.now p.short in (omega (arith, short), omega (arith, fits))

pub set-requires-clause-name : goal.set-requires-clause-name
set-requires-clause-name c =
    let p = passes c.args.limits.now.keys c.self.inside.keys.entries c.args.key.now c.args.value.now (sym c.in_default.is ∙ c.set_errno.ensures.is c.self.inside.keys.entries (own_entries c.self.inside.keys)) in
    name_of c.args.limits.now.keys.length c.args.key.now c.requires.limits.key_names p.named

pub set-requires-clause-value : goal.set-requires-clause-value
set-requires-clause-value c =
    let p = passes c.args.limits.now.keys c.self.inside.keys.entries c.args.key.now c.args.value.now (sym c.in_default.is ∙ c.set_errno.ensures.is c.self.inside.keys.entries (own_entries c.self.inside.keys)) in
    value_short c.args.value.now p.short

pub returns-clause-done : goal.returns-clause-done
returns-clause-done c =
    let g : (o : PlainObject) → Stands c.args.self.now o → Stands _ o = λ o h. subst (λ (k : KnownObject). Stands k o) (sym c.self.view_is) h in
    let p : (o : PlainObject) → Stands c.args.self.now o → Passes c.args.limits.now.keys (content_of o).omap c.args.key.now c.args.value.now =
    λ o h. passes c.args.limits.now.keys (content_of o).omap c.args.key.now c.args.value.now (sym c.in_default.is ∙ c.set_errno.ensures.is (content_of o).omap (g o h).keys) in
    record {
      number = λ o h. ap (λ (e : Effect). e.answer) (sym (third _ _ _ _ _ _ _ (p o h).named (p o h).short (p o h).room));
      object = λ o h. subst (Stands _) (ap (λ (e : Effect). e.object) (sym (third _ _ _ _ _ _ _ (p o h).named (p o h).short (p o h).room))) (record {
        presence = refl;
        bytes = (g o h).bytes;
        xattrs = (g o h).xattrs;
        keys = c.in_ok-set.ensures.agree (content_of o).omap (g o h).keys;
      });
      list = λ o h. c.in_ok-note_edits.ensures.ok ∙ ap (λ es. noted (es ++ SetKey c.args.key.now c.args.value.now ∷ []) (kept c.self.inside.list)) (creation_is o c.self.inside.is_there (g o h).presence)
          ∙ ap (λ (k : KnownObject). noted (created o ++ SetKey c.args.key.now c.args.value.now ∷ []) k.list) c.self.view_is;
      xattrs = λ all name. subst (λ (k : KnownObject). IsTrue (is_held k.xattrs.intervals name)) (sym c.self.view_is) (all name);
      keys = λ all name. subst (λ (n : PlainNames). IsTrue (is_held n.intervals name)) (sym c.in_ok-set.ensures.ok) (subst (λ (k : KnownObject). IsTrue (is_held k.keys.intervals name)) (sym c.self.view_is) (all name));
    }
