use Rattle.std.proofs.Common.{◌≡◌, ◌∙◌, sym, subst}
use Rattle.std.specs.Option.{option_copied}
use Rattle.object_store.specs.Object.{PlainObject}
use Rattle.part_bytes.proofs.Held.{is_empty}
use Rattle.edit_bytes.proofs.Spelled.{edit_shorter, is_some}
use Rattle.loop_objects.specs.inner.Making.{Makes}
use Rattle.loop_objects.proofs.Entire.{on_ok}
use Rattle.loop_objects.proofs.Spelled.{made_next, made_none, none_next, read_next}
use Rattle.loop_objects.proofs.edits.make_all.Goals as goal

pub unreachable-requires : goal.unreachable-requires
unreachable-requires c =
    let m = c.loop-rest.invariant.some in
    none_next _ _ m.0 (is_some _ c.loop-rest-test.ensures) m.1 c.in_default.ensures

pub staged_by-requires : goal.staged_by-requires
staged_by-requires c =
    let m = c.loop-rest.invariant.some in
    let n = read_next _ _ m.0 (is_some _ c.loop-rest-test.ensures) m.1 _ _ c.in-Some.ensures in
    (n.0, n.1)

pub loop-rest-smaller : goal.loop-rest-smaller
loop-rest-smaller c = edit_shorter _ _ _ c.in-Some.ensures

pub loop-rest-preserved : goal.loop-rest-preserved
loop-rest-preserved c =
    let i = c.loop-rest.invariant in
    let some = is_some _ c.loop-rest-test.ensures in
    let goes = λ (o : PlainObject) (m : Makes c.loop-rest.rest.now c.loop-rest.staged.after o). made_next _ _ o some m _ _ c.in-Some.ensures _ c.in-Ok.ensures.made in
    record {
      before = c.staged_by.ensures.before ∙ i.before;
      some = (i.some.0, goes i.some.0 i.some.1);
      each = λ o m. goes o (i.each o m);
    }

pub returns-clause-after : goal.returns-clause-after
returns-clause-after c =
    let i = c.loop-rest.invariant in
    on_ok c.finish.result (λ v. v.after ≡ c.loop-rest.staged.after) (λ v. (o : PlainObject) → Makes c.args.edits.now (option_copied c.args.object) o → v.after ≡ o)
    (λ v e o m.
    let begun = subst (λ (b : PlainObject). Makes c.args.edits.now b o) (sym c.over-staged.ensures.after) m in
    e ∙ made_none _ _ o (is_empty _ (sym c.loop-rest-test.ensures)) (i.each o begun)) c.finish.ensures.after
