use Rattle.std.proofs.Common.{◌≡◌, ◌∙◌, ◌≤◌, ◌++◌, ◌∷◌, [], List, Some, None, map, ap, sym, arith, length}
use Rattle.std.specs.Prelude.{slice_get}
use Rattle.std.specs.FinMap as fin
use Rattle.std.proofs.lemmas.List.{take_all}
use Rattle.shared_map.specs.Entries.{entry_behind}
use Rattle.part_bytes.specs.declared.names.Interval.{Interval}
use Rattle.part_bytes.specs.View.{entry_view, interval_view}
use Rattle.loop_objects.specs.inner.Whole.{names}
use Rattle.loop_objects.proofs.Entire.{name_next, take_past}
use Rattle.loop_objects.proofs.whole.names_of.Goals.{in-Some+in_ok-push, in_default}
use Rattle.loop_objects.proofs.whole.names_of.Goals as goal

one_interval : (xs ys : List Interval) (i : Interval) → xs ≡ [] → ys ≡ xs ++ i ∷ [] → map interval_view ys ≡ interval_view i ∷ []
one_interval xs ys i none e = ap (map interval_view) (e ∙ ap (λ (l : List Interval). l ++ i ∷ []) none)

pub loop-n-preserved : goal.loop-n-preserved
loop-n-preserved c =
    let entries = fin.entries (names c.args.named c.args.object.now) in
    elim c.match-entry_of.branch [
      | in-Some+in_ok-push w ↦
          let at : slice_get entries c.loop-n.n ≡ Some (w.in-Some.name.now, w.in-Some.value.now) = sym c.entry_of.ensures ∙ ap entry_behind w.in-Some.is in
          ap (λ v. map entry_view v.items) w.entries-is
          ∙ ap (map entry_view) w.in_ok-push.ensures.items
          ∙ name_next c.loop-n.entries.items (record { name = w.in-Some.name; value = w.in-Some.value }) entries c.loop-n.n c.loop-n.invariant at
      | in_default w ↦
          let at : slice_get entries c.loop-n.n ≡ None = sym c.entry_of.ensures ∙ ap entry_behind w.in_default.is in
          ap (λ v. map entry_view v.items) w.entries-is ∙ c.loop-n.invariant ∙ sym (take_past entries c.loop-n.n at)
    ]

pub returns : goal.returns
returns c =
    let m = names c.args.named c.args.object.now in
    let past : length (fin.entries m) ≤ c.loop-n.n = omega (arith, c.loop-n-test.false, c.count_of-n-end.ensures, fin.len-entries m) in
    record {
      intervals = one_interval _ _ _ c.new-intervals.ensures.items c.in_ok-push-2.ensures.items;
      entries = c.loop-n.invariant ∙ take_all c.loop-n.n (fin.entries m) past;
    }
