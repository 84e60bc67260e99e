use Rattle.std.proofs.Common.{◌≡◌, ℕ, List, ◌≤◌, ◌++◌, ◌∙◌, Some, None, ap, sym, arith, length, string_bytes}
use Rattle.std.specs.FinMap as fin
use Rattle.std.specs.List.{flat_map}
use Rattle.std.specs.Prelude.{slice_get}
use Rattle.std.proofs.lemmas.List.{take_all}
use Rattle.object_store.specs.Object.{Content}
use Rattle.shared_map.specs.Entries.{entry_behind}
use Rattle.object_texts.specs.Shown.{named_text}
use Rattle.object_texts.proofs.Lines.{lines_more, lines_over}
use Rattle.object_texts.proofs.shown.objects_text.Goals.{in-Some+in_ok-push_named, in_default}
use Rattle.object_texts.proofs.shown.objects_text.Goals as goal

pub loop-n-preserved : goal.loop-n-preserved
loop-n-preserved c =
    let entries = fin.entries c.args.objects.now in
    elim c.match-nth.branch [
      | in-Some+in_ok-push_named w ↦
          let entry : List ℕ × Content = (w.in-Some.name.now, w.in-Some.object.now) in
          let at : slice_get entries c.loop-n.n ≡ Some entry = sym c.nth.ensures ∙ ap entry_behind w.in-Some.is in
          ap string_bytes w.text-is ∙ w.in_ok-push_named.ensures ∙ ap (λ text. text ++ named_text entry) c.loop-n.invariant ∙ sym (lines_more named_text entries c.loop-n.n entry at)
      | in_default w ↦
          let at : slice_get entries c.loop-n.n ≡ None = sym c.nth.ensures ∙ ap entry_behind w.in_default.is in
          ap string_bytes w.text-is ∙ c.loop-n.invariant ∙ sym (lines_over named_text entries c.loop-n.n at)
    ]

pub returns : goal.returns
returns c =
    let entries = fin.entries c.args.objects.now in
    let past : length entries ≤ c.loop-n.n = omega (arith, c.loop-n-test.false, c.len-n-end.ensures, fin.len-entries c.args.objects.now) in
    c.loop-n.invariant ∙ ap (flat_map named_text) (take_all c.loop-n.n entries past)
