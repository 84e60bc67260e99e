use Rattle.std.proofs.Common.{◌≡◌, ℕ, List, ◌≤◌, ◌++◌, ◌∙◌, Some, None, ap, sym, arith, length, string_bytes}
use Rattle.std.specs.FinMap as fin
use Rattle.std.specs.List.{flat_map}
use Rattle.std.specs.Prelude.{slice_get}
use Rattle.std.proofs.lemmas.List.{take_all}
use Rattle.shared_map.specs.Entries.{entry_behind}
use Rattle.object_texts.specs.Shown.{entry_line}
use Rattle.object_texts.proofs.Lines.{lines_more, lines_over}
use Rattle.object_texts.proofs.large_saved.entry_lines.Goals.{in-Some+in_ok-push_entry, in_default}
use Rattle.object_texts.proofs.large_saved.entry_lines.Goals as goal

pub loop-n-preserved : goal.loop-n-preserved
loop-n-preserved c =
    let entries = fin.entries c.args.names.now in
    let line = entry_line c.args.word.now in
    elim c.match-nth.branch [
      | in-Some+in_ok-push_entry w ↦
          let entry : List ℕ × List ℕ = (w.in-Some.name.now, w.in-Some.value.now) in
          let at : slice_get entries c.loop-n.n ≡ Some entry = sym c.nth.ensures ∙ ap entry_behind w.in-Some.is in
          ap string_bytes w.text-is ∙ w.in_ok-push_entry.ensures ∙ ap (λ v. string_bytes c.loop-n.text ++ line (w.in-Some.name.now, v)) w.bytes.ensures
          ∙ ap (λ text. text ++ line entry) c.loop-n.invariant ∙ sym (lines_more line entries c.loop-n.n entry at)
      | in_default w ↦
          let at : slice_get entries c.loop-n.n ≡ None = sym c.nth.ensures ∙ ap entry_behind w.in_default.is in
          ap string_bytes w.text-is ∙ c.loop-n.invariant ∙ sym (lines_over line entries c.loop-n.n at)
    ]

pub returns : goal.returns
returns c =
    let entries = fin.entries c.args.names.now in
    let past : length entries ≤ c.loop-n.n = omega (arith, c.loop-n-test.false, c.len-n-end.ensures, fin.len-entries c.args.names.now) in
    c.loop-n.invariant ∙ ap (flat_map (entry_line c.args.word.now)) (take_all c.loop-n.n entries past)
