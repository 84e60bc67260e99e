use Rattle.std.proofs.Common.{◌≡◌, ℕ, List, ◌≤◌, ◌++◌, ◌∙◌, Some, None, ap, sym, arith, codes, length, string_bytes}
use Rattle.std.specs.FinMap as fin
use Rattle.std.specs.List.{flat_map}
use Rattle.std.specs.Prelude.{slice_get}
use Rattle.std.proofs.lemmas.List.{take_all}
use Rattle.shared_map.specs.Entries.{entry_behind}
use Rattle.object_texts.specs.Shown.{entry_line}
use Rattle.object_texts.proofs.Lines.{lines_more, lines_over}
use Rattle.object_texts.proofs.shown.key_lines.Goals.{in-Some+in_ok-push_entry, in_default}
use Rattle.object_texts.proofs.shown.key_lines.Goals as goal

pub loop-n-preserved : goal.loop-n-preserved
loop-n-preserved c =
    let entries = fin.entries c.args.object.now.omap in
    let line = entry_line (codes "key ") in
    elim c.match-key_at.branch [
      | in-Some+in_ok-push_entry w ↦
          let entry : List ℕ × List ℕ = (w.in-Some.name.now, w.in-Some.value.now) in
          let at : slice_get entries c.loop-n.n ≡ Some entry = sym c.key_at.ensures ∙ ap entry_behind w.in-Some.is in
          ap string_bytes w.text-is ∙ w.in_ok-push_entry.ensures ∙ ap (λ text. text ++ line entry) c.loop-n.invariant ∙ sym (lines_more line entries c.loop-n.n entry at)
      | in_default w ↦
          let at : slice_get entries c.loop-n.n ≡ None = sym c.key_at.ensures ∙ ap entry_behind w.in_default.is in
          ap string_bytes w.text-is ∙ c.loop-n.invariant ∙ sym (lines_over line entries c.loop-n.n at)
    ]

pub returns : goal.returns
returns c =
    let entries = fin.entries c.args.object.now.omap in
    let past : length entries ≤ c.loop-n.n = omega (arith, c.loop-n-test.false, c.key_count-n-end.ensures.value, fin.len-entries c.args.object.now.omap) in
    c.loop-n.invariant ∙ ap (flat_map (entry_line (codes "key "))) (take_all c.loop-n.n entries past)
