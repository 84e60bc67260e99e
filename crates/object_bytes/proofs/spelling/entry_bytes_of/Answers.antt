use Rattle.std.proofs.Common.{◌≡◌, ℕ, List, ◌≤◌, ◌++◌, ◌∙◌, Some, None, ap, sym, arith, length}
use Rattle.std.specs.FinMap as fin
use Rattle.std.specs.List.{flat_map}
use Rattle.std.specs.Prelude.{slice_get}
use Rattle.std.proofs.lemmas.List.{take_all}
use Rattle.shared_map.specs.Entries.{entry_behind}
use Rattle.object_bytes.specs.Part.{names}
use Rattle.object_bytes.specs.Flat.{entry_bytes}
use Rattle.object_bytes.proofs.Lines.{lines_more, lines_over}
use Rattle.object_bytes.proofs.spelling.entry_bytes_of.Goals.{in-Some+in_ok-put_entry, in_default}
use Rattle.object_bytes.proofs.spelling.entry_bytes_of.Goals as goal

pub loop-n-preserved : goal.loop-n-preserved
loop-n-preserved c =
    let entries = fin.entries (names c.args.part c.args.object.now) in
    elim c.match-entry_of.branch [
      | in-Some+in_ok-put_entry w ↦
          let entry : List ℕ × List ℕ = (w.in-Some.name.now, w.in-Some.value.now) in
          let at : slice_get entries c.loop-n.n ≡ Some entry = sym c.entry_of.ensures.entry ∙ ap entry_behind w.in-Some.is in
          ap (λ out. out.items) w.out-is ∙ w.in_ok-put_entry.ensures ∙ ap (λ items. items ++ entry_bytes entry) c.loop-n.invariant ∙ sym (lines_more entry_bytes entries c.loop-n.n entry at)
      | in_default w ↦
          let at : slice_get entries c.loop-n.n ≡ None = sym c.entry_of.ensures.entry ∙ ap entry_behind w.in_default.is in
          ap (λ out. out.items) w.out-is ∙ c.loop-n.invariant ∙ sym (lines_over entry_bytes entries c.loop-n.n at)
    ]

pub returns : goal.returns
returns c =
    let entries = fin.entries (names c.args.part c.args.object.now) in
    let past : length entries ≤ c.loop-n.n = omega (arith, c.loop-n-test.false, c.count_of-n-end.ensures.value, fin.len-entries (names c.args.part c.args.object.now)) in
    c.loop-n.invariant ∙ ap (flat_map entry_bytes) (take_all c.loop-n.n entries past)
