use Rattle.std.proofs.Common.{◌∙◌, List, ap, sym, subst, map}
use Rattle.std.specs.List.{AllByRecursion}
use Rattle.part_bytes.specs.declared.names.Interval as code
use Rattle.part_bytes.specs.declared.names.NamedValue as entry
use Rattle.part_bytes.specs.Part.{Entry, IsHeld}
use Rattle.part_bytes.specs.View.{interval_view, entry_view}
use Rattle.part_names.specs.Known.{PlainNames}
use Rattle.parts.specs.inner.Part.{interval_of}
use Rattle.parts.proofs.Entries.{held_all}
use Rattle.parts.proofs.of_part.names_of.Goals as goal

pub learn_entries-requires-clause-held : goal.learn_entries-requires-clause-held
learn_entries-requires-clause-held c =
    let is = ap (λ (n : PlainNames). n.intervals) c.in_ok-learn_intervals.ensures ∙ ap (λ (v : List code.Interval). map interval_of (map interval_view v)) c.deref.ensures.value in
    held_all (map interval_view c.args.part.now.intervals.items) c.learn_intervals.new.names (map entry_view c.deref-2.result.now) is
    (subst (λ (v : List entry.NamedValue). AllByRecursion (λ (e : Entry). IsHeld (map interval_view c.args.part.now.intervals.items) e.0) (map entry_view v)) (sym c.deref-2.ensures.value) c.requires.held)
