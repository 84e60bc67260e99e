use Rattle.std.proofs.Common.{◌∙◌, ◌+◌, List, ap, map, drop, length, refl, arith}
use Rattle.std.proofs.lemmas.List.{length-map}
use Rattle.part_bytes.specs.Part.{Entry}
use Rattle.part_bytes.specs.View.{entry_view}
use Rattle.part_names.specs.Known.{PlainNames}
use Rattle.parts.specs.inner.Part.{value_of}
use Rattle.parts.proofs.Walk.{next_of}
use Rattle.parts.proofs.Entries.{begin, next_rises, next_room, next_all, next_held, no_room, none_there}
use Rattle.parts.proofs.of_part.learn_entries.Goals as goal

pub loop-entry-init : goal.loop-entry-init
loop-entry-init c = record {
  most = refl;
  intervals = refl;
  rises = begin (map entry_view c.args.entries.now) c.args.names.now.entries c.requires.none c.requires.entries;
  held = c.requires.held;
  room = no_room c.args.names.now.entries (length (map entry_view c.args.entries.now)) c.args.names.now.most c.requires.none (let h = c.requires.room in let same = length-map c.args.entries.now entry_view in omega (arith, h, same));
  all = λ q. none_there c.args.names.now.entries c.requires.none (value_of (map entry_view c.args.entries.now) q) q;
}

pub loop-entry-preserved : goal.loop-entry-preserved
loop-entry-preserved c =
    let i = c.loop-entry.entry-index in
    let old = c.loop-entry.names in
    let new = c.learn_entry.new.self in
    let left : List Entry = map entry_view (drop i c.args.entries.now) in
    let rest : List Entry = map entry_view (drop (i + 1) c.args.entries.now) in
    let cut = next_of entry_view c.args.entries.now i _ c.loop-entry-test.true in
    let is = c.in_ok-learn_entry.ensures.ok in
    let inv = c.loop-entry.invariant in
    record {
      most = ap (λ (n : PlainNames). n.most) is ∙ inv.most;
      intervals = ap (λ (n : PlainNames). n.intervals) is ∙ inv.intervals;
      rises = next_rises old new _ left rest cut is inv.rises;
      held = next_held old new _ left rest cut is inv.rises inv.held;
      room = next_room old new _ left rest cut is inv.rises inv.room;
      all = λ q. next_all old new _ left rest cut is inv.rises q (value_of (map entry_view c.args.entries.now) q) (inv.all q);
    }
