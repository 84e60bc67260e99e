-- Which part a value of the code stands for.
use Rattle.std.specs.Prelude.{map, Option, Some, None}
use Rattle.part_bytes.specs.declared.blocks.Block.{Block}
use Rattle.part_bytes.specs.declared.names.Interval.{Interval}
use Rattle.part_bytes.specs.declared.names.NamedValue.{NamedValue}
use Rattle.part_bytes.specs.declared.names.Names.{Names}
use Rattle.part_bytes.specs.declared.part.ObjectPart.{ObjectPart}
use Rattle.part_bytes.specs.Part as plain

-- a block
abbrev pub block_view : Block → plain.Block
block_view b = (b.number, b.bytes.now)

-- an interval
abbrev pub interval_view : Interval → plain.Interval
interval_view i = (i.low.now, i.high.now)

-- an entry
abbrev pub entry_view : NamedValue → plain.Entry
entry_view e = (e.name.now, e.value.now)

-- intervals and entries
abbrev pub names_view : Names → plain.Names
names_view n = record { intervals = map interval_view n.intervals.items; entries = map entry_view n.entries.items }

-- what is known of an object that is there
abbrev pub content_view : ObjectPart → plain.Content
content_view p = record {
  size = p.size;
  blocks = map block_view p.blocks.items;
  xattrs = names_view p.xattrs;
  keys = names_view p.keys;
}

-- a part
abbrev pub part_view : Option ObjectPart → plain.PlainPart
part_view None = None
part_view (Some p) = Some (content_view p)
