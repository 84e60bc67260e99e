use Rattle.std.proofs.Common.{◌≡◌, ℕ, map, drop}
use Rattle.part_bytes.specs.Part.{AreInTurn, IsBlock, after_block}
use Rattle.part_bytes.specs.View.{block_view}
use Rattle.part_data.specs.Known.{known}
use Rattle.parts.specs.inner.Part.{first_of, byte_of, known_of}
use Rattle.parts.proofs.of_part.data_of.Given as goal

-- with the blocks that are left, what is known is what all blocks say
abbrev pub invariant-loop-block : goal.invariant-loop-block
invariant-loop-block l = record {
  size : l.data.size ≡ l.size;
  turn : (least : ℕ) × AreInTurn (IsBlock l.size) after_block least (map block_view (drop l.block-index l.blocks));
  each : (p : ℕ) → first_of (byte_of (map block_view (drop l.block-index l.blocks)) p) (known l.data p) ≡ known_of l.size (map block_view l.blocks) p;
}
