use Rattle.std.proofs.Common.{◌∙◌, ◌+◌, List, ap, sym, subst, map, drop}
use Rattle.part_bytes.specs.Part.{Block, AreInTurn, IsBlock, after_block}
use Rattle.part_bytes.specs.View.{block_view}
use Rattle.part_data.specs.Known.{known}
use Rattle.parts.specs.inner.Part.{first_of, byte_of}
use Rattle.parts.proofs.Walk.{next_of}
use Rattle.parts.proofs.Blocks.{learned_one}
use Rattle.parts.proofs.of_part.data_of.Goals as goal

pub loop-block-preserved : goal.loop-block-preserved
loop-block-preserved c =
    let i = c.loop-block.block-index in
    let rest : List Block = map block_view (drop (i + 1) c.args.blocks.now) in
    let cut = next_of block_view c.args.blocks.now i _ c.loop-block-test.true in
    let was = c.loop-block.invariant.turn in
    let turn = subst (AreInTurn (IsBlock c.args.size) after_block was.0) cut was.1 in
    record {
      size = c.learn.ensures.size ∙ c.loop-block.invariant.size;
      turn = (_, turn.1);
      each = λ p.
          learned_one _ rest (known c.loop-block.data) (known c.learn.new.self) p c.in_ok-learn.ensures.known
          ∙ ap (λ (bs : List Block). first_of (byte_of bs p) (known c.loop-block.data p)) (sym cut)
          ∙ c.loop-block.invariant.each p;
    }
