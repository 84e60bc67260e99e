use Rattle.std.proofs.Common.{arith}
use Rattle.std.proofs.lemmas.Grind.{common_steps}
use Rattle.file_words.proofs.Gathered.{words_more}
use Rattle.file_words.proofs.text.words.Goals as goal

pub loop-piece-preserved : goal.loop-piece-preserved
loop-piece-preserved c =
    words_more _ c.loop-piece.piece-index _ _ _ _ c.loop-piece-test.true c.in_ok-push_words_in.ensures c.loop-piece.invariant

pub returns : goal.returns
returns c = grind (arith, common_steps)
