use Rattle.std.proofs.Common.{◌+◌, arith}
use Rattle.std.proofs.lemmas.Grind.{common_steps}
use Rattle.file_words.proofs.Listed.{numbers_more, numbers_none}
use Rattle.file_words.proofs.nodes.nodes_in.Goals as goal

pub returns-in-None : goal.returns-in-None
returns-in-None c =
    numbers_none c.args.words.now c.loop-word.word-index _ c.loop-word.nodes.items c.number_in.result _ c.loop-word-test.true c.number_in.ensures c.in-None.is c.loop-word.invariant

pub loop-word-preserved : goal.loop-word-preserved
loop-word-preserved c =
    numbers_more c.args.words.now c.loop-word.word-index (c.loop-word.word-index + 1) _ c.loop-word.nodes.items c.push.new.self.items c.in-Some.number c.new.result c.number_in.result _
    c.loop-word-test.true (omega arith) c.number_in.ensures c.in-Some.is c.new.ensures c.in_ok-push-in-Some.ensures.items c.loop-word.invariant

pub returns : goal.returns
returns c = grind (arith, common_steps)
