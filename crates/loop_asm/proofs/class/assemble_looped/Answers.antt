use Rattle.loop_asm.specs.declared.class.LoopedText.{LoopedText}
use Rattle.loop_asm.proofs.ClassStarts.{heads_if_read, each_if_read}
use Rattle.loop_asm.proofs.class.assemble_looped.Goals as goal

pub returns-clause-heads : goal.returns-clause-heads
returns-clause-heads c =
    heads_if_read (λ (r : LoopedText). r.class) (λ (r : LoopedText). r.loops.items) c.read_looped_text.result c.args.text.now c.read_looped_text.ensures

pub returns-clause-each : goal.returns-clause-each
returns-clause-each c =
    each_if_read (λ (r : LoopedText). r.class) (λ (r : LoopedText). r.loops.items) c.read_looped_text.result c.args.text.now c.read_looped_text.ensures
