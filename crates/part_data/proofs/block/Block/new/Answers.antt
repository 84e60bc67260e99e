use Rattle.std.proofs.Common.{◌-◌, ◌++◌, length, take, replicate, ap, ◌∙◌}
use Rattle.std.proofs.lemmas.List.{take_all}
use Rattle.part_data.proofs.block.Block.new.Goals as goal

pub returns : goal.returns
returns c =
    let bytes = c.args.bytes.now in
    c.in_ok-resize.ensures.items
    ∙ ap (λ n. take 4096 c.in_ok-content.content.items ++ replicate (4096 - n) 0) c.in_ok-content.ensures.len
    ∙ ap (λ l. take 4096 l ++ replicate (4096 - length bytes) 0) c.in_ok-content.ensures.items
    ∙ ap (λ l. l ++ replicate (4096 - length bytes) 0) (take_all 4096 bytes c.requires)
