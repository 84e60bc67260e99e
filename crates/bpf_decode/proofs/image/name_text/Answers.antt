use Rattle.std.proofs.lemmas.Result.{IfOk-weaker}
use Rattle.bpf_decode.proofs.ImageFields.{names_text}
use Rattle.bpf_decode.proofs.image.name_text.Goals as goal

pub returns : goal.returns
returns c = IfOk-weaker c.from_utf8_lossy.result _ _ (λ t same. same (names_text c.args.name.now c.requires)) c.from_utf8_lossy.ensures.ok
