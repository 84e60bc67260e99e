use Rattle.std.proofs.Common.{arith}
use Rattle.bpf_decode.proofs.ImageLaws.{image_takes}
use Rattle.bpf_decode.proofs.image.class.Goals as goal

pub of-requires-clause-class : goal.of-requires-clause-class
of-requires-clause-class c = (image_takes c.args.bytes.now (record { rules = c.in-Ok.rules; methods = c.in-Ok.methods.items }) (λ i. omega (arith, c.type_inv.bytes i)) c.in-Ok.ensures.read).class

pub of-requires-clause-within : goal.of-requires-clause-within
of-requires-clause-within c = (image_takes c.args.bytes.now (record { rules = c.in-Ok.rules; methods = c.in-Ok.methods.items }) (λ i. omega (arith, c.type_inv.bytes i)) c.in-Ok.ensures.read).within
