use Rattle.std.proofs.Common.{ap, ◌∙◌, sym}
use Rattle.bpf_decode.specs.ImageReading.{methods_of}
use Rattle.bpf_decode.proofs.ClassLoop.{refused_is_none}
use Rattle.bpf_decode.proofs.class_image.ClassImage.new.Goals as goal

pub returns-in-Err-clause-accepts : goal.returns-in-Err-clause-accepts
returns-in-Err-clause-accepts c = (λ never. absurd cc, λ both. absurd (refused_is_none c.args.rules c.args.methods.items c.in-Err.error (ap (methods_of c.args.rules) (sym c.deref.ensures.value) ∙ c.in-Err.ensures.read) both.0 both.1))
