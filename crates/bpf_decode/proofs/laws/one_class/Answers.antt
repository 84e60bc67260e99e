use Rattle.std.proofs.Common.{sym, ◌∙◌}
use Rattle.bpf_decode.proofs.CodeLaws.{code_is, ok_code}
use Rattle.bpf_decode.proofs.ImageLaws.{image_is, ok_image}
use Rattle.bpf_decode.proofs.laws.one_class.Goals as goal

pub returns-clause-code : goal.returns-clause-code
returns-clause-code c = λ bytes is js a b. ok_code is js (sym (code_is bytes is a) ∙ code_is bytes js b)

pub returns-clause-image : goal.returns-clause-image
returns-clause-image c = λ bytes ms ns a b. ok_image ms ns (sym (image_is bytes ms a) ∙ image_is bytes ns b)
