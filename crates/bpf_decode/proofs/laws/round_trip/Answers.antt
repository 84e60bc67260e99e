use Rattle.std.proofs.Common.{sym, ◌∙◌}
use Rattle.bpf_decode.proofs.CodeLaws.{code_is, code_takes}
use Rattle.bpf_decode.proofs.ImageLaws.{image_is, image_takes}
use Rattle.bpf_decode.proofs.laws.round_trip.Goals as goal

pub returns-clause-written : goal.returns-clause-written
returns-clause-written c = λ bytes ms p. image_is bytes ms p

pub returns-clause-read : goal.returns-clause-read
returns-clause-read c = λ bytes written ms fits e p. p.spelled ∙ sym (image_takes bytes ms fits e).spelled

pub returns-clause-written_code : goal.returns-clause-written_code
returns-clause-written_code c = λ bytes is p. code_is bytes is p

pub returns-clause-read_code : goal.returns-clause-read_code
returns-clause-read_code c = λ bytes written is fits e p. p.spelled ∙ sym (code_takes bytes is fits e).spelled
