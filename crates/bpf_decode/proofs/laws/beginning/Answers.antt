use Rattle.bpf_decode.proofs.Longest.{length-image, IsImage-from_take, IsImage-take, image_of-take}
use Rattle.bpf_decode.proofs.laws.beginning.Goals as goal

pub returns-clause-longest : goal.returns-clause-longest
returns-clause-longest c = λ bytes ms i. length-image bytes ms i

pub returns-clause-image : goal.returns-clause-image
returns-clause-image c = λ bytes ms. (IsImage-from_take bytes ms, IsImage-take bytes ms)

pub returns-clause-read : goal.returns-clause-read
returns-clause-read c = λ bytes. image_of-take bytes
