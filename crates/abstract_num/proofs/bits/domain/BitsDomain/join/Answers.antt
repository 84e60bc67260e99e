use Rattle.abstract_num.specs.proved.KnownBits.{bits_same}
use Rattle.abstract_num.proofs.bits.domain.BitsDomain.join.Goals as goal

pub returns : goal.returns
returns c = bits_same _ _ c.known.ensures.0 c.known.ensures.1
