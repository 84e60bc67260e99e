use Rattle.peering_messages.proofs.Lists.{same_request}
use Rattle.peering_messages.proofs.compare.is_same_request.Goals as goal

pub returns : goal.returns
returns c = same_request c.is.result c.args.request.now c.args.other.now c.is.ensures.0 c.is.ensures.1
