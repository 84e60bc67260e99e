use Rattle.std.proofs.Common.{rules}
use Rattle.peering.proofs.node.GroupNode.request.Goals as goal

-- turned by every_request_refused
pub returns-in-Active-clause-why : goal.returns-in-Active-clause-why
returns-in-Active-clause-why g c = search rules
