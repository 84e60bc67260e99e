use Rattle.std.proofs.Common.{arith}
use Rattle.std.proofs.lemmas.Grind.{common_steps}
use Rattle.pg_log.specs.Entries.{requests_of}
use Rattle.peering.proofs.Lists.{not_begins, length_requests}
use Rattle.peering.proofs.node.lead.begins_with.Goals as goal

pub returns-then-list-entries : goal.returns-then-list-entries
returns-then-list-entries c =
    let l = length_requests c.args.entries.now in
    not_begins (requests_of c.args.entries.now) c.args.list.now (omega arith)

pub returns-then-not-is_same_request : goal.returns-then-not-is_same_request
returns-then-not-is_same_request c = grind (arith, common_steps)
