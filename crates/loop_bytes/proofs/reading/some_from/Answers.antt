use Rattle.std.proofs.Common.{arith}
use Rattle.loop_bytes.proofs.Exact.{are_bytes}
use Rattle.loop_bytes.proofs.ExactLoops.{read_parts, not_refused}
use Rattle.loop_bytes.proofs.reading.some_from.Goals as goal

pub unreachable-requires : goal.unreachable-requires
unreachable-requires c =
    let are = are_bytes c.args.bytes.now (λ i. omega (arith, c.type_inv.bytes i)) in
    let r = read_parts c.args.starts.now c.args.count c.args.bytes.now c.in_ok-budget.budget c.in_ok-budget.rest.now c.in_ok-heads.heads.items c.in_ok-heads.rest.now are c.in_ok-budget.ensures c.in_ok-heads.ensures in
    let right = not_refused c.args.count c.in_ok-budget.budget c.in_ok-heads.heads.items c.requires.some c.requires.few r.count r.paid r.kept in
    let wrong = c.in-Err.ensures.refused in
    cc
