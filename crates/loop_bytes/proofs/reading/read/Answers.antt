use Rattle.std.proofs.Common.{arith}
use Rattle.loop_bytes.proofs.Exact.{are_bytes}
use Rattle.loop_bytes.proofs.ExactLoops.{rest_fits, rest_is, begins_with}
use Rattle.loop_bytes.proofs.reading.read.Goals as goal

pub returns-clause-exact : goal.returns-clause-exact
returns-clause-exact c =
    let are = are_bytes c.args.bytes.now (λ i. omega (arith, c.type_inv.bytes i)) in
    rest_is c.args.starts.now c.args.bytes.now c.in_ok-loops.loops c.in_ok-loops.rest.now are c.in_ok-loops.ensures

pub returns-clause-found : goal.returns-clause-found
returns-clause-found c =
    let are = are_bytes c.args.bytes.now (λ i. omega (arith, c.type_inv.bytes i)) in
    begins_with c.args.starts.now c.args.bytes.now c.in_ok-loops.loops c.in_ok-loops.rest.now are c.in_ok-loops.ensures

pub overflow_sub-length : goal.overflow_sub-length
overflow_sub-length c =
    let are = are_bytes c.args.bytes.now (λ i. omega (arith, c.type_inv.bytes i)) in
    rest_fits c.args.starts.now c.args.bytes.now c.in_ok-loops.loops c.in_ok-loops.rest.now are c.in_ok-loops.ensures
