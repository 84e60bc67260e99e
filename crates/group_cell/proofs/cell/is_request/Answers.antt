use Rattle.std.proofs.Common.{ℕ, List, arith, subst}
use Rattle.object_store.specs.Object.{AreBytes}
use Rattle.group_cell.proofs.cell.is_request.Goals as goal

pub returns : goal.returns
returns c = record {
  client = omega (arith, c.client.ensures, c.get-client.ensures.value);
  bytes = subst (λ (l : List ℕ). AreBytes l) c.input.ensures c.are_bytes.ensures;
}
