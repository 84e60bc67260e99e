use Rattle.std.proofs.Common.{ℕ, suc, ◌<◌, List, [], ◌∷◌, get_or, arith}
use Rattle.object_store.specs.Object.{AreBytes}
use Rattle.group_cell.proofs.cell.are_bytes.Goals as goal

each_below : (xs : List ℕ) → ((i : ℕ) → get_or xs i 0 < 256) → AreBytes xs
each_below [] h = tt
each_below (x ∷ xs) h = (h 0, each_below xs (λ i. h (suc i)))

pub returns : goal.returns
returns c = each_below c.args.bytes.now (λ i. omega (arith, c.type_inv.bytes i))
