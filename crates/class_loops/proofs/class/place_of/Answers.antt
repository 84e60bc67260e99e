use Rattle.std.proofs.Common.{◌≡◌, ◌∙◌, List, Some, true, ap, sym, subst}
use Rattle.std.specs.Prelude.{slice_get}
use Rattle.std.specs.Str.{bytes_eq}
use Rattle.bpf_decode.specs.Class.{ClassMethod}
use Rattle.class_loops.proofs.Place.{first_named, stands_at}
use Rattle.class_loops.proofs.class.place_of.Goals as goal

pub returns-then-eq-clause-found : goal.returns-then-eq-clause-found
returns-then-eq-clause-found c =
    let m = c.method-item.result in
    let ms = c.methods-method-items.result.now in
    let name = c.args.name.now in
    let named : bytes_eq m.name name ≡ true = ap (λ x. bytes_eq x name) (sym c.name.ensures ∙ sym c.as_bytes.ensures.value) ∙ sym c.eq.ensures ∙ c.if-eq.true in
    record {
      method = m;
      named = sym c.loop-n.invariant ∙ first_named ms name c.loop-n.n m c.loop-n-test.true c.method-item.is named;
      at = subst (λ (xs : List ClassMethod). slice_get xs c.loop-n.n ≡ Some m) c.methods-method-items.ensures.methods (stands_at ms c.loop-n.n m c.loop-n-test.true c.method-item.is);
    }
