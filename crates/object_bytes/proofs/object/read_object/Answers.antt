use Rattle.std.proofs.Common.{◌≡◌, Err, Result, inl, inr, subst}
use Rattle.object_store.specs.Object.{IsObject}
use Rattle.std.proofs.lemmas.Result.{err_from_is_err_and}
use Rattle.object_bytes.specs.declared.flat.FlatError.{FlatError}
use Rattle.object_bytes.specs.declared.flat.FlatError.TheVariants.{Malformed, NoMemory}
use Rattle.object_bytes.proofs.Again.{never_refused}
use Rattle.object_bytes.proofs.Exact.{object_exact}
use Rattle.object_bytes.proofs.object.read_object.Goals as goal

not_memory : {X : Type 0} (r : Result X FlatError) (e f : FlatError) → r ≡ Err e → e ≡ f → f ≡ NoMemory → r ≡ Err Malformed → ⊥
not_memory r e f a b c d = cc

pub returns-in_err-object-clause-malformed : goal.returns-in_err-object-clause-malformed
returns-in_err-object-clause-malformed c = λ is object s.
    let p = err_from_is_err_and c.from_residual.result c.from_residual.ensures.1 in
    elim c.in_err-object.ensures [
      | inl none ↦ not_memory c.from_residual.result p.0 c.in_err-object.field-0.0 p.1 p.2 none is
      | inr read ↦ never_refused c.args.bytes.now c.in_err-object.field-0.0 object read s.within s.flat
    ]

pub returns-clause-found : goal.returns-clause-found
returns-clause-found c =
    let o = c.in_ok-object.object in
    record { within = subst IsObject c.as_ref.ensures.value c.is_object.ensures; flat = object_exact c.args.bytes.now o c.are_bytes.ensures c.in_ok-object.ensures }
