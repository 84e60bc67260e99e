-- The methods whose raw code files hold, one after the other.
use Rattle.std.proofs.Common.{◌≡◌, ◌∙◌, ◌<◌, ◌+◌, ℕ, suc, List, [], ◌∷◌, ◌++◌, Option, Result, Ok, Err, ap, sym, subst, arith, length, take, drop, get_or}
use Rattle.std.specs.Prelude.{IfErr, IsErrAnd}
use Rattle.std.proofs.lemmas.List.{length-take-le, take-append-drop}
use Rattle.std.proofs.Math.Seq.{drop-cons, take-suc}
use Rattle.bpf_decode.specs.Class.{ClassMethod}
use Rattle.program_files.specs.Files.{Disk}
use Rattle.class_tool.specs.Packing.{AreMethodsIn, CodeFails, IsMethodIn, MethodsFail}
use Rattle.class_tool.specs.declared.action.RawMethod.{RawMethod}
use Rattle.program_files.specs.declared.failure.Failure.{Failure}

-- one more method
one_more : (disk : Option Disk) (raws : List RawMethod) (methods : List ClassMethod) (raw : RawMethod) (method : ClassMethod)
    → AreMethodsIn disk raws methods → IsMethodIn disk raw method → AreMethodsIn disk (raws ++ raw ∷ []) (methods ++ method ∷ [])
one_more disk [] [] raw method are is = (is, tt)
one_more disk [] (m ∷ ms) raw method are is = absurd are
one_more disk (r ∷ rs) [] raw method are is = absurd are
one_more disk (r ∷ rs) (m ∷ ms) raw method are is = (are.0, one_more disk rs ms raw method are.1 is)

-- the methods of the first files, and of the next
pub next_read : (disk : Option Disk) (raws : List RawMethod) (i : ℕ) (d : RawMethod) (methods : List ClassMethod) (method : ClassMethod) → i < length raws
    → AreMethodsIn disk (take i raws) methods → IsMethodIn disk (get_or raws i d) method → AreMethodsIn disk (take (i + 1) raws) (methods ++ method ∷ [])
next_read disk raws i d methods method within are is =
    let one : i + 1 ≡ suc i = omega arith in
    let longer : take (i + 1) raws ≡ take i raws ++ get_or raws i d ∷ [] = ap (λ n. take n raws) one ∙ take-suc raws i d within in
    subst (λ (rs : List RawMethod). AreMethodsIn disk rs (methods ++ method ∷ [])) (sym longer) (one_more disk (take i raws) methods (get_or raws i d) method are is)

-- the methods of the first files, and why the next file has none
pub next_fails : (disk : Option Disk) (raws : List RawMethod) (i : ℕ) (d : RawMethod) (methods : List ClassMethod) (done : ℕ) (failure : Failure) → i < length raws
    → AreMethodsIn disk (take i raws) methods → done ≡ i → CodeFails disk (get_or raws i d).code.now done failure → MethodsFail disk raws failure
next_fails disk raws i d methods done failure within are counted fails =
    let short : length (take i raws) ≡ i = length-take-le i raws (omega (arith, within)) in
    record {
      first = take i raws;
      next = get_or raws i d;
      rest = drop (suc i) raws;
      split = sym (take-append-drop i raws) ∙ ap (λ rs. take i raws ++ rs) (drop-cons raws i d within);
      methods = methods;
      read = are;
      why = subst (λ (n : ℕ). CodeFails disk (get_or raws i d).code.now n failure) (counted ∙ sym short) fails;
    }

-- what holds of an error holds of a result with that error
pub if_err : {A E : Type 0} (P : E → Type 0) (o : Result A E) (e : E) → IsErrAnd o (λ f. f ≡ e) → P e → IfErr o P
if_err P (Ok a) e is p = tt
if_err P (Err f) e is p = subst P (sym is) p
