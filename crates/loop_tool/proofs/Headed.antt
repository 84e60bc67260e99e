-- Methods with heads, one after the other, and why one gets none.
use Rattle.std.proofs.Common.{◌≡◌, ◌∙◌, ◌<◌, ◌+◌, ℕ, suc, List, [], ◌∷◌, ◌++◌, Result, Ok, Err, ap, sym, subst, arith, length, take, get_or}
use Rattle.std.specs.Prelude.{IfErr, IsErrAnd}
use Rattle.std.proofs.Math.Seq.{take-suc}
use Rattle.bpf_decode.specs.Class.{ClassMethod}
use Rattle.loop_tool.specs.Heads.{AreHeaded, IsHeaded, IsUnheaded}
use Rattle.loop_tool.specs.WriteHeadsError.{IsMemory, IsUnheadedOf}
use Rattle.loop_tool.specs.declared.write_heads_error.WriteHeadsError.{WriteHeadsError}
use Rattle.loop_tool.specs.declared.write_heads_error.WriteHeadsError.TheVariants as error

module _ (budget : ℕ) where
  -- one more method
  one_more : (ms ns : List ClassMethod) (m n : ClassMethod) → AreHeaded budget ms ns → IsHeaded budget m n → AreHeaded budget (ms ++ m ∷ []) (ns ++ n ∷ [])
  one_more [] [] m n are is = (is, tt)
  one_more [] (q ∷ qs) m n are is = absurd are
  one_more (p ∷ ps) [] m n are is = absurd are
  one_more (p ∷ ps) (q ∷ qs) m n are is = (are.0, one_more ps qs m n are.1 is)

  -- the first methods, and the next
  pub next_headed : (ms : List ClassMethod) (i : ℕ) (m : ClassMethod) (ns : List ClassMethod) (n : ClassMethod) → i < length ms → m ≡ get_or ms i m
      → AreHeaded budget (take i ms) ns → IsHeaded budget m n → AreHeaded budget (take (i + 1) ms) (ns ++ n ∷ [])
  next_headed ms i m ns n within at are is =
      let one : i + 1 ≡ suc i = omega arith in
      let longer : take (i + 1) ms ≡ take i ms ++ m ∷ [] = ap (λ k. take k ms) one ∙ take-suc ms i m within ∙ ap (λ o. take i ms ++ o ∷ []) (sym at) in
      subst (λ (os : List ClassMethod). AreHeaded budget os (ns ++ n ∷ [])) (sym longer) (one_more (take i ms) ns m n are is)

-- what holds of an error holds of a result with that error
pub if_err : {A E : Type 0} (P : E → Type 0) (o : Result A E) (e : E) → IsErrAnd o (λ f. f ≡ e) → P e → IfErr o P
if_err P (Ok a) e is p = tt
if_err P (Err f) e is p = subst P (sym is) p

-- want of memory at a method
memory_of : (m : ClassMethod) (e : WriteHeadsError) → IsMemory e → IsUnheadedOf m e
memory_of m (error.Failed failed) is = is
memory_of m (error.NotFound lacking) is = absurd is

-- among them
pub memory_among : {A : Type 0} (ms : List ClassMethod) (i : ℕ) (m : ClassMethod) (o : Result A WriteHeadsError) → i < length ms → m ≡ get_or ms i m
    → IsErrAnd o IsMemory → IfErr o (IsUnheaded ms)
memory_among ms i m (Ok a) within at is = tt
memory_among ms i m (Err e) within at is = (m, (i, within, sym at), memory_of m e is)
