-- The reports of files, one after the other.
use Rattle.std.proofs.Common.{◌≡◌, ◌∙◌, ◌<◌, ◌+◌, ℕ, suc, List, [], ◌∷◌, ◌++◌, Option, ap, sym, subst, arith, length, map, take, get_or}
use Rattle.std.proofs.lemmas.List.{map-append}
use Rattle.std.proofs.Math.Seq.{take-suc}
use Rattle.program_files.specs.Files.{Disk}
use Rattle.loop_tool.specs.Reports.{AreReportsOf, IsLoopReport}
use Rattle.loop_tool.specs.declared.asked.LoopsAsked.{LoopsAsked}
use Rattle.loop_tool.specs.declared.loop_report.LoopReport.{LoopReport}

module _ (disk : Option Disk) (asked : LoopsAsked) where
  -- one more report
  one_more : (names : List (List ℕ)) (rs : List LoopReport) (name : List ℕ) (r : LoopReport) → AreReportsOf disk asked names rs → IsLoopReport disk asked name r
      → AreReportsOf disk asked (names ++ name ∷ []) (rs ++ r ∷ [])
  one_more [] [] name r are is = (is, tt)
  one_more [] (q ∷ qs) name r are is = absurd are
  one_more (n ∷ ns) [] name r are is = absurd are
  one_more (n ∷ ns) (q ∷ qs) name r are is = (are.0, one_more ns qs name r are.1 is)

  module _ {X : Type 0} (f : X → List ℕ) where
    -- the reports of the first files, and of the next
    pub next_told : (names : List X) (i : ℕ) (d : X) (rs : List LoopReport) (r : LoopReport) → i < length names
        → AreReportsOf disk asked (map f (take i names)) rs → IsLoopReport disk asked (f (get_or names i d)) r
        → AreReportsOf disk asked (map f (take (i + 1) names)) (rs ++ r ∷ [])
    next_told names i d rs r within are is =
        let one : i + 1 ≡ suc i = omega arith in
        let longer : map f (take (i + 1) names) ≡ map f (take i names) ++ f (get_or names i d) ∷ [] =
        ap (λ n. map f (take n names)) one ∙ ap (map f) (take-suc names i d within) ∙ map-append f (take i names) (get_or names i d ∷ []) in
        subst (λ (ns : List (List ℕ)). AreReportsOf disk asked ns (rs ++ r ∷ [])) (sym longer) (one_more (map f (take i names)) rs (f (get_or names i d)) r are is)
