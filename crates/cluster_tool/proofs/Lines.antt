-- If no ended call is left, no line is left.
use Rattle.std.proofs.Common.{◌≡◌, ◌≤◌, [], ◌∷◌, ℕ, zero, suc, List, Bor, Option, Result, drop, length, map, refl, ap, ◌∙◌, arith}
use Rattle.cluster_file.specs.Planned.{PlannedCall}
use Rattle.cluster_file.specs.Text.{call_lines}
use Rattle.rados_client.specs.Session.{PlacedReply}
use Rattle.rados_client.specs.declared.exec_error.ExecError.{ExecError}
use Rattle.cluster_tool.specs.Answers.{shown}

drop_none : {A : Type 0} (xs : List A) (k : ℕ) → length xs ≤ k → drop k xs ≡ []
drop_none [] zero h = refl
drop_none [] (suc k) h = refl
drop_none (y ∷ ys) zero h = absurd (omega arith)
drop_none (y ∷ ys) (suc k) h = drop_none ys k (omega arith)

no_ends : (groups : Option ℕ) (client number : ℕ) (calls : List PlannedCall) → call_lines groups client number calls [] ≡ []
no_ends groups client number [] = refl
no_ends groups client number (call ∷ calls) = refl

pub no_end_left : (groups : Option ℕ) (client place : ℕ) (calls : List (Bor PlannedCall)) (ends : List (Result PlacedReply ExecError)) → length ends ≤ place
    → call_lines groups client place (map (λ (c : Bor PlannedCall). c.now) (drop place calls)) (map shown (drop place ends)) ≡ []
no_end_left groups client place calls ends none =
    let left : List PlannedCall = map (λ (c : Bor PlannedCall). c.now) (drop place calls) in
    ap (λ (l : List (Result PlacedReply ExecError)). call_lines groups client place left (map shown l)) (drop_none ends place none) ∙ no_ends groups client place left
