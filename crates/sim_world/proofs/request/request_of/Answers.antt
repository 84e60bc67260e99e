use Rattle.std.proofs.Common.{◌≡◌, [], ℕ, List, Bor, map, sym, subst, IfOk, arith}
use Rattle.std.proofs.lemmas.Grind.{elements}
use Rattle.sim_world.specs.Lines.{request_of}
use Rattle.sim_world.proofs.Listed.{not_six, six_words}
use Rattle.sim_world.proofs.request.request_of.Goals as goal

pub returns-in-len6 : goal.returns-in-len6
returns-in-len6 c =
    let P : List (List ℕ) → Type 0 = λ ws. IfOk c.request_by.result (λ r. r ≡ request_of (map (λ (n : Bor (List ℕ)). n.now) c.args.names.now) ws) in
    subst P (sym (six_words c.args.args.now (record { ref_ptr = (0, 0); now = [] }) c.in-len6.len_at_least c.in-len6.len_below)) c.request_by.ensures

pub returns-in_default : goal.returns-in_default
returns-in_default c = not_six (map (λ (n : Bor (List ℕ)). n.now) c.args.names.now) c.args.args.now (λ e. grind (arith, elements))
