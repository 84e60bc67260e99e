use Rattle.std.proofs.Common.{◌≡◌, [], ℕ, List, Bor, map, sym, subst, IfOk}
use Rattle.sim_world.specs.Lines.{says}
use Rattle.sim_world.proofs.Listed.{first_word}
use Rattle.sim_world.proofs.line.says.Goals as goal

pub returns-in-len1-up : goal.returns-in-len1-up
returns-in-len1-up c =
    let P : List (List ℕ) → Type 0 = λ ws. IfOk c.with_args.result (λ l. l ≡ says (map (λ (n : Bor (List ℕ)). n.now) c.args.names.now) ws) in
    subst P (sym (first_word c.args.words.now (record { ref_ptr = (0, 0); now = [] }) c.in-len1-up.len_at_least)) c.with_args.ensures
