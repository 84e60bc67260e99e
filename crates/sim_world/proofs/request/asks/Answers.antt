use Rattle.std.proofs.Common.{[], ℕ, List, Bor, get_or, map, sym, ap, ◌∙◌}
use Rattle.file_words.specs.Words.{number_in}
use Rattle.sim_world.specs.Lines.{ask_at, asks}
use Rattle.sim_world.proofs.Listed.{first_word}
use Rattle.sim_world.proofs.request.asks.Goals as goal

pub returns-in_ok-request-in-len1-up : goal.returns-in_ok-request-in-len1-up
returns-in_ok-request-in-len1-up c =
    let none : Bor (List ℕ) = record { ref_ptr = (0, 0); now = [] } in
    c.ask_at.ensures
    ∙ ap (λ n. ask_at n c.in_ok-request-in-len1-up.request) c.number_in.ensures
    ∙ ap (λ r. ask_at (number_in (get_or c.args.args.now 0 none).now) r) c.in_ok-request-in-len1-up.ensures
    ∙ ap (asks (map (λ (n : Bor (List ℕ)). n.now) c.args.names.now)) (sym (first_word c.args.args.now none c.in-len1-up.len_at_least))
