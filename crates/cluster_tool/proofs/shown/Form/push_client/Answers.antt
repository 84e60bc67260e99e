use Rattle.std.proofs.Common.{◌++◌, ℕ, List, append-nil, arith, string_bytes, sym, ap, ◌∙◌}
use Rattle.cluster_tool.proofs.Lines.{no_end_left}
use Rattle.cluster_tool.proofs.shown.Form.push_client.Goals as goal

pub returns : goal.returns
returns c =
    let client = c.args.client.now in
    let text = string_bytes c.loop-place.text in
    sym (append-nil text)
    ∙ ap (λ (x : List ℕ). text ++ x) (sym (no_end_left c.args.self.now.groups client.number c.loop-place.place client.calls.now client.ends.now (omega arith)))
    ∙ c.loop-place.invariant
