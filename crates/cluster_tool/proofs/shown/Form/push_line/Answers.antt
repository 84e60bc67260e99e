use Rattle.std.proofs.Common.{◌++◌, ◌+◌, ◌≤◌, ℕ, List, length, arith, string_bytes, sym, ap, ◌∙◌}
use Rattle.cluster_tool.proofs.Lines.{no_end_left}
use Rattle.cluster_tool.proofs.shown.Form.push_line.Goals as goal

pub returns-in_default-get : goal.returns-in_default-get
returns-in_default-get c =
    let groups = c.args.self.now.groups in
    let client = c.args.client.now in
    let none : length client.ends.now ≤ c.args.place = c.in_default-get.ensures.lookup.3 in
    ap (λ (x : List ℕ). string_bytes c.args.text.now ++ x)
    (no_end_left groups client.number (c.args.place + 1) client.calls.now client.ends.now (omega arith)
    ∙ sym (no_end_left groups client.number c.args.place client.calls.now client.ends.now none))
