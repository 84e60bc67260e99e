use Rattle.std.proofs.Common.{◌++◌, ◌∙◌, List, ℕ, ap, string_bytes}
use Rattle.cluster_tool.proofs.Printed.{with_note, without_note}
use Rattle.cluster_tool.proofs.tool.noted.Goals as goal

-- turned by note_is_on_another_line
pub returns-then-script : goal.returns-then-script
returns-then-script c =
    with_note c.args.script.now.asked.now c.args.line (string_bytes c.args.said) (string_bytes c.in_ok-note.note) (string_bytes c.push_str.new.self)
    c.if-script.true c.in_ok-note.ensures
    (c.in_ok-push_str.ensures.bytes ∙ ap (λ (l : List ℕ). string_bytes c.args.said ++ l) c.deref.ensures)

pub returns : goal.returns
returns c = without_note c.args.script.now.asked.now c.args.line (string_bytes c.args.said) c.if-script.false
