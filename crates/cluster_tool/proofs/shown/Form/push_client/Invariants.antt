use Rattle.std.proofs.Common.{◌≡◌, ◌++◌, drop, map, string_bytes}
use Rattle.cluster_file.specs.Text.{call_lines}
use Rattle.cluster_tool.specs.Answers.{shown}
use Rattle.cluster_tool.proofs.shown.Form.push_client.Given as goal

-- the lines so far and those that are left
abbrev pub invariant-loop-place : goal.invariant-loop-place
invariant-loop-place l =
    let client = l.client in
    string_bytes l.text ++ call_lines l.self.groups client.number l.place (map (λ c. c.now) (drop l.place client.calls.now)) (map shown (drop l.place client.ends.now))
    ≡ string_bytes l.initial.text ++ call_lines l.self.groups client.number 0 (map (λ c. c.now) client.calls.now) (map shown client.ends.now)
