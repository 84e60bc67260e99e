use Rattle.std.proofs.Common.{◌++◌, ◌∙◌, List, ℕ, ap}
use Rattle.std.proofs.lemmas.Str.{IsUtf8-string_bytes}
use Rattle.cluster_advice.proofs.note.why.Goals as goal

-- turned by note_is_on_another_line
pub returns : goal.returns
returns c = record {
  text = IsUtf8-string_bytes c.push_str.new.self;
  rest = c.deref.result.now;
  is = c.in_ok-push_str.ensures.bytes ∙ ap (λ (l : List ℕ). l ++ c.deref.result.now) c.in_ok-note.ensures;
}
