use Rattle.std.proofs.Common.{◌≡◌, drop}
use Rattle.std.specs.Prelude.{not}
use Rattle.std.specs.List.{list_any}
use Rattle.object_texts.specs.Shown.{is_printable}
use Rattle.object_texts.proofs.shown.has_other.Given as goal

-- those that are left decide
abbrev pub invariant-loop-b : goal.invariant-loop-b
invariant-loop-b l = list_any (λ b. not (is_printable b)) (drop l.b-index l.name) ≡ list_any (λ b. not (is_printable b)) l.name
