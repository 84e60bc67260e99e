use Rattle.std.proofs.Common.{◌≡◌, ◌∙◌, ◌-◌, ap, arith, Bor, List, ℕ, Some, map}
use Rattle.std.specs.Prelude.{option_map, slice_get}
use Rattle.std.proofs.lemmas.Option.{slice_get-map}
use Rattle.std.proofs.lemmas.Grind.{elements}
use Rattle.class_tests.proofs.called.line_at.Goals as goal

-- turned by the_next_lines_call
pub returns-in-Some : goal.returns-in-Some
returns-in-Some c =
    let text : Bor (List ℕ) → List ℕ = λ l. l.now in
    let xs = c.args.lines.now in
    let k = c.args.number - 1 in
    let found : slice_get xs k ≡ Some c.in-Some.line.now = grind (arith, elements) in
    let mapped : slice_get (map text xs) k ≡ Some c.in-Some.line.now.now = slice_get-map text xs k ∙ ap (option_map text) found in
    grind (arith, mapped)
