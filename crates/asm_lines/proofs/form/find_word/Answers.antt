use Rattle.std.proofs.Common.{rules, tests, ◌∙◌}
use Rattle.std.proofs.lemmas.Iterator.{YieldsList-from_slice}
use Rattle.std.proofs.lemmas.Iterator.Search.{find_from_yields_List}
use Rattle.std.specs.Str.{bytes_eq}
use Rattle.asm_lines.specs.Words.{word_of}
use Rattle.asm_lines.proofs.form.find_word.Goals as goal

pub returns : goal.returns
returns c =
    c.copied.ensures ∙ find_from_yields_List (λ f. bytes_eq (word_of f) c.args.word.now) _ _ c.find.result c.find.ensures.ran (YieldsList-from_slice c.args.forms.now cc) (λ x b q k. search (rules, tests))
