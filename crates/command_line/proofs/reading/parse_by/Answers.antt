use Rattle.std.proofs.Common.{◌≡◌, ◌∙◌, [], ap, map, subst, sym}
use Rattle.clap.specs.Words.{App, HasKind, fault_of, is_simple, is_simple_and_free, subcommand_of}
use Rattle.command_line.proofs.NoParse.{no_parse}
use Rattle.command_line.proofs.reading.parse_by.Goals as goal

pub returns-in-Some-clause-parsed : goal.returns-in-Some-clause-parsed
returns-in-Some-clause-parsed g c =
    let words = map g.S.AsStr.text c.args.words.now in
    let same = (c.in-Ok.ensures.ok.2 (ap is_simple c.requires)).1 ∙ ap (λ (a : App). subcommand_of a words) c.requires in
    record {
      faultless = subst (λ (a : App). fault_of a words ≡ []) c.requires (c.in-Ok.ensures.kinds (ap is_simple_and_free c.requires));
      entered = sym same ∙ c.in-Some.ensures.some;
    }

pub returns-in-Err-clause-unparsed : goal.returns-in-Err-clause-unparsed
returns-in-Err-clause-unparsed g c known =
    let words = map g.S.AsStr.text c.args.words.now in
    no_parse words c.in-Err.error (subst (λ (a : App). HasKind (fault_of a words) c.in-Err.error) c.requires (c.in-Err.ensures.kinds (ap is_simple_and_free c.requires)))
    (λ memory. known (c.new.ensures.1 memory))
