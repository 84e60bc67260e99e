use Rattle.std.proofs.Common.{◌≡◌, ◌∙◌, [], ap, map, sym, Bor, List, ℕ}
use Rattle.clap.specs.Words.{found_of}
use Rattle.clap.proofs.WalkLemmas.{raw_values-rows}
use Rattle.command_line.specs.Parsed.{all_in, parsed_of, texts_of}
use Rattle.command_line.proofs.parsed.ParsedWords.all.Goals as goal

pub returns-in_ok-from_slice-in-Some : goal.returns-in_ok-from_slice-in-Some
returns-in_ok-from_slice-in-Some c =
    let texts : all_in (parsed_of c.args.self.now) c.args.id.now ≡ map (λ (t : Bor (List ℕ)). t.now) c.in-Some.texts.now =
    sym (ap texts_of (c.in-Some.ensures ∙ raw_values-rows (found_of c.args.self.now.values) c.args.id.now)) in
    ap (map (λ (t : Bor (List ℕ)). t.now)) c.in_ok-from_slice-in-Some.ensures.items ∙ sym texts

pub returns-in-None : goal.returns-in-None
returns-in-None c =
    let texts : all_in (parsed_of c.args.self.now) c.args.id.now ≡ [] =
    sym (ap texts_of (c.in-None.ensures ∙ raw_values-rows (found_of c.args.self.now.values) c.args.id.now)) in
    ap (map (λ (t : Bor (List ℕ)). t.now)) c.new.ensures.items ∙ sym texts
