use Rattle.std.proofs.Common.{Bool, false, map, string_bytes, ◌∙◌, None, subst}
use Rattle.program_files.specs.Files.{Storage}
use Rattle.program_files.specs.System.{has_failed}
use Rattle.radoscls_program.specs.Change.{Change}
use Rattle.radoscls_program.specs.Program.{Starts}
use Rattle.radoscls_program.specs.Streams.{stream}
use Rattle.radoscls_program.proofs.Ended.{started}
use Rattle.radoscls_program.proofs.process.start.Goals as goal

pub returns : goal.returns
returns g c =
    let out = stream g.O.Output.printed g.O.Output.failed in
    let status = c.end_on-status.result in
    let files : Bool → Storage = λ failed. record { disk = None; failed = failed; in_place = λ _. false } in
    let after = files (has_failed c.end_on-status.new.files) in
    let change : Bool → Change = λ failed. record { before = files failed; after = after; old = out c.args.out.now; new = out c.end_on-status.new.out } in
    let how = started c.words-words.result (λ all. map string_bytes all.items) (change (has_failed c.new-files.result)) status c.end_on-status.ensures.asked c.end_on-status.ensures.unread in
    (status, c.from.ensures ∙ c.code.ensures, after, subst (λ (failed : Bool). Starts (change failed) status) c.new-files.ensures how)
