use Rattle.std.proofs.Common.{ℕ, List, ◌⊎◌, subst}
use Rattle.std.specs.Prelude.{IfErr, IfOk}
use Rattle.std.proofs.lemmas.Result.{IfErr-weaker, IfOk-weaker}
use Rattle.program_files.specs.Image.{IsMemory, IsSourceOf, ReadFails, SayNone, Says}
use Rattle.program_files.proofs.Longer.{read_fails, source_in}
use Rattle.program_files.proofs.image.read_source.Goals as goal

pub returns-clause-read : goal.returns-clause-read
returns-clause-read g c =
    let disk = g.F.ReadableFiles.disk c.args.files.now in
    let bytes = c.in-Ok.bytes.items in
    IfOk-weaker c.source_of.result (Says bytes) (IsSourceOf disk c.args.name.now)
    (λ source says. source_in c.beginning.ensures.image disk c.args.name.now bytes source c.in-Ok.ensures.begun says)
    (subst (λ (b : List ℕ). IfOk c.source_of.result (Says b)) c.deref.ensures.value c.source_of.ensures.says)

pub returns-clause-fails : goal.returns-clause-fails
returns-clause-fails g c =
    let disk = g.F.ReadableFiles.disk c.args.files.now in
    let bytes = c.in-Ok.bytes.items in
    IfErr-weaker c.source_of.result (λ e. IsMemory e.failure ⊎ SayNone bytes e.failure) (λ e. ReadFails disk c.args.name.now e.failure)
    (λ e why. read_fails c.beginning.ensures.read disk c.args.name.now bytes e.failure c.in-Ok.ensures.begun why)
    (subst (λ (b : List ℕ). IfErr c.source_of.result (λ e. IsMemory e.failure ⊎ SayNone b e.failure)) c.deref.ensures.value c.source_of.ensures.fails)
