use Rattle.std.proofs.Common.{◌≡◌, rules, false, true}
use Rattle.program_files.specs.Files.{Holds}
use Rattle.program_files.proofs.Longer.{held_whole, no_text, too_long}
use Rattle.program_files.proofs.assembly.read_class_text.Goals as goal

pub returns-then-len-gt-TEXT_LIMIT-clause-fails : goal.returns-then-len-gt-TEXT_LIMIT-clause-fails
returns-then-len-gt-TEXT_LIMIT-clause-fails g c =
    too_long (g.F.ReadableFiles.disk c.args.files.now) c.args.name.now c.in-Ok.bytes.items c.in-Ok.ensures.begun (search rules)

pub returns-in-Ok-from_utf8-clause-held : goal.returns-in-Ok-from_utf8-clause-held
returns-in-Ok-from_utf8-clause-held g c =
    let disk = g.F.ReadableFiles.disk c.args.files.now in
    let whole : Holds disk c.args.name.now c.in-Ok.bytes.items = held_whole disk c.args.name.now c.in-Ok.bytes.items c.in-Ok.ensures.begun (search rules) in
    search rules

pub returns-clause-fails : goal.returns-clause-fails
returns-clause-fails g c =
    no_text (g.F.ReadableFiles.disk c.args.files.now) c.args.name.now c.in-Ok.bytes.items c.in-Ok.ensures.begun (search rules)
    (λ utf8. let bad : false ≡ true = c.in-Err-from_utf8.ensures.succeeds utf8 in cc)
