use Rattle.std.proofs.Common.{◌≡◌, ◌++◌, ◌≤◌, take, ◌+◌, ◌-◌, ap, ◌∙◌, length, length-take-le, arith}
use Rattle.std.proofs.lemmas.Slice.{take-put_mid}
use Rattle.program_files.proofs.Windows.{filled}
use Rattle.program_files.proofs.window.Window.add.Goals as goal

pub returns-clause-shown : goal.returns-clause-shown
returns-clause-shown c =
    let w = c.args.self.now in
    let bytes = c.args.bytes.now in
    let count = c.min-count.result in
    let new = c.copy_from_slice.new.self in
    let there : w.len ≤ length w.bytes = omega arith in
    let added : new ≡ take count bytes = c.copy_from_slice.ensures.after in
    let many : length (take count bytes) ≡ count = length-take-le count bytes (omega (arith, c.min-count.ensures)) in
    let fits : w.len ≤ 1024 = w.within in
    take-put_mid w.len (w.len + count - w.len) w.bytes new (w.len + count) (omega (arith, many, ap length added)) there
    ∙ ap (λ l. take w.len w.bytes ++ l) added
    ∙ filled 1024 w.len count (take w.len w.bytes) bytes (length-take-le w.len w.bytes there) fits c.min-count.ensures
