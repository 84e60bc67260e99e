use Rattle.std.proofs.Common.{◌≡◌, false, is_some, rules}
use Rattle.bpf_asm.specs.Places.{place_in}
use Rattle.bpf_asm.proofs.LabelLemmas.{noted_now}
use Rattle.bpf_asm.proofs.labels.note.Goals as goal

pub returns-in_ok-insert : goal.returns-in_ok-insert
returns-in_ok-insert c =
    let absent : is_some (place_in c.args.first.now c.args.name.now) ≡ false = search rules in
    noted_now c.args.first.now c.insert.new.self c.args.name.now c.args.place absent c.in_ok-insert.ensures.updates
