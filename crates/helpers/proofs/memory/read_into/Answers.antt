use Rattle.std.proofs.Common.{◌≡◌, ◌+◌, ◌-◌, arith}
use Rattle.helpers.proofs.Ranges.{read_part}
use Rattle.helpers.proofs.memory.read_into.Goals as goal

pub returns-clause-bytes : goal.returns-clause-bytes
returns-clause-bytes c =
    let same : c.args.start + c.args.most - c.args.start ≡ c.args.most = omega arith in
    read_part c.args.start (c.args.start + c.args.most - c.args.start) c.args.most c.args.at c.args.memory.now c.args.object.now.bytes c.read.new.out same c.requires c.read.ensures.bytes
