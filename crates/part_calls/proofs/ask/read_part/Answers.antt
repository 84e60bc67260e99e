use Rattle.std.proofs.Common.{◌≡◌, ◌+◌, ◌-◌, arith}
use Rattle.part_calls.proofs.PartHelped.{read_filled}
use Rattle.part_calls.proofs.ask.read_part.Goals as goal

pub returns-clause-bytes : goal.returns-clause-bytes
returns-clause-bytes c =
    let same : c.args.room.at + c.args.room.len - c.args.room.at ≡ c.args.room.len = omega arith in
    λ o stands. read_filled c.args.room.at c.args.room.len (c.args.room.at + c.args.room.len - c.args.room.at) c.args.at c.args.memory.now c.read-2.new.out o same c.if-room-eq0.false (c.requires.within c.if-room-eq0.false) (c.in_ok-read-2.ensures.bytes o stands)
