use Rattle.std.proofs.Common.{Some, None, true, false}
use Rattle.bpf_machine.specs.Helper.{nothing_given, with_text, with_room, bytes_in}
use Rattle.flat_machine.specs.StateView.{caps_in, layout_in, flat_state}
use Rattle.flat_machine.proofs.Ranges.{two_ranges}
use Rattle.flat_machine.proofs.calls.arguments.room_and_text.Goals as goal

pub returns-in_err-text-clause-given : goal.returns-in_err-text-clause-given
returns-in_err-text-clause-given c =
    let s = flat_state c.args.s.now in
    let room = c.in_ok-room.room in
    let none = two_ranges (caps_in c.args.s.now) (layout_in c.args.s.now) s true false (λ q m. with_text (bytes_in s.memory q m) (nothing_given s.limits s.caller)) (λ p n g. with_room n p g) (Some (room.place, room.len)) None c.in_ok-room.ensures.taken c.in_err-text.ensures.taken in
    rw c.from_residual-in_err-text.ensures none

pub returns-clause-given : goal.returns-clause-given
returns-clause-given c =
    let s = flat_state c.args.s.now in
    let room = c.in_ok-room.room in
    let text = c.in_ok-text.text in
    two_ranges (caps_in c.args.s.now) (layout_in c.args.s.now) s true false (λ q m. with_text (bytes_in s.memory q m) (nothing_given s.limits s.caller)) (λ p n g. with_room n p g) (Some (room.place, room.len)) (Some (text.place, text.len)) c.in_ok-room.ensures.taken c.in_ok-text.ensures.taken
