use Rattle.std.proofs.Common.{Some, None, true, false}
use Rattle.bpf_machine.specs.Helper.{nothing_given, with_text, with_room, bytes_in}
use Rattle.flat_machine.specs.StateView.{caps_in, layout_in, flat_state}
use Rattle.flat_machine.proofs.Ranges.{two_ranges}
use Rattle.flat_machine.proofs.calls.arguments.text_and_room.Goals as goal

pub returns-in_err-room-clause-given : goal.returns-in_err-room-clause-given
returns-in_err-room-clause-given c =
    let s = flat_state c.args.s.now in
    let text = c.in_ok-text.text in
    let none = two_ranges (caps_in c.args.s.now) (layout_in c.args.s.now) s false true (λ q m. with_room m q (nothing_given s.limits s.caller)) (λ p n g. with_text (bytes_in s.memory p n) g) (Some (text.place, text.len)) None c.in_ok-text.ensures.taken c.in_err-room.ensures.taken in
    rw c.from_residual-in_err-room.ensures none

pub returns-clause-given : goal.returns-clause-given
returns-clause-given c =
    let s = flat_state c.args.s.now in
    let text = c.in_ok-text.text in
    let room = c.in_ok-room.room in
    two_ranges (caps_in c.args.s.now) (layout_in c.args.s.now) s false true (λ q m. with_room m q (nothing_given s.limits s.caller)) (λ p n g. with_text (bytes_in s.memory p n) g) (Some (text.place, text.len)) (Some (room.place, room.len)) c.in_ok-text.ensures.taken c.in_ok-room.ensures.taken
