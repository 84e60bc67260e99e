use Rattle.std.proofs.Common.{Some, None, false}
use Rattle.bpf_machine.specs.Helper.{nothing_given, with_text, bytes_in}
use Rattle.flat_machine.specs.StateView.{caps_in, layout_in, flat_state}
use Rattle.flat_machine.proofs.Ranges.{two_ranges}
use Rattle.flat_machine.proofs.calls.arguments.two_texts.Goals as goal

pub returns-in_err-value : goal.returns-in_err-value
returns-in_err-value c =
    let s = flat_state c.args.s.now in
    let name = c.in_ok-name.name in
    let none = two_ranges (caps_in c.args.s.now) (layout_in c.args.s.now) s false false (λ q m. with_text (bytes_in s.memory q m) (nothing_given s.limits s.caller)) (λ p n g. with_text (bytes_in s.memory p n) g) (Some (name.place, name.len)) None c.in_ok-name.ensures.taken c.in_err-value.ensures.taken in
    rw c.from_residual-in_err-value.ensures none

pub returns : goal.returns
returns c =
    let s = flat_state c.args.s.now in
    let name = c.in_ok-name.name in
    let value = c.in_ok-value.value in
    two_ranges (caps_in c.args.s.now) (layout_in c.args.s.now) s false false (λ q m. with_text (bytes_in s.memory q m) (nothing_given s.limits s.caller)) (λ p n g. with_text (bytes_in s.memory p n) g) (Some (name.place, name.len)) (Some (value.place, value.len)) c.in_ok-name.ensures.taken c.in_ok-value.ensures.taken
