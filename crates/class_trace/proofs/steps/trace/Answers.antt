use Rattle.std.proofs.Common.{◌∙◌, length}
use Rattle.std.proofs.lemmas.Result.{IfOk-weaker}
use Rattle.std.specs.Option.{option_copied}
use Rattle.flat_machine.specs.StateView.{caps_in, layout_in, flat_state}
use Rattle.class_trace.specs.Trace.{AreRecords, IsTraceOf, records}
use Rattle.class_trace.proofs.Begun.{begun_ends, begun_trace, is_begun, is_laid}
use Rattle.class_trace.proofs.steps.trace.Goals as goal

pub follow-requires : goal.follow-requires
follow-requires c =
    let m = c.args.method.now in
    let start = c.args.start.now in
    let object = option_copied start.object in
    let state = c.in_ok-state.state in
    let caps = c.of-caps.result in
    let machine = c.first_machine.result in
    let first = c.first_machine.ensures in
    let code = c.deref.result.now in
    let insns = c.instructions-insns.result.now in
    let b = is_begun m object start.caller start.input.now caps machine state.memory.machine code insns (flat_state state) first.caps first.layout c.of-caps.ensures
    c.in_ok-state.ensures.machine (c.deref.ensures.value ∙ c.in_ok-code.ensures) c.instructions-insns.ensures c.in_ok-state.ensures.entry in
    begun_ends c.chains.ensures m object start.caller start.input.now (caps_in state) (layout_in state) code insns (flat_state state) b
    (is_laid m caps machine first.caps first.layout c.of-caps.ensures) c.requires.ends

pub returns : goal.returns
returns c =
    let m = c.args.method.now in
    let start = c.args.start.now in
    let object = option_copied start.object in
    let state = c.in_ok-state.state in
    let caps = c.of-caps.result in
    let machine = c.first_machine.result in
    let first = c.first_machine.ensures in
    let code = c.deref.result.now in
    let insns = c.instructions-insns.result.now in
    let b = is_begun m object start.caller start.input.now caps machine state.memory.machine code insns (flat_state state) first.caps first.layout c.of-caps.ensures
    c.in_ok-state.ensures.machine (c.deref.ensures.value ∙ c.in_ok-code.ensures) c.instructions-insns.ensures c.in_ok-state.ensures.entry in
    IfOk-weaker c.follow.result (λ lines. AreRecords (caps_in state) (layout_in state) code (length insns) (flat_state state) (records lines.items))
    (λ lines. IsTraceOf m object start.caller start.input.now (records lines.items))
    (λ lines h. begun_trace c.chains.ensures m object start.caller start.input.now (caps_in state) (layout_in state) code insns (flat_state state) b (records lines.items) h)
    c.follow.ensures
