use denote.Param.Send.{sendable}
use Rattle.cluster_tool.proofs.playing.call_each.Goals as goal

pub for_each_mut-requires-send-T : goal.for_each_mut-requires-send-T
for_each_mut-requires-send-T g c κs within =
    let h = c.caller_crosses.ensures in
    search (h, sendable) depth 4
