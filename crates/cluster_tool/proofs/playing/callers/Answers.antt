use Rattle.std.proofs.Common.{arith, ◌≡◌, suc, refl}
use Rattle.cluster_tool.proofs.Ends.{new_more}
use Rattle.cluster_tool.proofs.playing.callers.Goals as goal

pub loop-client-preserved : goal.loop-client-preserved
loop-client-preserved g c =
    let number : c.in-Ok.session.client ≡ suc c.loop-client.client = omega (arith, c.client.ensures, c.get.ensures.value, c.if-get-client.false) in
    new_more c.loop-client.client c.loop-client.callers.items c.push.new.self.items c.new.result c.loop-client.invariant
    (rw c.new.ensures (record {
      session = record { client = number; used = c.in-Ok.ensures.new.1; last = c.in-Ok.ensures.new.2; seen = c.in-Ok.ensures.new.3 };
      ends = refl;
      lost = refl;
    })) c.in_ok-push.ensures.items
