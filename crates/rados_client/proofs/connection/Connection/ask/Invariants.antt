use Rattle.std.specs.Prelude.{IsTrue, IsFalse}
use Rattle.op_shards.specs.Passes.{Grew}
use Rattle.rados_client.specs.Session.{KnowsMore}
use Rattle.rados_client.specs.Promise.{NotAsked, WasAsked}
use Rattle.rados_client.proofs.connection.Connection.ask.Given as goal

abbrev pub invariant-loop : goal.invariant-loop
invariant-loop g l = record {
  seen : KnowsMore l.fn.self.seen l.self.seen;
  grew : Grew l.fn.self.sends l.self.sends;
  taken : IsTrue l.patience.taken → WasAsked l.fn.self.sends l.self.sends l.request;
  untaken : IsFalse l.patience.taken → NotAsked l.fn.self.sends l.self.sends l.request;
}
