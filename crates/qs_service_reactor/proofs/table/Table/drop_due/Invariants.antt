use Rattle.std.proofs.Common.{◌≡◌, vec_len}
use Rattle.qs_service_reactor.specs.inner.Turn.{Moves}
use Rattle.qs_service_reactor.proofs.table.Table.drop_due.Given as goal

abbrev pub invariant-loop-place : goal.invariant-loop-place
invariant-loop-place g l = record {
  moves : Moves g.E.Endpoint.steps g.E.Endpoint.reply_of 0 l.initial.self.connections.items l.self.connections.items l.initial.endpoint l.endpoint (g.N.Network.log l.initial.net) (g.N.Network.log l.net);
  accepted : l.self.accepted ≡ l.initial.self.accepted;
  len : vec_len l.self.connections ≡ l.places;
  sized : vec_len l.self.ready ≡ vec_len l.self.connections;
}
