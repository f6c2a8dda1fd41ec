use Rattle.std.proofs.Common.{◌≤◌}
use Rattle.qs_service_reactor.specs.inner.Turn.{Moves}
use Rattle.qs_service_reactor.proofs.reactor.serve_events.Given as goal

abbrev pub invariant-loop : goal.invariant-loop
invariant-loop g l = record {
  moves : Moves g.E.Endpoint.steps g.E.Endpoint.reply_of l.table.accepted l.initial.table.connections.items l.table.connections.items l.initial.endpoint l.endpoint (g.N.Network.log l.initial.net) (g.N.Network.log l.net);
  most : l.table.accepted ≤ l.most;
}
