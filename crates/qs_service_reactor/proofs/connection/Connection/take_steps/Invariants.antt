use Rattle.qs_service_reactor.specs.inner.Turn.{Turns}
use Rattle.qs_service_reactor.proofs.connection.Connection.take_steps.Given as goal

abbrev pub invariant-loop : goal.invariant-loop
invariant-loop g l = Turns g.E.Endpoint.steps g.E.Endpoint.reply_of l.place l.initial.self.stage l.self.stage l.initial.endpoint l.endpoint (g.N.Network.log l.initial.net) (g.N.Network.log l.net)
