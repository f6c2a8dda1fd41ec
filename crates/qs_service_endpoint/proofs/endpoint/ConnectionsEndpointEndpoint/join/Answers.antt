use Rattle.std.proofs.Common.{◌∙◌}
use Rattle.std.specs.Result.{result_err}
use Rattle.qs_service_connections.specs.Step.{Step, Join}
use Rattle.qs_service_endpoint.proofs.Standing.{done_is, join_keeps}
use Rattle.qs_service_endpoint.proofs.endpoint.ConnectionsEndpointEndpoint.join.Goals as goal

pub returns-clause-step : goal.returns-clause-step
returns-clause-step g c =
    let step : Step g.M.Meaning.carries c.args.self.now (Join c.args.id) (result_err c.join_conn.result) c.join_conn.new.self = rw (← c.self.view_is) c.join_conn.ensures.step in
    (_, step, c.is_ok.ensures.value ∙ done_is c.join_conn.result)

pub returns-clause-keeps : goal.returns-clause-keeps
returns-clause-keeps g c =
    let step : Step g.M.Meaning.carries c.args.self.now (Join c.args.id) (result_err c.join_conn.result) c.join_conn.new.self = rw (← c.self.view_is) c.join_conn.ensures.step in
    join_keeps g.M.Meaning.carries c.args.self.now c.join_conn.new.self c.args.id _ step
