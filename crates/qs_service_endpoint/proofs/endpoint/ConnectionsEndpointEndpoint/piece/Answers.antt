use Rattle.std.proofs.Common.{◌∙◌}
use Rattle.std.specs.Result.{result_err}
use Rattle.qs_service_connections.specs.Step.{Step, Piece}
use Rattle.qs_service_endpoint.proofs.Standing.{done_is, piece_keeps}
use Rattle.qs_service_endpoint.proofs.endpoint.ConnectionsEndpointEndpoint.piece.Goals as goal

pub returns-clause-step : goal.returns-clause-step
returns-clause-step g c =
    let step : Step g.M.Meaning.carries c.args.self.now (Piece c.args.id c.args.bytes.now) (result_err c.piece.result) c.piece.new.self = rw (← c.self.view_is) c.piece.ensures.step in
    (_, step, c.is_ok.ensures.value ∙ done_is c.piece.result)

pub returns-clause-keeps : goal.returns-clause-keeps
returns-clause-keeps g c =
    let step : Step g.M.Meaning.carries c.args.self.now (Piece c.args.id c.args.bytes.now) (result_err c.piece.result) c.piece.new.self = rw (← c.self.view_is) c.piece.ensures.step in
    piece_keeps g.M.Meaning.carries c.args.self.now c.piece.new.self c.args.id c.args.bytes.now _ step
