use Rattle.std.proofs.Common.{arith}
use Rattle.qs_http.proofs.Steps.{awaits-unique, ends_ready, ends_refused}
use Rattle.qs_http.proofs.advance.finish.Goals as goal

pub unreachable-requires : goal.unreachable-requires
unreachable-requires c =
    omega (arith, c.in-More.ensures.1, awaits-unique _ _ _ _ c.requires.awaits c.in-More.ensures.0, c.requires.whole)

pub returns-in-Ready-clause-step : goal.returns-in-Ready-clause-step
returns-in-Ready-clause-step c = ends_ready _ _ c.in-Ready.ensures

pub returns-in-Refused-clause-step : goal.returns-in-Refused-clause-step
returns-in-Refused-clause-step c = ends_refused _ _ c.in-Refused.ensures
