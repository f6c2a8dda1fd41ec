use Rattle.std.proofs.Common.{ap, List, ℕ, ◌++◌}
use Rattle.qs_http.proofs.Steps.{ends_ready, ends_refused, ends_more}
use Rattle.qs_http.proofs.advance.advance_ended.Goals as goal

pub returns-in-Ready-clause-step : goal.returns-in-Ready-clause-step
returns-in-Ready-clause-step c = ends_more _ c.args.behind.now _ _ (ap (λ (l : List ℕ). l ++ c.args.behind.now) c.deref.ensures.value) (ends_ready _ _ c.in-Ready.ensures)

pub returns-in-Refused-clause-step : goal.returns-in-Refused-clause-step
returns-in-Refused-clause-step c = ends_more _ c.args.behind.now _ _ (ap (λ (l : List ℕ). l ++ c.args.behind.now) c.deref.ensures.value) (ends_refused _ _ c.in-Refused.ensures)
