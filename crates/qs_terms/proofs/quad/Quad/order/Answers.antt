use Rattle.qs_terms.proofs.SameStatement.{order_exact}
use Rattle.qs_terms.proofs.quad.Quad.order.Goals as goal

pub returns-clause-equal : goal.returns-clause-equal
returns-clause-equal c = order_exact _ _ _ c.cmp.ensures
