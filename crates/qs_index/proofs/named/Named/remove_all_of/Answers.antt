use Rattle.std.proofs.Common.{sym, subst}
use Rattle.qs_index.specs.inner.Named.{AreNamedOf}
use Rattle.qs_index.proofs.OtherOrders.{AreNamedOf-without_all}
use Rattle.qs_index.proofs.named.Named.remove_all_of.Goals as goal

pub returns-clause-orders : goal.returns-clause-orders
returns-clause-orders c =
    λ xs ds ys u d a.
    AreNamedOf-without_all _ _ _ xs ds ys c.remove_all_of.ensures.difference c.remove_all_of-2.ensures.difference c.remove_all_of-3.ensures.difference u (subst (AreNamedOf ds) (sym c.other.view_is) d) (subst (AreNamedOf xs) (sym c.self.view_is) a)
