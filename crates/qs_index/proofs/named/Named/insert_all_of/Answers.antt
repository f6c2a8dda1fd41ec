use Rattle.std.proofs.Common.{sym, subst}
use Rattle.qs_index.specs.inner.Named.{AreNamedOf}
use Rattle.qs_index.proofs.OtherOrders.{AreNamedOf-with_all}
use Rattle.qs_index.proofs.named.Named.insert_all_of.Goals as goal

pub returns-clause-orders : goal.returns-clause-orders
returns-clause-orders c =
    λ xs ds ys u d a.
    AreNamedOf-with_all _ _ _ xs ds ys c.insert_all_of.ensures.union c.insert_all_of-2.ensures.union c.insert_all_of-3.ensures.union u (subst (AreNamedOf ds) (sym c.other.view_is) d) (subst (AreNamedOf xs) (sym c.self.view_is) a)
