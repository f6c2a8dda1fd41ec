use Rattle.std.proofs.Common.{◌≡◌, true, false, sym, subst}
use Rattle.qs_index.specs.inner.Graph.{is_named}
use Rattle.qs_index.specs.inner.Named.{AreNamedOf}
use Rattle.qs_index.specs.declared.permutation.Permutation.TheVariants.{Spog, Posg, Ospg}
use Rattle.qs_index.proofs.NamedOrders.{AreNamedOf-without_none, order_without}
use Rattle.qs_index.proofs.named.Named.remove.Goals as goal

pub returns-then-not-is_named-clause-orders : goal.returns-then-not-is_named-clause-orders
returns-then-not-is_named-clause-orders c =
    let other : is_named c.args.entry ≡ false = sym c.if-not-is_named.ensures in
    λ xs u m a. AreNamedOf-without_none c.args.self.now c.args.entry xs other u m a

pub returns-clause-orders : goal.returns-clause-orders
returns-clause-orders c =
    let x = c.args.entry in
    let named : is_named x ≡ true = sym c.if-not-is_named.ensures in
    λ xs u m a.
    let old = subst (AreNamedOf xs) (sym c.self.view_is) a in
    record {
      subject = order_without Spog x c.turn.result xs c.self.inside.spog.entries c.remove.new.self.entries c.remove.result named c.turn.ensures.turned old.subject u m c.remove.ensures.stood c.remove.ensures.taken c.remove.ensures.ascending;
      predicate = order_without Posg x c.turn-2.result xs c.self.inside.posg.entries c.remove-2.new.self.entries c.remove-2.result named c.turn-2.ensures.turned old.predicate u m c.remove-2.ensures.stood c.remove-2.ensures.taken c.remove-2.ensures.ascending;
      object = order_without Ospg x c.turn-3.result xs c.self.inside.ospg.entries c.remove-3.new.self.entries c.remove-3.result named c.turn-3.ensures.turned old.object u m c.remove-3.ensures.stood c.remove-3.ensures.taken c.remove-3.ensures.ascending;
    }
