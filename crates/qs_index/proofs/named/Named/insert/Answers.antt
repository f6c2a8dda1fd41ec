use Rattle.std.proofs.Common.{◌≡◌, true, false, sym, subst}
use Rattle.qs_index.specs.inner.Graph.{is_named}
use Rattle.qs_index.specs.inner.Named.{AreNamedOf}
use Rattle.qs_index.specs.declared.permutation.Permutation.TheVariants.{Spog, Posg, Ospg}
use Rattle.qs_index.proofs.NamedOrders.{AreNamedOf-with_none, order_with}
use Rattle.qs_index.proofs.named.Named.insert.Goals as goal

pub returns-then-not-is_named-clause-orders : goal.returns-then-not-is_named-clause-orders
returns-then-not-is_named-clause-orders c =
    let other : is_named c.args.entry ≡ false = sym c.if-not-is_named.ensures in
    λ xs n a. AreNamedOf-with_none c.args.self.now c.args.entry xs other a

pub returns-clause-orders : goal.returns-clause-orders
returns-clause-orders c =
    let x = c.args.entry in
    let named : is_named x ≡ true = sym c.if-not-is_named.ensures in
    λ xs n a.
    let old = subst (AreNamedOf xs) (sym c.self.view_is) a in
    record {
      subject = order_with Spog x c.turn.result xs c.self.inside.spog.entries c.insert.new.self.entries c.insert.result named c.turn.ensures.turned old.subject n c.insert.ensures.new c.insert.ensures.added c.insert.ensures.ascending;
      predicate = order_with Posg x c.turn-2.result xs c.self.inside.posg.entries c.insert-2.new.self.entries c.insert-2.result named c.turn-2.ensures.turned old.predicate n c.insert-2.ensures.new c.insert-2.ensures.added c.insert-2.ensures.ascending;
      object = order_with Ospg x c.turn-3.result xs c.self.inside.ospg.entries c.insert-3.new.self.entries c.insert-3.result named c.turn-3.ensures.turned old.object n c.insert-3.ensures.new c.insert-3.ensures.added c.insert-3.ensures.ascending;
    }
