use Rattle.std.proofs.Common.{sym, subst}
use Rattle.qs_store.specs.inner.Emptied.{AreOut}
use Rattle.qs_store.proofs.emptied_graphs.are_out.Goals as goal

pub returns-in-Nothing : goal.returns-in-Nothing
returns-in-Nothing c =
    λ h. subst (λ g. AreOut g c.args.index.now.entries c.args.removed.now.entries) (sym c.in-Nothing.is) (λ x m n. absurd n)

pub returns-in-One : goal.returns-in-One
returns-in-One c =
    λ h. subst (λ g. AreOut g c.args.index.now.entries c.args.removed.now.entries) (sym c.in-One.is) (c.is_out.ensures h)

pub returns-in-Named : goal.returns-in-Named
returns-in-Named c =
    λ h. subst (λ g. AreOut g c.args.index.now.entries c.args.removed.now.entries) (sym c.in-Named.is) (c.is_named_out.ensures h)
