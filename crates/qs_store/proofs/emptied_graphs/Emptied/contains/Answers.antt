use Rattle.std.proofs.Common.{◌↔◌, IsTrue, Contains, sym, subst}
use Rattle.std.proofs.lemmas.Cmp.{nat_cmp_total}
use Rattle.std.proofs.lemmas.Map.Lookups.{exact_unsigned}
use Rattle.std.proofs.lemmas.Map.Views.{btree_set_contains_iff}
use Rattle.qs_store.proofs.emptied_graphs.Emptied.contains.Goals as goal

pub returns : goal.returns
returns c =
    let s = c.self.inside.graphs in
    subst (λ l. IsTrue c.contains.result ↔ Contains l c.args.graph) c.self.view_is
    (subst (λ b. IsTrue b ↔ Contains s.keys c.args.graph) (sym c.contains.ensures) (btree_set_contains_iff nat_cmp_total exact_unsigned s c.args.graph))
