use Rattle.std.proofs.Common.{subst}
use Rattle.std.specs.Str.{bytes_eq}
use Rattle.qs_terms.specs.Bag.{Distinct}
use Rattle.qs_store.proofs.Members.{ascending_once}
use Rattle.qs_store.proofs.layers.Layers.len.Goals as goal

pub returns-clause-once : goal.returns-clause-once
returns-clause-once c = subst (λ v. Distinct bytes_eq v.base) c.self.view_is (ascending_once c.self.inside.index.entries c.self.invariant.parted.once)
