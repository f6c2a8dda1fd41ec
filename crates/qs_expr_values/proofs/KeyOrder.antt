-- The order of ORDER BY is total, since the derived order of keys is.
use Rattle.std.proofs.Common.{ap, sym, ◌∙◌}
use Rattle.std.specs.Cmp.{IsTotalOrder}
use Rattle.std.specs.Ordering.{ordering_reverse}
use Rattle.qs_expr_values.specs.Sorting.{compare_keys}
use Rattle.qs_expr_values.specs.contracts.key.KeyOrd.TheImpl.Laws as law
use Rattle.qs_expr_values.proofs.Keys.{cmp_is}

pub ordered : IsTotalOrder compare_keys
ordered = record {
  antisymm = λ x y. sym (cmp_is x y) ∙ (law.total-law.antisymm x y ∙ ap ordering_reverse (cmp_is y x));
  trans = λ x y z h g. sym (cmp_is x z) ∙ law.total-law.trans x y z (cmp_is x y ∙ h) (cmp_is y z ∙ g);
  congr = λ x y z h. sym (cmp_is x z) ∙ (law.total-law.congr x y z (cmp_is x y ∙ h) ∙ cmp_is y z);
}
