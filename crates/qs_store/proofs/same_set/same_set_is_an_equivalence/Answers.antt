use Rattle.qs_store.proofs.Sets.{set_refl, set_sym, set_trans, set_of_bag}
use Rattle.qs_store.proofs.same_set.same_set_is_an_equivalence.Goals as goal

pub returns : goal.returns
returns c = record {
  reflexive = λ a. set_refl a;
  symmetric = λ a b e. set_sym a b e;
  transitive = λ a b d e f. set_trans a b d e f;
  carries = λ a b q e m. (e q).0 m;
  of_bags = λ a b e. set_of_bag a b e;
}
