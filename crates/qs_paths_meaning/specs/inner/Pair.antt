-- Definitions over those of `Pair`, for proofs and the layers between.
use Rattle.std.specs.Prelude.{Bool, ◌&&◌}
use Rattle.qs_terms.specs.Term.{same_term}
use Rattle.qs_paths_meaning.specs.Pair.{Pair}

abbrev pub same_pair : Pair → Pair → Bool
same_pair a b = same_term a.left b.left && same_term a.right b.right
