use Rattle.std.proofs.Common.{refl}
use Rattle.std.specs.List.{flat_map}
use Rattle.qs_store.specs.Change.{terms_of, with_terms_of}
use Rattle.qs_store.proofs.Stored.{knows_terms}
use Rattle.qs_store.proofs.Terms.{front_terms}
use Rattle.qs_store.proofs.same_set.quads_make_their_terms_known.Goals as goal

pub returns : goal.returns
returns c = λ known quads. knows_terms known (with_terms_of known quads) quads (front_terms known (flat_map terms_of quads)) refl
