use Rattle.qs_update.proofs.Quads.{iris_of}
use Rattle.qs_update.proofs.draft.next_blank.Goals as goal

pub returns-clause-predicates : goal.returns-clause-predicates
returns-clause-predicates c = iris_of c.quads_are_told_one_by_one.ensures.predicates c.args.draft.now.store.now.draft.quads c.terms.ensures.places
