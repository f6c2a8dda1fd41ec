use Rattle.qs_terms.proofs.Datatypes.{known_of-iri_of}
use Rattle.qs_terms.proofs.datatype.DatatypeHash.hash.Goals as goal

pub returns-in-Named : goal.returns-in-Named
returns-in-Named g c = rw (← c.self.view_is, c.in-Named.is, known_of-iri_of c.in-Named.known, ← c.code.ensures) c.hash.ensures
