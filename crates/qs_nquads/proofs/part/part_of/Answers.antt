use Rattle.std.proofs.Common.{sym}
use Rattle.qs_nquads.proofs.part.part_of.Goals as goal

pub returns-in-Iri : goal.returns-in-Iri
returns-in-Iri c = rw (c.in-Iri.is, sym c.inside.ensures) (c.iri.ensures c.args.labels.now)
