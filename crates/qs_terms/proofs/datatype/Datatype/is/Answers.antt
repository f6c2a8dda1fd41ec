use Rattle.std.proofs.Common.{◌∙◌, sym}
use Rattle.qs_terms.proofs.Datatypes.{same_known, unknown_iri}
use Rattle.qs_terms.proofs.datatype.Datatype.is.Goals as goal

pub returns-in-Named : goal.returns-in-Named
returns-in-Named c = rw (← c.self.view_is, c.in-Named.is) (c.eq.ensures ∙ same_known c.in-Named.known c.args.name)

pub returns-in-Other : goal.returns-in-Other
returns-in-Other c = rw (← c.self.view_is, c.in-Other.is) (sym (unknown_iri _ c.args.name (rw c.in-Other.is at c.self.invariant)))
