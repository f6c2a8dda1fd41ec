use Rattle.qs_lex_escapes.proofs.SpelledEscapes.{lawful_iri}
use Rattle.qs_lex_escapes.proofs.Tags.{lawful_tag}
use Rattle.qs_lex_escapes.proofs.laws.spelled_texts_are_lawful.Goals as goal

pub returns-clause-escapes : goal.returns-clause-escapes
returns-clause-escapes c = λ x s. (lawful_iri x s).0

pub returns-clause-iri : goal.returns-clause-iri
returns-clause-iri c = λ x s. (lawful_iri x s).1

pub returns-clause-tag : goal.returns-clause-tag
returns-clause-tag c = lawful_tag
