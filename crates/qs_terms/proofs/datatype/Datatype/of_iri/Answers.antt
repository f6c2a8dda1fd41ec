use Rattle.std.proofs.Common.{◌∙◌, sym, ap, refl}
use Rattle.qs_terms.specs.inner.Datatype.{untagged}
use Rattle.qs_terms.specs.declared.datatype.Known.TheVariants.{LangString}
use Rattle.qs_terms.proofs.Datatypes.{known_iri, unknown_iri, is_unknown}
use Rattle.qs_terms.proofs.datatype.Datatype.of_iri.Goals as goal

pub returns-in-Some-clause-answer : goal.returns-in-Some-clause-answer
returns-in-Some-clause-answer c =
    c.untagged.ensures.answer ∙ ap untagged (sym (known_iri c.args.iri c.in-Some.known (sym (rw c.text.ensures.text at c.in-Some.ensures))))

pub returns-in-None-clause-answer : goal.returns-in-None-clause-answer
returns-in-None-clause-answer c =
    rw (unknown_iri c.args.iri LangString (is_unknown c.args.iri (rw c.text.ensures.text at c.in-None.ensures))) refl

pub returns-in-None-clause-lawful : goal.returns-in-None-clause-lawful
returns-in-None-clause-lawful c =
    rw (c.text.ensures.lawful, unknown_iri c.args.iri LangString (is_unknown c.args.iri (rw c.text.ensures.text at c.in-None.ensures))) refl
