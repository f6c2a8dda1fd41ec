use Rattle.qs_nquads.proofs.PlainStrings.{goes_on_as_object}
use Rattle.qs_nquads.proofs.statement_state.at_form.Goals as goal

pub returns-in-Iri : goal.returns-in-Iri
returns-in-Iri c =
    goes_on_as_object c.args.subject c.args.predicate c.args.form c.args.part c.in_ok-literal-in-Iri.literal c.in-Iri.is c.in_ok-literal-in-Iri.ensures c.at_object.result c.at_object.new.place
    c.at_object.ensures
