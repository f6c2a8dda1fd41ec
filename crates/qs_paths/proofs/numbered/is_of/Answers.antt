use Rattle.std.proofs.Common.{Some, ◌∙◌, ap}
use Rattle.qs_terms.specs.declared.term.Term.TheVariants as term_is
use Rattle.qs_dict.proofs.Numbers.{exact_number}
use Rattle.qs_paths.proofs.numbered.is_of.Goals as goal

pub returns-in-Iri : goal.returns-in-Iri
returns-in-Iri g c same =
    (exact_number (g.V.View.content c.args.view.now).known (term_is.Iri c.args.iri.now) c.count-count.ensures.lawful.terms_once c.args.number).1
    (c.term.ensures ∙ ap Some (c.in-Iri.is ∙ ap term_is.Iri (c.is_same.ensures.0 same)))
