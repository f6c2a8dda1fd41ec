use Rattle.std.proofs.Common.{sym, ◌∙◌}
use Rattle.qs_terms.specs.Term.{same_term}
use Rattle.qs_terms.specs.declared.term.Term.TheVariants as term_is
use Rattle.qs_paths.proofs.Scanned.{iri_scan, no_end, no_iri}
use Rattle.qs_paths.proofs.seen.along_scan.Goals as goal

pub returns-in_default : goal.returns-in_default
returns-in_default g c name n =
    no_iri (g.V.View.content c.args.edges.now.view.now) (g.V.View.default_seen c.args.edges.now.view.now) c.args.edges.now.active c.is_lawful.ensures.seen.lawful c.is_lawful.ensures.seen.knows name n c.is_lawful.ensures.few c.args.left c.args.right (term_is.Iri c.args.predicate.now)
    (sym c.in_default.is ∙ c.in_ok-number.ensures)

pub returns-in-Some-scanned : goal.returns-in-Some-scanned
returns-in-Some-scanned g c name n =
    iri_scan (g.V.View.content c.args.edges.now.view.now) (g.V.View.default_seen c.args.edges.now.view.now) c.args.edges.now.active c.is_lawful.ensures.seen.lawful c.is_lawful.ensures.seen.knows name n c.is_lawful.ensures.few c.args.left c.args.right (term_is.Iri c.args.predicate.now) c.in-Some.number c.in-Some-scanned.triples c.new.result.items
    (sym c.in-Some.is ∙ c.in_ok-number.ensures) c.in-Some-scanned.ensures c.new.ensures.items

pub returns-in-None : goal.returns-in-None
returns-in-None g c name n =
    no_end (g.V.View.content c.args.edges.now.view.now) (g.V.View.default_seen c.args.edges.now.view.now) c.args.edges.now.active c.is_lawful.ensures.seen.lawful c.is_lawful.ensures.seen.knows name n c.is_lawful.ensures.few c.args.left c.args.right (same_term (term_is.Iri c.args.predicate.now)) c.in-None.ensures
