use Rattle.qs_terms.specs.Term.{same_term}
use Rattle.qs_terms.specs.declared.term.Term.TheVariants as term_is
use Rattle.qs_paths_meaning.specs.Steps.{along}
use Rattle.qs_paths.specs.inner.Nodes.{named_end, named_pairs}
use Rattle.qs_paths.specs.inner.Scans.{edges_in}
use Rattle.qs_paths.specs.inner.Seen.{graph_in}
use Rattle.qs_paths.proofs.Opening.{opens_plain}
use Rattle.qs_paths.proofs.stretch.of_iri.Goals as goal

pub returns : goal.returns
returns g c name n ps h = record {
  left =
      opens_plain ps (along (same_term (term_is.Iri c.args.iri.now)) (graph_in g.V.View.content g.V.View.default_seen c.args.edges.now) (named_end name c.args.left) (named_end name c.args.right)) (named_pairs name (edges_in c.in_ok-scan.scan)) h
      (c.in_ok-scan.ensures name n);
}
