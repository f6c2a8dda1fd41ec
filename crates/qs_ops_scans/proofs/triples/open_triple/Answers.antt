use Rattle.qs_plan_meaning.specs.inner.Scans.{extensions}
use Rattle.qs_ops_scans.proofs.Looks.{made_in}
use Rattle.qs_ops_scans.proofs.triples.open_triple.Goals as goal

pub returns : goal.returns
returns g c place p e f table is_table h =
    made_in (g.V.View.content c.args.view.now) table _ _ place (extensions p) c.args.row c.triple_rows.result (c.graph_of_look-graph.ensures place table e is_table h) (c.triple_rows.ensures p f table is_table h)
