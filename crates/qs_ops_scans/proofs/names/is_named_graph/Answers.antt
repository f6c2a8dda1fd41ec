use Rattle.std.proofs.Common.{◌∙◌, sym}
use Rattle.qs_ops_scans.proofs.Named.{numbered_term, unnumbered_names}
use Rattle.qs_ops_scans.proofs.names.is_named_graph.Goals as goal

pub returns-in-Some : goal.returns-in-Some
returns-in-Some g c =
    c.has_quads.ensures c.args.name.now c.content_is_lawful.ensures
    (numbered_term (g.V.View.content c.args.view.now) c.args.name.now c.in-Some.number c.content_is_lawful.ensures (sym c.find.ensures ∙ c.in-Some.is))

pub returns-in-None : goal.returns-in-None
returns-in-None g c =
    unnumbered_names (g.V.View.content c.args.view.now) c.args.name.now c.content_is_lawful.ensures (sym c.find.ensures ∙ c.in-None.is)
