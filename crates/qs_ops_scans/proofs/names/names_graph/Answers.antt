use Rattle.qs_ops_scans.proofs.Named.{scratch_names}
use Rattle.qs_ops_scans.proofs.names.names_graph.Goals as goal

pub returns-in-Known : goal.returns-in-Known
returns-in-Known g c table name t is = c.has_quads.ensures name c.content_is_lawful.ensures (rw c.in-Known.is at is)

pub returns-in-Scratch : goal.returns-in-Scratch
returns-in-Scratch g c table name t is = scratch_names (g.V.View.content c.args.view.now) table name c.in-Scratch.field-0 c.content_is_lawful.ensures t (rw c.in-Scratch.is at is)
