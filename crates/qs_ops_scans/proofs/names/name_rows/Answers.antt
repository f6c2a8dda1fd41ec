use Rattle.qs_ops_scans.proofs.Named.{names_made}
use Rattle.qs_ops_scans.proofs.names.name_rows.Goals as goal

pub returns : goal.returns
returns g c are = names_made (g.V.View.content c.args.view.now) c.args.numbers.items c.args.register c.args.row c.content_is_lawful.ensures are
