use Rattle.std.proofs.Common.{subst}
use Rattle.qs_ops_scans.specs.inner.Prepared.{IsGraphOf}
use Rattle.qs_ops_walk.specs.inner.Setting.{Setting}
use Rattle.qs_ops_walk.proofs.reader.Reader.graph_of_look.Goals as goal

pub returns : goal.returns
returns g c = subst (λ (s : Setting). IsGraphOf s.content s.default c.args.look c.args.row.now s.active c.graph_of_look.result) c.self.view_is c.graph_of_look.ensures
