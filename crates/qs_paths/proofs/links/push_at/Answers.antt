use Rattle.qs_paths.proofs.LinkLaws.{rows_put}
use Rattle.qs_paths.proofs.links.push_at.Goals as goal

pub returns : goal.returns
returns c = rows_put c.args.rows.now.items c.args.at c.args.number c.index_mut-row.result.now c.push.new.self c.requires c.index_mut-row.ensures.value c.in_ok-push.ensures.items
