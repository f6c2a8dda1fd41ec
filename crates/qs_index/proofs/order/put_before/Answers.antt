use Rattle.std.proofs.Common.{ap, ◌∙◌}
use Rattle.qs_index.specs.inner.Layout.{joined}
use Rattle.qs_index.proofs.EntryEdits.{put_in_order}
use Rattle.qs_index.proofs.Spares.{room_put}
use Rattle.qs_index.proofs.order.put_before.Goals as goal

pub returns-clause-entries : goal.returns-clause-entries
returns-clause-entries c =
    ap joined c.put.ensures.pages ∙ put_in_order c.args.entry c.args.pages.now.pages c.args.place.page c.args.place.at c.requires.page c.requires.at c.requires.before

pub returns-clause-room : goal.returns-clause-room
returns-clause-room c =
    rw (c.put.ensures.pages, c.put.ensures.spare) (room_put c.args.pages.now.pages c.args.pages.now.spare c.args.place.page c.args.place.at c.args.entry c.requires.page c.requires.at)
