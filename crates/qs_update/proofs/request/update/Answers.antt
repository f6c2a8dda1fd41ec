use Rattle.qs_update.proofs.request.update.Goals as goal

pub taken-done-requires : goal.taken-done-requires
taken-done-requires c = c.updates_write_no_blank_rows.ensures c.args.text.now c.in_ok-update.update c.in_ok-update.ensures.outcome
