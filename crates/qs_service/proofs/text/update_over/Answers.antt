use Rattle.qs_update.specs.Request.{bounds_of}
use Rattle.qs_service.proofs.Texts.{changes}
use Rattle.qs_service.proofs.text.update_over.Goals as goal

pub returns-clause-changes : goal.returns-clause-changes
returns-clause-changes c =
    changes (bounds_of c.args.max_rows c.args.store.now) c.args.text.now c.args.store.now.base c.update.new.store.base c.update.result c.update.ensures.accepted c.update.ensures.refused c.update.ensures.fault
