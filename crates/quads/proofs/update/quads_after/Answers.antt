use Rattle.quads.proofs.Updates.{held_after}
use Rattle.quads.proofs.update.quads_after.Goals as goal

pub returns-in-Ok-clause-done : goal.returns-in-Ok-clause-done
returns-in-Ok-clause-done c =
    held_after (λ v. v.items) c.args.store.now.default_graph c.args.text.now c.args.store.now.base c.text_update.new.store.base c.quads_of.result c.same_set_is_an_equivalence.ensures.transitive c.in-Ok.ensures c.quads_of.ensures.same
