use Rattle.std.proofs.Common.{Ok, rules}
use Rattle.qs_update.proofs.Turns.{rebased, same_content}
use Rattle.qs_update.proofs.request.taken.Goals as goal

pub returns-in-Ok-clause-accepted : goal.returns-in-Ok-clause-accepted
returns-in-Ok-clause-accepted c =
    let given = c.draft-draft.ensures in
    let made = c.operate_all.new.draft.store.now.draft in (
      made,
      rebased c.args.max_rows c.args.store.now c.draft-draft.result.store.now given.draft given.limit given.default_graph c.args.update.now.operations (Ok made) c.in-Ok.ensures.outcome,
      same_content _ made c.commit.new.self.0.base.quads (search rules) c.commit.ensures.quads (search rules) (search rules),
    )
