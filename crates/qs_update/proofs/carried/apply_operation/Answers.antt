use Rattle.qs_update.proofs.Turns.{applied}
use Rattle.qs_update.proofs.carried.apply_operation.Goals as goal

pub returns-in-Ok-clause-outcome : goal.returns-in-Ok-clause-outcome
returns-in-Ok-clause-outcome c =
    let s = c.args.draft.now.store.now in
    let done = c.in-Ok.ensures in
    applied s.limit s.draft c.change.new.self.store.now.draft c.args.effect.now c.as_slice.result.now c.as_slice-2.result.now c.as_slice.ensures c.as_slice-2.ensures done.full done.quads done.next done.known
