use Rattle.std.proofs.Common.{sym, subst}
use Rattle.std.specs.Option.{option_copied}
use Rattle.qs_update.specs.Effect.{removed_by}
use Rattle.qs_update.specs.Request.{IsApplied}
use Rattle.qs_update.proofs.ByEffect.{put_over_other}
use Rattle.qs_update.proofs.whole_graphs.put_over.Goals as goal

pub returns-in-Ok-clause-outcome : goal.returns-in-Ok-clause-outcome
returns-in-Ok-clause-outcome c =
    let held = c.args.draft.now.store.now in
    let from = option_copied c.args.from in
    let to = option_copied c.args.to in
    let removed = removed_by c.args.removal from to held.draft.quads in
    let done = c.in-Ok.ensures in
    subst (λ e. IsApplied held.limit held.draft e c.transfer.new.self.store.now.draft) (sym (put_over_other removed from to held.draft.quads held.draft.next c.requires.differ))
    record { room = done.full; quads = done.quads; next = done.next; known = done.known }
