use Rattle.std.proofs.Common.{subst}
use Rattle.qs_store.specs.Change.{IsChanged}
use Rattle.qs_store.proofs.store.Store.change.Goals as goal

pub returns-in-Ok-clause-quads : goal.returns-in-Ok-clause-quads
returns-in-Ok-clause-quads c =
    let mid = c.change_draft.new.self.draft.quads in
    let w : IsChanged c.args.self.now.base.quads c.args.remove.now c.args.add.now mid = subst (λ v. IsChanged v.quads c.args.remove.now c.args.add.now mid) c.reset.ensures.draft c.in-Ok.ensures.quads in
    λ q. (λ m. (w q).0 ((c.settle.ensures.quads q).0 m), λ m. (c.settle.ensures.quads q).1 ((w q).1 m))
