use Rattle.qs_store.specs.Change.{IsChanged}
use Rattle.qs_store.proofs.Copied.{changed_permuted, done_so}
use Rattle.qs_store.proofs.layers.Layers.change.Goals as goal

pub returns-clause-draft : goal.returns-clause-draft
returns-clause-draft c =
    let old = c.args.self.now.draft in
    let outs = c.args.outs.now in
    let ins = c.args.ins.now in
    let new = c.change_sorted.new.self.draft in
    done_so (IsChanged old c.sort.new.entries c.sort-2.new.entries new) (IsChanged old outs ins new) c.change_sorted.result
    (λ w. changed_permuted old outs ins c.sort.new.entries c.sort-2.new.entries new c.sort.ensures.permutation c.sort-2.ensures.permutation w) c.change_sorted.ensures.draft
