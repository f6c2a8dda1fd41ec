use Rattle.std.proofs.Common.{◌≡◌, ◌+◌, ◌-◌, length, subst, arith}
use Rattle.std.specs.Str.{bytes_eq}
use Rattle.qs_terms.specs.Bag.{Distinct}
use Rattle.qs_store.proofs.Drafted.{drafted_once, drafted_count, removed_few}
use Rattle.qs_store.proofs.layers.Layers.draft_len.Goals as goal

pub overflow_sub-kept : goal.overflow_sub-kept
overflow_sub-kept c =
    let s = c.self.inside in
    omega (arith, removed_few s.index.entries s.removed.entries s.added.entries c.self.invariant.parted, c.len.ensures.count, c.len-2.ensures.count)

pub overflow_add-result : goal.overflow_add-result
overflow_add-result c = omega (arith, c.len.ensures.small, c.len-3.ensures.small)

pub returns-clause-count : goal.returns-clause-count
returns-clause-count c =
    let s = c.self.inside in
    let count = drafted_count s.index.entries s.removed.entries s.added.entries c.self.invariant.parted in
    let few = removed_few s.index.entries s.removed.entries s.added.entries c.self.invariant.parted in
    subst (λ v. c.len.result - c.len-2.result + c.len-3.result ≡ length v.draft) c.self.view_is (omega (arith, count, few, c.len.ensures.count, c.len-2.ensures.count, c.len-3.ensures.count))

pub returns-clause-once : goal.returns-clause-once
returns-clause-once c =
    let s = c.self.inside in
    subst (λ v. Distinct bytes_eq v.draft) c.self.view_is (drafted_once s.index.entries s.removed.entries s.added.entries c.self.invariant.parted)
