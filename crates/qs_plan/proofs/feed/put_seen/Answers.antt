use Rattle.std.proofs.Common.{ℕ, List, subst}
use Rattle.std.specs.List.{AllByRecursion}
use Rattle.qs_plan.specs.inner.Feeds.{Met}
use Rattle.qs_plan.proofs.Needs.{sees_of}
use Rattle.qs_plan.proofs.feed.put_seen.Goals as goal

pub returns : goal.returns
returns c =
    sees_of c.args.size c.args.before.now c.args.stages.now c.args.conditions.now c.args.inner.now c.args.needs.now.items c.put_all.new.needs.items c.put_unbound.new.needs.items c.put_read.new.needs.items c.in_ok-touched.touched.items
    c.in_ok-put_all.ensures.covers c.in_ok-put_all.ensures.more c.in_ok-touched.ensures c.in_ok-put_unbound.ensures.covers
    (subst (λ (vs : List ℕ). AllByRecursion (Met c.args.size c.args.before.now c.put_unbound.new.needs.items) vs) c.as_slice.ensures.value c.in_ok-put_unbound.ensures.met) c.in_ok-put_read.ensures
