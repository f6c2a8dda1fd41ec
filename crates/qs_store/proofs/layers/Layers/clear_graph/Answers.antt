use Rattle.std.proofs.Common.{arith, subst}
use Rattle.qs_store.specs.inner.Copied.{IsWithoutGraph}
use Rattle.qs_store.specs.inner.Layers.{drafted}
use Rattle.qs_store.proofs.Cleared.{cleared_members, cleared_parted, keeps_others}
use Rattle.qs_store.proofs.Drafted.{difference_fits, named_difference_fits}
use Rattle.qs_store.proofs.Out.{removal, still_out}
use Rattle.qs_store.proofs.layers.Layers.clear_graph.Goals as goal

pub remove_graph-requires-clause-removal : goal.remove_graph-requires-clause-removal
remove_graph-requires-clause-removal c =
    let s = c.self.inside in
    removal s.index.entries s.removed.entries s.added.entries c.self.invariant.parted

pub invariant_of-self-2 : goal.invariant_of-self-2
invariant_of-self-2 c =
    let s = c.self.inside in
    let g = c.args.graph in
    let r1 = c.remove_graph.new.removed.entries in
    let a1 = c.remove_all.new.self.entries in
    let r = c.in_ok-remove_graph.ensures.removes in
    let k = keeps_others g s.added.entries c.in_ok-outs.outs.items c.as_mut_slice.result.now a1 c.in_ok-outs.ensures.four c.in_ok-outs.ensures.same c.as_mut_slice.ensures.value c.remove_all.ensures.difference in
    let i = c.self.invariant in
    let l = difference_fits s.added.entries c.as_mut_slice.result.now a1 c.remove_all.ensures.difference in
    let n = named_difference_fits s.added.entries c.as_mut_slice.result.now a1 c.remove_all.ensures.difference in
    record {
      parted = cleared_parted g s.index.entries s.removed.entries s.added.entries r1 a1 i.parted r k;
      out = still_out s.index.entries s.removed.entries r1 s.emptied r.kept i.out;
      spare = omega (arith, l, i.spare);
      named_spare = omega (arith, n, i.named_spare);
      removed_room = c.in_ok-remove_graph.ensures.room i.removed_room;
      added_room = omega (arith, l, i.added_room, c.remove_graph.ensures.kept);
    }

pub returns-clause-draft : goal.returns-clause-draft
returns-clause-draft c =
    let s = c.self.inside in
    let g = c.args.graph in
    let r1 = c.remove_graph.new.removed.entries in
    let a1 = c.remove_all.new.self.entries in
    let r = c.in_ok-remove_graph.ensures.removes in
    let k = keeps_others g s.added.entries c.in_ok-outs.outs.items c.as_mut_slice.result.now a1 c.in_ok-outs.ensures.four c.in_ok-outs.ensures.same c.as_mut_slice.ensures.value c.remove_all.ensures.difference in
    subst (λ v. IsWithoutGraph g v.draft (drafted s.index.entries r1 a1)) c.self.view_is
    (cleared_members g s.index.entries s.removed.entries s.added.entries r1 a1 c.self.invariant.parted r k)
