use Rattle.std.proofs.Common.{None, length, ap, subst, arith}
use Rattle.std.proofs.lemmas.List.Sorted.{length_permutation}
use Rattle.qs_index.specs.inner.Agreeing.{agreeing}
use Rattle.qs_index.specs.inner.Entries.{IsUnion}
use Rattle.qs_store.proofs.Cleared.{removes_agreeing, removes_none}
use Rattle.qs_store.proofs.Drafted.{union_fits}
use Rattle.qs_store.proofs.layers.remove_graph.Goals as goal

pub returns-then-are_out-clause-removes : goal.returns-then-are_out-clause-removes
returns-then-are_out-clause-removes c = removes_none c.args.graph c.args.index.now.entries c.args.removed.now.entries c.requires.removal (c.are_out.ensures (c.if-are_out.true))

pub insert_graph_of-requires-clause-batch : goal.insert_graph_of-requires-clause-batch
insert_graph_of-requires-clause-batch c =
    let taken = c.in_ok-taken.taken.items in
    let part = agreeing c.args.graph None None None c.args.index.now.entries in
    let p = length_permutation part taken c.in_ok-taken.ensures.same in
    omega (arith, p, ap length c.as_mut_slice.ensures.value)

pub insert_graph_of-requires-clause-room : goal.insert_graph_of-requires-clause-room
insert_graph_of-requires-clause-room c =
    let taken = c.in_ok-taken.taken.items in
    let part = agreeing c.args.graph None None None c.args.index.now.entries in
    let p = length_permutation part taken c.in_ok-taken.ensures.same in
    omega (arith, p, c.len.ensures, c.counts_of_graph-more.ensures.all, c.in_ok-reserve.ensures.ok)

pub insert_graph_of-requires-clause-named_room : goal.insert_graph_of-requires-clause-named_room
insert_graph_of-requires-clause-named_room c h =
    let taken = c.in_ok-taken.taken.items in
    let part = agreeing c.args.graph None None None c.args.index.now.entries in
    let p = length_permutation part taken c.in_ok-taken.ensures.same in
    omega (arith, p, c.len.ensures, c.counts_of_graph-more.ensures.named h, c.in_ok-reserve.ensures.named_ok)

pub returns-clause-removes : goal.returns-clause-removes
returns-clause-removes c =
    let part = agreeing c.args.graph None None None c.args.index.now.entries in
    removes_agreeing c.args.graph c.args.index.now.entries c.args.removed.now.entries c.insert_graph_of.new.self.entries c.in_ok-taken.ensures.four
    (subst (λ r. IsUnion r part c.insert_graph_of.new.self.entries) c.reserve.ensures.entries c.insert_graph_of.ensures.union)

pub returns-clause-room : goal.returns-clause-room
returns-clause-room c =
    let taken = c.in_ok-taken.taken.items in
    let part = agreeing c.args.graph None None None c.args.index.now.entries in
    let p = length_permutation part taken c.in_ok-taken.ensures.same in
    let f = union_fits c.reserve.new.index.entries part c.insert_graph_of.new.self.entries c.insert_graph_of.ensures.union in
    λ _. omega (arith, p, f, ap length c.reserve.ensures.entries, c.len.ensures, c.counts_of_graph-more.ensures.all, c.in_ok-most.ensures.all, c.in_ok-lengthen.ensures.ok)
