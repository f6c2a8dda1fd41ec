use Rattle.std.proofs.Common.{◌≡◌, ◌≤◌, length, drop, ap, sym, subst, arith}
use Rattle.std.proofs.lemmas.Bool.{eqb-true}
use Rattle.qs_index.specs.inner.Graph.{named_entries}
use Rattle.qs_store.specs.inner.Emptied.{AreEmptied}
use Rattle.qs_store.specs.Change.{IsChanged}
use Rattle.qs_store.specs.inner.Missing.{IsMissing, MayBeMissing}
use Rattle.qs_store.specs.inner.Layers.{drafted, IsDraft, IsPartOf}
use Rattle.qs_store.proofs.Drafted.{none_taken, steps_of, parted_after, members_after, union_fits, union_with_fits, difference_fits, named_union_with_fits, named_difference_fits, written}
use Rattle.qs_store.proofs.Out.{still_out}
use Rattle.qs_store.proofs.layers.Layers.change_sorted.Goals as goal

pub put_missing-requires-clause-missing : goal.put_missing-requires-clause-missing
put_missing-requires-clause-missing c h =
    let s = c.self.inside in
    let taken = c.in_ok-taken.taken.items in
    let put = c.in_ok-put.put.items in
    let part = subst (λ z. IsPartOf c.args.ins.now put (MayBeMissing s.index.entries s.removed.entries z)) c.deref.ensures.value c.in_ok-put.ensures in
    let empty : c.count-more_removed.result.all ≡ 0 = eqb-true _ _ h in
    let none : length taken ≡ 0 = omega (arith, empty, c.count-more_removed.ensures.all, ap length c.deref-2.ensures.value) in
    λ x m. none_taken s.index.entries s.removed.entries c.make_room.new.removed.entries c.as_mut_slice.result.now c.insert_all.new.self.entries c.make_room.new.index.entries taken put c.as_mut_slice-3.result.now x
    c.make_room.ensures.index c.make_room.ensures.removed c.as_mut_slice-3.ensures.value c.insert_all.ensures.union (λ y k. (part.only y k).1) none m

pub invariant_of-self-2 : goal.invariant_of-self-2
invariant_of-self-2 c =
    let s = c.self.inside in
    let i = c.self.invariant in
    let base = s.index.entries in
    let outs = c.args.outs.now in
    let ins = c.args.ins.now in
    let taken = c.in_ok-taken.taken.items in
    let put = c.in_ok-put.put.items in
    let r1 = c.insert_all.new.self.entries in
    let a1 = c.remove_all.new.self.entries in
    let a2 = c.put_missing.new.added.entries in
    let part = subst (λ z. IsPartOf ins put (MayBeMissing base s.removed.entries z)) c.deref.ensures.value c.in_ok-put.ensures in
    let t = steps_of base s.removed.entries s.added.entries outs ins taken put
    c.make_room.new.index.entries c.make_room.new.removed.entries c.make_room.new.added.entries c.as_mut_slice.result.now c.as_mut_slice-3.result.now r1 a1 a2
    c.in_ok-taken.ensures part c.make_room.ensures.index c.make_room.ensures.removed c.make_room.ensures.added c.as_mut_slice.ensures.value c.as_mut_slice-3.ensures.value c.remove_all.ensures.difference c.insert_all.ensures.union c.put_missing.ensures.union in
    let p = parted_after base s.removed.entries s.added.entries outs ins taken put r1 a1 a2 i.parted t in
    let l1 = difference_fits s.added.entries outs a1 t.a_less in
    let l2 = union_with_fits a1 put a2 (IsMissing base r1) t.a_more in
    let l3 = union_fits s.removed.entries taken r1 t.r_more in
    let n1 = named_difference_fits s.added.entries outs a1 t.a_less in
    let n2 = named_union_with_fits a1 put a2 (IsMissing base r1) t.a_more in
    let taken_len = ap length c.deref-2.ensures.value in
    let put_len = ap length c.deref-3.ensures.value in
    let named_put = ap (λ l. length (named_entries l)) c.deref-3.ensures.value in
    let slice_len = ap length c.as_mut_slice-2.ensures.value in
    let batch = c.put_missing.new.batch in
    let whole = written c.make_room.new.batch.len batch (drop (length batch) c.make_room.new.batch.items) (omega (arith, c.put_missing.auto.batch, slice_len, c.as_mut_slice-2.ensures.len)) in
    record {
      parted = subst (λ z. IsDraft z r1 a2) (sym c.make_room.ensures.index) p;
      out = subst (λ z. AreEmptied z r1 s.emptied) (sym c.make_room.ensures.index) (still_out base s.removed.entries r1 s.emptied t.r_more.has_old i.out);
      spare = omega (arith, l1, l2, put_len, c.count-more_added.ensures.all, c.in_ok-make_room.ensures.for_index);
      named_spare = omega (arith, n1, n2, named_put, c.count-more_added.ensures.named, c.in_ok-make_room.ensures.for_named);
      removed_room = subst (λ l. length r1 ≤ length l) (sym whole) (omega (arith, c.put_missing.auto.batch, slice_len, l3, taken_len, c.count-more_removed.ensures.all, c.in_ok-make_room.ensures.removed_batch));
      added_room = subst (λ l. length a2 ≤ length l) (sym whole) (omega (arith, c.put_missing.auto.batch, slice_len, l1, l2, put_len, c.count-more_added.ensures.all, c.in_ok-make_room.ensures.added_batch));
    }

pub returns-clause-draft : goal.returns-clause-draft
returns-clause-draft c =
    let s = c.self.inside in
    let i = c.self.invariant in
    let base = s.index.entries in
    let outs = c.args.outs.now in
    let ins = c.args.ins.now in
    let taken = c.in_ok-taken.taken.items in
    let put = c.in_ok-put.put.items in
    let r1 = c.insert_all.new.self.entries in
    let a1 = c.remove_all.new.self.entries in
    let a2 = c.put_missing.new.added.entries in
    let part = subst (λ z. IsPartOf ins put (MayBeMissing base s.removed.entries z)) c.deref.ensures.value c.in_ok-put.ensures in
    let t = steps_of base s.removed.entries s.added.entries outs ins taken put
    c.make_room.new.index.entries c.make_room.new.removed.entries c.make_room.new.added.entries c.as_mut_slice.result.now c.as_mut_slice-3.result.now r1 a1 a2
    c.in_ok-taken.ensures part c.make_room.ensures.index c.make_room.ensures.removed c.make_room.ensures.added c.as_mut_slice.ensures.value c.as_mut_slice-3.ensures.value c.remove_all.ensures.difference c.insert_all.ensures.union c.put_missing.ensures.union in
    let m = members_after base s.removed.entries s.added.entries outs ins taken put r1 a1 a2 i.parted t in
    subst (λ v. IsChanged v.draft outs ins (drafted c.make_room.new.index.entries r1 a2)) c.self.view_is
    (subst (λ z. IsChanged (drafted base s.removed.entries s.added.entries) outs ins (drafted z r1 a2)) (sym c.make_room.ensures.index) m)
