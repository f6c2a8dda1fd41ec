use Rattle.std.proofs.Common.{length, arith, ap, ⊎_elim}
use Rattle.qs_index.specs.inner.Graph.{named_entries}
use Rattle.qs_index.specs.declared.permutation.Permutation.TheVariants.{Gpos, Gosp}
use Rattle.qs_index.proofs.OtherOrders.{few_named, lengths_of, order_with_all}
use Rattle.qs_index.proofs.Turned.{IsOrderOf-itself}
use Rattle.qs_index.proofs.index.Index.insert_all_of.Goals as goal

pub insert_all_of-requires-2-clause-batch : goal.insert_all_of-requires-2-clause-batch
insert_all_of-requires-2-clause-batch c =
    let n = lengths_of c.other.inside.gspo.entries c.other.inside.gpos.entries c.other.inside.gosp.entries c.other.inside.named c.other.invariant in
    let v = ap (λ s. length s.entries) c.other.view_is in
    let m = ap (λ s. length (named_entries s.entries)) c.other.view_is in
    let w = ap (λ s. s.spare) c.self.view_is in
    let k = ap (λ s. s.named_spare) c.self.view_is in
    omega (arith, n.predicate, c.requires.batch, c.requires.room, c.insert_all_of.ensures.long)

pub insert_all_of-requires-2-clause-room : goal.insert_all_of-requires-2-clause-room
insert_all_of-requires-2-clause-room c =
    let n = lengths_of c.other.inside.gspo.entries c.other.inside.gpos.entries c.other.inside.gosp.entries c.other.inside.named c.other.invariant in
    let v = ap (λ s. length s.entries) c.other.view_is in
    let m = ap (λ s. length (named_entries s.entries)) c.other.view_is in
    let w = ap (λ s. s.spare) c.self.view_is in
    let k = ap (λ s. s.named_spare) c.self.view_is in
    omega (arith, n.predicate, c.requires.batch, c.requires.room, c.insert_all_of.ensures.long)

pub insert_all_of-requires-3-clause-batch : goal.insert_all_of-requires-3-clause-batch
insert_all_of-requires-3-clause-batch c =
    let n = lengths_of c.other.inside.gspo.entries c.other.inside.gpos.entries c.other.inside.gosp.entries c.other.inside.named c.other.invariant in
    let v = ap (λ s. length s.entries) c.other.view_is in
    let m = ap (λ s. length (named_entries s.entries)) c.other.view_is in
    let w = ap (λ s. s.spare) c.self.view_is in
    let k = ap (λ s. s.named_spare) c.self.view_is in
    omega (arith, n.object, c.requires.batch, c.requires.room, c.insert_all_of.ensures.long, c.insert_all_of-2.ensures.long)

pub insert_all_of-requires-3-clause-room : goal.insert_all_of-requires-3-clause-room
insert_all_of-requires-3-clause-room c =
    let n = lengths_of c.other.inside.gspo.entries c.other.inside.gpos.entries c.other.inside.gosp.entries c.other.inside.named c.other.invariant in
    let v = ap (λ s. length s.entries) c.other.view_is in
    let m = ap (λ s. length (named_entries s.entries)) c.other.view_is in
    let w = ap (λ s. s.spare) c.self.view_is in
    let k = ap (λ s. s.named_spare) c.self.view_is in
    omega (arith, n.object, c.requires.batch, c.requires.room, c.insert_all_of.ensures.long, c.insert_all_of-2.ensures.long)

pub insert_all_of-requires-4-clause-subject : goal.insert_all_of-requires-4-clause-subject
insert_all_of-requires-4-clause-subject c =
    let n = lengths_of c.other.inside.gspo.entries c.other.inside.gpos.entries c.other.inside.gosp.entries c.other.inside.named c.other.invariant in
    let v = ap (λ s. length s.entries) c.other.view_is in
    let m = ap (λ s. length (named_entries s.entries)) c.other.view_is in
    let w = ap (λ s. s.spare) c.self.view_is in
    let k = ap (λ s. s.named_spare) c.self.view_is in
    omega (arith, n.named_subject, c.requires.batch, c.requires.named_room, c.insert_all_of.ensures.long, c.insert_all_of-2.ensures.long, c.insert_all_of-3.ensures.long, few_named c.other.inside.gspo.entries)

pub insert_all_of-requires-4-clause-predicate : goal.insert_all_of-requires-4-clause-predicate
insert_all_of-requires-4-clause-predicate c =
    let n = lengths_of c.other.inside.gspo.entries c.other.inside.gpos.entries c.other.inside.gosp.entries c.other.inside.named c.other.invariant in
    let v = ap (λ s. length s.entries) c.other.view_is in
    let m = ap (λ s. length (named_entries s.entries)) c.other.view_is in
    let w = ap (λ s. s.spare) c.self.view_is in
    let k = ap (λ s. s.named_spare) c.self.view_is in
    omega (arith, n.named_predicate, c.requires.batch, c.requires.named_room, c.insert_all_of.ensures.long, c.insert_all_of-2.ensures.long, c.insert_all_of-3.ensures.long, few_named c.other.inside.gspo.entries)

pub insert_all_of-requires-4-clause-object : goal.insert_all_of-requires-4-clause-object
insert_all_of-requires-4-clause-object c =
    let n = lengths_of c.other.inside.gspo.entries c.other.inside.gpos.entries c.other.inside.gosp.entries c.other.inside.named c.other.invariant in
    let v = ap (λ s. length s.entries) c.other.view_is in
    let m = ap (λ s. length (named_entries s.entries)) c.other.view_is in
    let w = ap (λ s. s.spare) c.self.view_is in
    let k = ap (λ s. s.named_spare) c.self.view_is in
    omega (arith, n.named_object, c.requires.batch, c.requires.named_room, c.insert_all_of.ensures.long, c.insert_all_of-2.ensures.long, c.insert_all_of-3.ensures.long, few_named c.other.inside.gspo.entries)

pub invariant_of-self : goal.invariant_of-self
invariant_of-self c =
    let i = c.self.invariant in
    let d = c.other.invariant in
    let u = c.insert_all_of.ensures.union in
    record {
      entries = λ x m. ⊎_elim (λ l. i.entries x l) (λ r. d.entries x r) (u.only x m);
      by_subject = IsOrderOf-itself c.insert_all_of.new.self.entries u.ascending;
      by_predicate = order_with_all Gpos c.self.inside.gspo.entries c.other.inside.gspo.entries c.insert_all_of.new.self.entries c.self.inside.gpos.entries c.other.inside.gpos.entries c.insert_all_of-2.new.self.entries u d.by_predicate c.insert_all_of-2.ensures.union i.by_predicate;
      by_object = order_with_all Gosp c.self.inside.gspo.entries c.other.inside.gspo.entries c.insert_all_of.new.self.entries c.self.inside.gosp.entries c.other.inside.gosp.entries c.insert_all_of-3.new.self.entries u d.by_object c.insert_all_of-3.ensures.union i.by_object;
      of_named = c.insert_all_of-4.ensures.orders c.self.inside.gspo.entries c.other.inside.gspo.entries c.insert_all_of.new.self.entries u d.of_named i.of_named;
    }

pub returns-clause-spare : goal.returns-clause-spare
returns-clause-spare c =
    let n = lengths_of c.other.inside.gspo.entries c.other.inside.gpos.entries c.other.inside.gosp.entries c.other.inside.named c.other.invariant in
    let v = ap (λ s. length s.entries) c.other.view_is in
    let m = ap (λ s. length (named_entries s.entries)) c.other.view_is in
    let w = ap (λ s. s.spare) c.self.view_is in
    omega (arith, n.predicate, n.object, c.insert_all_of.ensures.spare, c.insert_all_of-2.ensures.spare, c.insert_all_of-3.ensures.spare)

pub returns-clause-named_spare : goal.returns-clause-named_spare
returns-clause-named_spare c =
    let n = lengths_of c.other.inside.gspo.entries c.other.inside.gpos.entries c.other.inside.gosp.entries c.other.inside.named c.other.invariant in
    let v = ap (λ s. length s.entries) c.other.view_is in
    let m = ap (λ s. length (named_entries s.entries)) c.other.view_is in
    let w = ap (λ s. s.named_spare) c.self.view_is in
    let s = c.insert_all_of-4.ensures.spare (length (named_entries c.other.inside.gspo.entries)) (omega (arith, n.named_subject)) (omega (arith, n.named_predicate)) (omega (arith, n.named_object)) in
    omega (arith, s)
