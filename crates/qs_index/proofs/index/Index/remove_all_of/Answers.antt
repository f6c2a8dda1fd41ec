use Rattle.std.proofs.Common.{length, arith, ap}
use Rattle.qs_index.specs.inner.Graph.{named_entries}
use Rattle.qs_index.specs.declared.permutation.Permutation.TheVariants.{Gpos, Gosp}
use Rattle.qs_index.proofs.OtherOrders.{few_named, lengths_of, order_without_all}
use Rattle.qs_index.proofs.Turned.{IsOrderOf-itself}
use Rattle.qs_index.proofs.index.Index.remove_all_of.Goals as goal

pub remove_all_of-requires-2 : goal.remove_all_of-requires-2
remove_all_of-requires-2 c =
    let n = lengths_of c.other.inside.gspo.entries c.other.inside.gpos.entries c.other.inside.gosp.entries c.other.inside.named c.other.invariant in
    let v = ap (λ s. length s.entries) c.other.view_is in
    let m = ap (λ s. length (named_entries s.entries)) c.other.view_is in
    omega (arith, n.predicate, c.requires, c.remove_all_of.ensures.long)

pub remove_all_of-requires-3 : goal.remove_all_of-requires-3
remove_all_of-requires-3 c =
    let n = lengths_of c.other.inside.gspo.entries c.other.inside.gpos.entries c.other.inside.gosp.entries c.other.inside.named c.other.invariant in
    let v = ap (λ s. length s.entries) c.other.view_is in
    let m = ap (λ s. length (named_entries s.entries)) c.other.view_is in
    omega (arith, n.object, c.requires, c.remove_all_of.ensures.long, c.remove_all_of-2.ensures.long)

pub remove_all_of-requires-4-clause-subject : goal.remove_all_of-requires-4-clause-subject
remove_all_of-requires-4-clause-subject c =
    let n = lengths_of c.other.inside.gspo.entries c.other.inside.gpos.entries c.other.inside.gosp.entries c.other.inside.named c.other.invariant in
    let v = ap (λ s. length s.entries) c.other.view_is in
    let m = ap (λ s. length (named_entries s.entries)) c.other.view_is in
    omega (arith, n.named_subject, c.requires, c.remove_all_of.ensures.long, c.remove_all_of-2.ensures.long, c.remove_all_of-3.ensures.long, few_named c.other.inside.gspo.entries)

pub remove_all_of-requires-4-clause-predicate : goal.remove_all_of-requires-4-clause-predicate
remove_all_of-requires-4-clause-predicate c =
    let n = lengths_of c.other.inside.gspo.entries c.other.inside.gpos.entries c.other.inside.gosp.entries c.other.inside.named c.other.invariant in
    let v = ap (λ s. length s.entries) c.other.view_is in
    let m = ap (λ s. length (named_entries s.entries)) c.other.view_is in
    omega (arith, n.named_predicate, c.requires, c.remove_all_of.ensures.long, c.remove_all_of-2.ensures.long, c.remove_all_of-3.ensures.long, few_named c.other.inside.gspo.entries)

pub remove_all_of-requires-4-clause-object : goal.remove_all_of-requires-4-clause-object
remove_all_of-requires-4-clause-object c =
    let n = lengths_of c.other.inside.gspo.entries c.other.inside.gpos.entries c.other.inside.gosp.entries c.other.inside.named c.other.invariant in
    let v = ap (λ s. length s.entries) c.other.view_is in
    let m = ap (λ s. length (named_entries s.entries)) c.other.view_is in
    omega (arith, n.named_object, c.requires, c.remove_all_of.ensures.long, c.remove_all_of-2.ensures.long, c.remove_all_of-3.ensures.long, few_named c.other.inside.gspo.entries)

pub invariant_of-self : goal.invariant_of-self
invariant_of-self c =
    let i = c.self.invariant in
    let d = c.other.invariant in
    let u = c.remove_all_of.ensures.difference in
    record {
      entries = λ x m. i.entries x (u.only x m);
      by_subject = IsOrderOf-itself c.remove_all_of.new.self.entries u.ascending;
      by_predicate = order_without_all Gpos c.self.inside.gspo.entries c.other.inside.gspo.entries c.remove_all_of.new.self.entries c.self.inside.gpos.entries c.other.inside.gpos.entries c.remove_all_of-2.new.self.entries u d.by_predicate c.remove_all_of-2.ensures.difference i.by_predicate;
      by_object = order_without_all Gosp c.self.inside.gspo.entries c.other.inside.gspo.entries c.remove_all_of.new.self.entries c.self.inside.gosp.entries c.other.inside.gosp.entries c.remove_all_of-3.new.self.entries u d.by_object c.remove_all_of-3.ensures.difference i.by_object;
      of_named = c.remove_all_of-4.ensures.orders c.self.inside.gspo.entries c.other.inside.gspo.entries c.remove_all_of.new.self.entries u d.of_named i.of_named;
    }
