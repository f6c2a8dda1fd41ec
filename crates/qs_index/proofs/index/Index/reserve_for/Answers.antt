use Rattle.qs_index.proofs.index.Index.reserve_for.Goals as goal

pub invariant_of-self-2 : goal.invariant_of-self-2
invariant_of-self-2 c =
    let i = c.self.invariant in
    rw (c.reserve.ensures.entries, c.reserve-2.ensures.entries, c.reserve-3.ensures.entries) record {
      entries = i.entries;
      by_subject = i.by_subject;
      by_predicate = i.by_predicate;
      by_object = i.by_object;
      of_named = c.reserve-4.ensures.orders c.self.inside.gspo.entries i.of_named;
    }
