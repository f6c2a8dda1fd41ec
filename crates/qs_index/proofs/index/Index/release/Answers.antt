use Rattle.qs_index.proofs.index.Index.release.Goals as goal

pub invariant_of-self : goal.invariant_of-self
invariant_of-self c =
    let i = c.self.invariant in
    rw (c.release.ensures.entries, c.release-2.ensures.entries, c.release-3.ensures.entries) record {
      entries = i.entries;
      by_subject = i.by_subject;
      by_predicate = i.by_predicate;
      by_object = i.by_object;
      of_named = c.release-4.ensures c.self.inside.gspo.entries i.of_named;
    }
