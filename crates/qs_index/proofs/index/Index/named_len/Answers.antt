use Rattle.std.proofs.Common.{length, ap, ◌∙◌}
use Rattle.qs_index.specs.inner.Graph.{is_named, named_entries}
use Rattle.qs_index.specs.declared.permutation.Permutation.TheVariants.{Spog}
use Rattle.qs_index.proofs.Distinct.{IsAscending-filter}
use Rattle.qs_index.proofs.Turned.{order_length}
use Rattle.qs_index.proofs.index.Index.named_len.Goals as goal

pub returns-clause-count : goal.returns-clause-count
returns-clause-count c =
    let i = c.self.invariant in
    let xs = c.self.inside.gspo.entries in
    c.len.ensures.count ∙ order_length Spog (named_entries xs) c.self.inside.named.by_subject (IsAscending-filter is_named xs i.by_subject.ascending) i.of_named.subject ∙ ap (λ s. length (named_entries s.entries)) c.self.view_is
