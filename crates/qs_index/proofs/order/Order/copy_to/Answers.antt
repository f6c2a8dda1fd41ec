use Rattle.std.proofs.Common.{length, arith, ap, ◌∙◌}
use Rattle.qs_index.specs.inner.Entry.{run_of}
use Rattle.qs_index.specs.inner.Layout.{joined}
use Rattle.qs_index.proofs.Runs.{run_of_none}
use Rattle.qs_index.proofs.order.Order.copy_to.Goals as goal

pub copy-requires-clause-batch : goal.copy-requires-clause-batch
copy-requires-clause-batch c =
    let all = joined c.self.inside.pages.pages in
    omega (arith, ap length (ap (λ p. run_of p all) c.new.ensures ∙ run_of_none all ∙ ap (λ s. s.entries) c.self.view_is), c.requires)

pub returns-clause-entries : goal.returns-clause-entries
returns-clause-entries c =
    let all = joined c.self.inside.pages.pages in
    c.copy.ensures.entries ∙ ap (λ p. run_of p all) c.new.ensures ∙ run_of_none all ∙ ap (λ s. s.entries) c.self.view_is
