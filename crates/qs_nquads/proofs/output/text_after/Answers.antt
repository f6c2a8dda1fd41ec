use Rattle.std.proofs.Common.{◌≡◌, ◌++◌, ◌∙◌, ℕ, List, IfOk, ap, subst}
use Rattle.qs_nquads.specs.inner.Joined.{joined}
use Rattle.qs_nquads.proofs.Sorting.{written}
use Rattle.qs_nquads.proofs.output.text_after.Goals as goal

pub returns : goal.returns
returns c =
    subst (λ (l : List ℕ). IfOk c.join.result (λ v. v.items ≡ c.args.before.items ++ l))
    (ap joined c.as_slice.ensures.value ∙ (ap joined c.in_ok-lines.ensures ∙ written c.args.quads.now)) c.join.ensures
