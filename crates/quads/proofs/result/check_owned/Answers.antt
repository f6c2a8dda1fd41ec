use Rattle.std.proofs.Common.{List, ℕ, subst}
use Rattle.quads.specs.inner.JobResult.{IsCheckResult}
use Rattle.quads.proofs.result.check_owned.Goals as goal

pub returns : goal.returns
returns c = subst (λ (l : List ℕ). IsCheckResult l c.check_result-checked.result) c.as_slice.ensures.value c.check_result-checked.ensures
