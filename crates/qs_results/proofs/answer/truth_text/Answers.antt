use Rattle.std.proofs.Common.{refl}
use Rattle.serde_json.proofs.OnLiterals.{serde_json_on_literals}
use Rattle.qs_results.proofs.answer.truth_text.Goals as goal

pub returns-then-truth : goal.returns-then-truth
unfolding serde_json_on_literals
returns-then-truth c = rw c.if-truth.true refl

pub returns-else-truth : goal.returns-else-truth
unfolding serde_json_on_literals
returns-else-truth c = rw c.if-truth.false refl
