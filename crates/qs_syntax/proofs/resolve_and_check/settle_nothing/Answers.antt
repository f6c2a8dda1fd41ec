use Rattle.qs_syntax.proofs.Nothing.{nothing}
use Rattle.qs_syntax.proofs.resolve_and_check.settle_nothing.Goals as goal

pub returns : goal.returns
returns c = λ text. rw c.new.ensures (nothing text)
