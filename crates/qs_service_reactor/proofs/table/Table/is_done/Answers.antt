use Rattle.std.proofs.Common.{◌∙◌, sym}
use Rattle.qs_service_reactor.proofs.Agrees.{all_free}
use Rattle.qs_service_reactor.proofs.table.Table.is_done.Goals as goal

pub returns-then-is_empty-clause-free : goal.returns-then-is_empty-clause-free
returns-then-is_empty-clause-free g = λ _. all_free _ (sym g.is_empty.ensures ∙ g.if-is_empty.true)
