use Rattle.std.proofs.Common.{ltb-true}
use Rattle.qs_lex.proofs.Prefix.{no_prefix_at}
use Rattle.qs_lex.proofs.run.has_no_prefix.Goals as goal

pub returns-then-ahead : goal.returns-then-ahead
returns-then-ahead c h = no_prefix_at _ _ c.utf8.front (c.requires c.if-ahead.true) (ltb-true _ _ h)
