use Rattle.std.proofs.Common.{rules}
use Rattle.qs_syntax_tree.specs.Sparql.{same_kind}
use Rattle.qs_syntax_tokens.proofs.tokens.same_kind.Goals as goal

pub returns : goal.returns
unfolding same_kind
returns c = search rules
