use Rattle.std.proofs.Common.{arith}
use Rattle.qs_syntax_grammar.specs.inner.Grammar.{read_at}
use Rattle.qs_syntax_grammar.proofs.Loops.{deeper}
use Rattle.qs_syntax_tree.specs.Sparql as name
use Rattle.qs_syntax_tree.specs.inner.Table.{guided, rule}
use Rattle.qs_syntax_expressions.proofs.expressions.+expression.Goals as goal

pub returns : goal.returns
unfolding rule
returns t c = rw (deeper (λ n. read_at guided n name.expression c.args.tokens.now) c.args.parser.depth (omega arith)) (rw (c.deeper-inner.ensures) at c.disjunction.ensures)
