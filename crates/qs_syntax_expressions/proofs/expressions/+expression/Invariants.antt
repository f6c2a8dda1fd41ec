use Rattle.qs_syntax_expressions.proofs.expressions.+expression.Given as goal

abbrev pub decreases-expression : goal.decreases-expression
decreases-expression l = l.parser.depth
