use Rattle.std.proofs.Common.{◌≡◌, ◌-◌, ◌∷◌, []}
use Rattle.qs_syntax_grammar.specs.inner.Reading.{loop}
use Rattle.qs_syntax_grammar.specs.inner.Repeated.{into, push}
use Rattle.qs_syntax_grammar.specs.inner.Grammar.{read}
use Rattle.qs_syntax_tree.specs.declared.kind.Kind.TheVariants as k
use Rattle.qs_syntax_tree.specs.Sparql.{sparql}
use Rattle.qs_syntax_tree.specs.inner.Table.{guided}
use Rattle.qs_syntax_tree.specs.inner.Procedures.{more_expressions, next_argument}
use Rattle.qs_syntax_expressions.proofs.operators.Operators.more_expressions.Given as goal

abbrev pub invariant-loop-turn : goal.invariant-loop-turn
invariant-loop-turn g l = read guided l.self.parser.depth more_expressions l.fn.tokens ≡ into push l.found (loop sparql (l._turn-end - l._turn) (k.Comma ∷ []) (read guided l.self.parser.depth next_argument) l.tokens)
