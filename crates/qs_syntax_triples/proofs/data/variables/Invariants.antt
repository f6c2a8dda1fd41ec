use Rattle.std.proofs.Common.{◌≡◌, ◌-◌, ◌∷◌, []}
use Rattle.qs_syntax_grammar.specs.inner.Reading.{loop}
use Rattle.qs_syntax_grammar.specs.inner.Repeated.{into, push}
use Rattle.qs_syntax_grammar.specs.inner.Grammar.{read}
use Rattle.qs_syntax_tree.specs.declared.kind.Kind.TheVariants as k
use Rattle.qs_syntax_tree.specs.Sparql.{sparql}
use Rattle.qs_syntax_tree.specs.inner.Table.{guided}
use Rattle.qs_syntax_tree.specs.Rules.{var}
use Rattle.qs_syntax_tree.specs.inner.Procedures.{variables}
use Rattle.qs_syntax_triples.proofs.data.variables.Given as goal

abbrev pub invariant-loop-turn : goal.invariant-loop-turn
invariant-loop-turn l = read guided l.parser.depth variables l.fn.tokens ≡ into push l.found (loop sparql (l._turn-end - l._turn) (k.Var ∷ []) (read guided l.parser.depth var) l.tokens)
