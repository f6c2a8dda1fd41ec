use Rattle.std.proofs.Common.{◌≡◌, ◌-◌, ◌++◌, ◌∷◌, []}
use Rattle.qs_syntax_grammar.specs.inner.Reading.{loop}
use Rattle.qs_syntax_grammar.specs.inner.Repeated.{into}
use Rattle.qs_syntax_grammar.specs.inner.Grammar.{read}
use Rattle.qs_syntax_tree.specs.declared.kind.Kind.TheVariants as k
use Rattle.qs_syntax_tree.specs.Sparql.{sparql}
use Rattle.qs_syntax_tree.specs.inner.Table.{guided}
use Rattle.qs_syntax_tree.specs.inner.Procedures.{quads_step, quads_steps}
use Rattle.qs_syntax_triples.proofs.quads.quads_steps.Given as goal

abbrev pub invariant-loop-turn : goal.invariant-loop-turn
invariant-loop-turn l = read guided l.parser.depth quads_steps l.fn.tokens ≡ into ◌++◌ l.found (loop sparql (l._turn-end - l._turn) (k.Graph ∷ []) (read guided l.parser.depth quads_step) l.tokens)
