use Rattle.std.proofs.Common.{◌≡◌, ◌++◌, Ok}
use Rattle.qs_syntax_grammar.specs.inner.Reading.{and_then}
use Rattle.qs_syntax_grammar.specs.inner.Grammar.{read_at}
use Rattle.qs_syntax_tree.specs.Sparql.{triples}
use Rattle.qs_syntax_tree.specs.inner.Table.{guided}
use Rattle.qs_syntax_triples.proofs.triples.triples.Given as goal

abbrev pub invariant-loop-inner : goal.invariant-loop-inner
invariant-loop-inner l = read_at guided l.fn.parser.depth (triples l.form) l.fn.tokens ≡ and_then (read_at guided l.inner.depth (triples l.form) l.tokens) (λ xs s. Ok (l.found ++ xs, s))

abbrev pub decreases-loop-inner : goal.decreases-loop-inner
decreases-loop-inner l = l.inner.depth
