use Rattle.std.proofs.Common.{◌≡◌, ◌+◌, ◌-◌, ◌*◌, ◌∷◌, []}
use Rattle.qs_syntax_grammar.specs.inner.Reading.{loop}
use Rattle.qs_syntax_grammar.specs.inner.Repeated.{into, push}
use Rattle.qs_syntax_grammar.specs.Rule.{placed}
use Rattle.qs_syntax_grammar.specs.Notation.{◌>>◌, ◌<$>◌}
use Rattle.qs_syntax_grammar.specs.inner.Grammar.{read}
use Rattle.qs_syntax_tree.specs.declared.kind.Kind.TheVariants as k
use Rattle.qs_syntax_tree.specs.Sparql.{sparql}
use Rattle.qs_syntax_tree.specs.inner.Table.{guided}
use Rattle.qs_syntax_tree.specs.Trees.{path_operand}
use Rattle.qs_syntax_tree.specs.Rules.{the}
use Rattle.qs_syntax_tree.specs.inner.Procedures.{more_elements, more_sequences, path_element, path_sequence}
use Rattle.qs_syntax_triples.proofs.paths.+path.Given as goal

abbrev pub decreases-path : goal.decreases-path
decreases-path l = 7 * l.parser.depth

abbrev pub decreases-path_primary : goal.decreases-path_primary
decreases-path_primary l = 7 * l.parser.depth + 1

abbrev pub decreases-path_element : goal.decreases-path_element
decreases-path_element l = 7 * l.parser.depth + 2

abbrev pub decreases-more_elements : goal.decreases-more_elements
decreases-more_elements l = 7 * l.parser.depth + 3

abbrev pub decreases-path_sequence : goal.decreases-path_sequence
decreases-path_sequence l = 7 * l.parser.depth + 4

abbrev pub decreases-more_sequences : goal.decreases-more_sequences
decreases-more_sequences l = 7 * l.parser.depth + 5

abbrev pub decreases-alternatives : goal.decreases-alternatives
decreases-alternatives l = 7 * l.parser.depth + 6

abbrev pub invariant-more_elements-loop-turn : goal.invariant-more_elements-loop-turn
invariant-more_elements-loop-turn l = read guided l.parser.depth more_elements l.fn.tokens ≡ into push l.found (loop sparql (l._turn-end - l._turn) (k.Slash ∷ []) (read guided l.parser.depth (the k.Slash >> (path_operand <$> placed path_element))) l.tokens)

abbrev pub invariant-more_sequences-loop-turn : goal.invariant-more_sequences-loop-turn
invariant-more_sequences-loop-turn l = read guided l.parser.depth more_sequences l.fn.tokens ≡ into push l.found (loop sparql (l._turn-end - l._turn) (k.Bar ∷ []) (read guided l.parser.depth (the k.Bar >> (path_operand <$> placed path_sequence))) l.tokens)
