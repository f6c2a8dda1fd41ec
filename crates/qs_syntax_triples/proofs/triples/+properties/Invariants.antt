use Rattle.std.proofs.Common.{◌≡◌, ◌+◌, ◌-◌, ◌*◌, ◌∷◌, []}
use Rattle.qs_syntax_grammar.specs.inner.Reading.{loop}
use Rattle.qs_syntax_grammar.specs.inner.Repeated.{into, keep, push}
use Rattle.qs_syntax_grammar.specs.Notation.{◌>>◌}
use Rattle.qs_syntax_grammar.specs.inner.Grammar.{read}
use Rattle.qs_syntax_tree.specs.declared.kind.Kind.TheVariants as k
use Rattle.qs_syntax_tree.specs.Sparql.{sparql}
use Rattle.qs_syntax_tree.specs.inner.Table.{guided}
use Rattle.qs_syntax_tree.specs.Rules.{object, the}
use Rattle.qs_syntax_tree.specs.inner.Procedures.{more_objects, more_properties, next_property}
use Rattle.qs_syntax_triples.proofs.triples.+properties.Given as goal

abbrev pub decreases-properties : goal.decreases-properties
decreases-properties l = 8 * l.parser.depth

abbrev pub decreases-object : goal.decreases-object
decreases-object l = 8 * l.parser.depth + 1

abbrev pub decreases-more_objects : goal.decreases-more_objects
decreases-more_objects l = 8 * l.parser.depth + 2

abbrev pub decreases-objects : goal.decreases-objects
decreases-objects l = 8 * l.parser.depth + 3

abbrev pub decreases-property : goal.decreases-property
decreases-property l = 8 * l.parser.depth + 4

abbrev pub decreases-next_property : goal.decreases-next_property
decreases-next_property l = 8 * l.parser.depth + 5

abbrev pub decreases-more_properties : goal.decreases-more_properties
decreases-more_properties l = 8 * l.parser.depth + 6

abbrev pub decreases-property_list : goal.decreases-property_list
decreases-property_list l = 8 * l.parser.depth + 7

abbrev pub invariant-more_objects-loop-turn : goal.invariant-more_objects-loop-turn
invariant-more_objects-loop-turn l = read guided l.parser.depth (more_objects l.form) l.fn.tokens ≡ into push l.found (loop sparql (l._turn-end - l._turn) (k.Comma ∷ []) (read guided l.parser.depth (the k.Comma >> object l.form)) l.tokens)

abbrev pub invariant-more_properties-loop-turn : goal.invariant-more_properties-loop-turn
invariant-more_properties-loop-turn l = read guided l.parser.depth (more_properties l.form) l.fn.tokens ≡ into keep l.found (loop sparql (l._turn-end - l._turn) (k.Semicolon ∷ []) (read guided l.parser.depth (next_property l.form)) l.tokens)
