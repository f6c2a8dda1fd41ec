use Rattle.std.proofs.Common.{◌≡◌, ◌+◌, ◌-◌, ◌*◌, ◌++◌, ◌∷◌, []}
use Rattle.qs_syntax_grammar.specs.inner.Reading.{loop}
use Rattle.qs_syntax_grammar.specs.inner.Repeated.{into, push}
use Rattle.qs_syntax_grammar.specs.Notation.{◌>>◌}
use Rattle.qs_syntax_grammar.specs.inner.Grammar.{read}
use Rattle.qs_syntax_tree.specs.declared.kind.Kind.TheVariants as k
use Rattle.qs_syntax_tree.specs.Sparql.{sparql}
use Rattle.qs_syntax_tree.specs.inner.Table.{guided}
use Rattle.qs_syntax_tree.specs.Rules.{group, the}
use Rattle.qs_syntax_tree.specs.inner.Procedures.{group_step, group_steps, more_groups}
use Rattle.qs_syntax_patterns.proofs.groups.+group.Given as goal

abbrev pub decreases-group : goal.decreases-group
decreases-group l = 9 * l.parser.depth

abbrev pub decreases-more_groups : goal.decreases-more_groups
decreases-more_groups l = 9 * l.parser.depth + 1

abbrev pub decreases-groups : goal.decreases-groups
decreases-groups l = 9 * l.parser.depth + 2

abbrev pub decreases-element : goal.decreases-element
decreases-element l = 9 * l.parser.depth + 3

abbrev pub decreases-dotted_element : goal.decreases-dotted_element
decreases-dotted_element l = 9 * l.parser.depth + 4

abbrev pub decreases-group_step : goal.decreases-group_step
decreases-group_step l = 9 * l.parser.depth + 5

abbrev pub decreases-group_steps : goal.decreases-group_steps
decreases-group_steps l = 9 * l.parser.depth + 6

abbrev pub decreases-elements : goal.decreases-elements
decreases-elements l = 9 * l.parser.depth + 7

abbrev pub decreases-braced_group : goal.decreases-braced_group
decreases-braced_group l = 9 * l.parser.depth + 8

abbrev pub invariant-more_groups-loop-turn : goal.invariant-more_groups-loop-turn
invariant-more_groups-loop-turn l = read guided l.parser.depth more_groups l.fn.tokens ≡ into push l.found (loop sparql (l._turn-end - l._turn) (k.Union ∷ []) (read guided l.parser.depth (the k.Union >> group)) l.tokens)

abbrev pub invariant-group_steps-loop-turn : goal.invariant-group_steps-loop-turn
invariant-group_steps-loop-turn l = read guided l.parser.depth group_steps l.fn.tokens ≡ into ◌++◌ l.found (loop sparql (l._turn-end - l._turn) (k.LeftBrace ∷ k.Optional ∷ k.Minus ∷ k.Graph ∷ k.Filter ∷ k.Bind ∷ k.Values ∷ []) (read guided l.parser.depth group_step) l.tokens)
