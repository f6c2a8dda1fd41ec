use Rattle.std.proofs.Common.{rules, arith, ◌∷◌, [], refl}
use Rattle.qs_syntax_grammar.specs.inner.Repeated.{push}
use Rattle.qs_syntax_grammar.specs.Rule.{placed}
use Rattle.qs_syntax_grammar.specs.Notation.{◌>>◌, ◌<$>◌}
use Rattle.qs_syntax_grammar.specs.inner.Grammar.{read, read_at}
use Rattle.qs_syntax_grammar.proofs.Loops.{all_read, goes_on, deeper}
use Rattle.qs_syntax_tree.specs.declared.kind.Kind.TheVariants as k
use Rattle.qs_syntax_tree.specs.Sparql.{sparql}
use Rattle.qs_syntax_tree.specs.Sparql as name
use Rattle.qs_syntax_tree.specs.inner.Table.{guided, rule}
use Rattle.qs_syntax_tree.specs.Trees.{path_operand}
use Rattle.qs_syntax_tree.specs.Rules.{the}
use Rattle.qs_syntax_tree.specs.inner.Procedures.{more_elements, more_sequences, path_element, path_sequence}
use Rattle.qs_syntax_triples.proofs.paths.+path.Goals as goal

pub path-returns : goal.path-returns
unfolding rule
path-returns t c =
    rw (deeper (λ d. read_at guided d name.path c.args.tokens.now) c.args.parser.depth (omega arith)) (rw (c.deeper.ensures) at c.alternatives.ensures)

pub more_elements-loop-turn-init : goal.more_elements-loop-turn-init
unfolding more_elements
more_elements-loop-turn-init t c =
    all_read sparql (k.Slash ∷ []) (read guided c.args.parser.depth (the k.Slash >> (path_operand <$> placed path_element))) c.new-found.result _ c.args.tokens.now
    (omega (arith, c.turns-turn-end.ensures)) c.new-found.ensures

pub more_elements-loop-turn-preserved : goal.more_elements-loop-turn-preserved
more_elements-loop-turn-preserved t c =
    let d = c.args.parser.depth in
    goes_on sparql push (k.Slash ∷ []) (read guided d (the k.Slash >> (path_operand <$> placed path_element))) (read guided d more_elements c.args.tokens.now) c.turns-turn-end.result c.loop-turn._turn c.loop-turn.found c.loop-turn.tokens
    c.loop-turn-test.true c.loop-turn.invariant (search rules) (path_operand (c.place-place.result, c.in_ok-path.path)) c.path_element.new.tokens c.push.new.self
    (rw (c.in_ok-expect.ensures, c.place-place.ensures, c.in_ok-path.ensures) refl) c.in_ok-push.ensures.ok

pub more_sequences-loop-turn-init : goal.more_sequences-loop-turn-init
unfolding more_sequences
more_sequences-loop-turn-init t c =
    all_read sparql (k.Bar ∷ []) (read guided c.args.parser.depth (the k.Bar >> (path_operand <$> placed path_sequence))) c.new-found.result _ c.args.tokens.now
    (omega (arith, c.turns-turn-end.ensures)) c.new-found.ensures

pub more_sequences-loop-turn-preserved : goal.more_sequences-loop-turn-preserved
more_sequences-loop-turn-preserved t c =
    let d = c.args.parser.depth in
    goes_on sparql push (k.Bar ∷ []) (read guided d (the k.Bar >> (path_operand <$> placed path_sequence))) (read guided d more_sequences c.args.tokens.now) c.turns-turn-end.result c.loop-turn._turn c.loop-turn.found c.loop-turn.tokens
    c.loop-turn-test.true c.loop-turn.invariant (search rules) (path_operand (c.place-place.result, c.in_ok-path.path)) c.path_sequence.new.tokens c.push.new.self
    (rw (c.in_ok-expect.ensures, c.place-place.ensures, c.in_ok-path.ensures) refl) c.in_ok-push.ensures.ok
