use Rattle.std.proofs.Common.{rules, arith, ◌∷◌, [], refl}
use Rattle.qs_syntax_grammar.specs.inner.Repeated.{push}
use Rattle.qs_syntax_grammar.specs.Notation.{◌>>◌}
use Rattle.qs_syntax_grammar.specs.inner.Grammar.{read}
use Rattle.qs_syntax_grammar.proofs.Loops.{all_read, goes_on}
use Rattle.qs_syntax_tree.specs.declared.kind.Kind.TheVariants as k
use Rattle.qs_syntax_tree.specs.Sparql.{sparql}
use Rattle.qs_syntax_tree.specs.inner.Table.{guided}
use Rattle.qs_syntax_tree.specs.Trees.{operand_of}
use Rattle.qs_syntax_tree.specs.Rules.{operand, the}
use Rattle.qs_syntax_tree.specs.inner.Procedures.{more_factors, unary}
use Rattle.qs_syntax_expressions.proofs.operators.Operators.more_factors.Goals as goal

pub loop-turn-init : goal.loop-turn-init
unfolding more_factors
loop-turn-init g c =
    all_read sparql (k.Star ∷ []) (read guided c.args.self.now.parser.depth (the k.Star >> operand unary)) c.new-found.result _ c.args.tokens.now
    (omega (arith, c.turns-turn-end.ensures)) c.new-found.ensures

pub loop-turn-preserved : goal.loop-turn-preserved
loop-turn-preserved g c =
    let d = c.args.self.now.parser.depth in
    goes_on sparql push (k.Star ∷ []) (read guided d (the k.Star >> operand unary)) (read guided d more_factors c.args.tokens.now) c.turns-turn-end.result c.loop-turn._turn c.loop-turn.found c.loop-turn.tokens
    c.loop-turn-test.true c.loop-turn.invariant (search rules) (operand_of (c.place-place.result, c.in_ok-expression.expression)) c.unary.new.tokens c.push.new.self
    (rw (c.in_ok-expect.ensures, c.place-place.ensures, c.in_ok-expression.ensures) refl) c.in_ok-push.ensures.ok
