use Rattle.std.proofs.Common.{rules, arith, ◌∷◌, [], refl}
use Rattle.qs_syntax_grammar.specs.inner.Repeated.{push}
use Rattle.qs_syntax_grammar.specs.Notation.{◌>>◌}
use Rattle.qs_syntax_grammar.specs.inner.Grammar.{read}
use Rattle.qs_syntax_grammar.proofs.Loops.{all_read, goes_on}
use Rattle.qs_syntax_tree.specs.declared.kind.Kind.TheVariants as k
use Rattle.qs_syntax_tree.specs.Sparql.{sparql}
use Rattle.qs_syntax_tree.specs.inner.Table.{guided}
use Rattle.qs_syntax_tree.specs.Rules.{negated_one, the}
use Rattle.qs_syntax_tree.specs.inner.Procedures.{more_negated}
use Rattle.qs_syntax_triples.proofs.paths.more_negated.Goals as goal

pub loop-turn-init : goal.loop-turn-init
unfolding more_negated
loop-turn-init c =
    all_read sparql (k.Bar ∷ []) (read guided c.args.parser.depth (the k.Bar >> negated_one)) c.new-found.result _ c.args.tokens.now
    (omega (arith, c.turns-turn-end.ensures)) c.new-found.ensures

pub loop-turn-preserved : goal.loop-turn-preserved
loop-turn-preserved c =
    let d = c.args.parser.depth in
    goes_on sparql push (k.Bar ∷ []) (read guided d (the k.Bar >> negated_one)) (read guided d more_negated c.args.tokens.now) c.turns-turn-end.result c.loop-turn._turn c.loop-turn.found c.loop-turn.tokens
    c.loop-turn-test.true c.loop-turn.invariant (search rules) c.in_ok-next.next c.negated_one.new.tokens c.push.new.self
    (rw (c.in_ok-expect.ensures, c.in_ok-next.ensures) refl) c.in_ok-push.ensures.ok
