use Rattle.std.proofs.Common.{rules, arith, ◌∷◌, []}
use Rattle.qs_syntax_grammar.specs.inner.Repeated.{push}
use Rattle.qs_syntax_grammar.specs.inner.Grammar.{read}
use Rattle.qs_syntax_grammar.proofs.Loops.{all_read, goes_on}
use Rattle.qs_syntax_tree.specs.declared.kind.Kind.TheVariants as k
use Rattle.qs_syntax_tree.specs.Sparql.{sparql}
use Rattle.qs_syntax_tree.specs.inner.Table.{guided}
use Rattle.qs_syntax_tree.specs.inner.Procedures.{addend, addends, signed_product}
use Rattle.qs_syntax_expressions.proofs.operators.Operators.addends.Goals as goal

pub loop-turn-init : goal.loop-turn-init
unfolding addends addend signed_product
loop-turn-init g c =
    all_read sparql (k.Plus ∷ k.Hyphen ∷ k.Signed ∷ []) (read guided c.args.self.now.parser.depth addend) c.new-found.result _ c.args.tokens.now
    (omega (arith, c.turns-turn-end.ensures)) c.new-found.ensures

pub loop-turn-preserved : goal.loop-turn-preserved
loop-turn-preserved g c =
    let d = c.args.self.now.parser.depth in
    goes_on sparql push (k.Plus ∷ k.Hyphen ∷ k.Signed ∷ []) (read guided d addend) (read guided d addends c.args.tokens.now) c.turns-turn-end.result c.loop-turn._turn c.loop-turn.found c.loop-turn.tokens
    c.loop-turn-test.true c.loop-turn.invariant (search rules) c.in_ok-next.next c.addend.new.tokens c.push.new.self
    c.in_ok-next.ensures c.in_ok-push.ensures.ok
