use Rattle.std.proofs.Common.{rules, arith, ◌++◌, ◌∷◌, []}
use Rattle.qs_syntax_grammar.specs.inner.Grammar.{read}
use Rattle.qs_syntax_grammar.proofs.Loops.{all_joined, goes_on}
use Rattle.qs_syntax_tree.specs.declared.kind.Kind.TheVariants as k
use Rattle.qs_syntax_tree.specs.Sparql.{sparql}
use Rattle.qs_syntax_tree.specs.inner.Table.{guided}
use Rattle.qs_syntax_tree.specs.inner.Procedures.{dotted_graph, quads_graph, quads_step, quads_steps}
use Rattle.qs_syntax_triples.proofs.quads.quads_steps.Goals as goal

pub loop-turn-init : goal.loop-turn-init
unfolding quads_steps quads_step dotted_graph quads_graph
loop-turn-init c =
    all_joined sparql (k.Graph ∷ []) (read guided c.args.parser.depth quads_step) c.new-found.result _ c.args.tokens.now
    (omega (arith, c.turns-turn-end.ensures)) c.new-found.ensures

pub loop-turn-preserved : goal.loop-turn-preserved
loop-turn-preserved c =
    let d = c.args.parser.depth in
    goes_on sparql ◌++◌ (k.Graph ∷ []) (read guided d quads_step) (read guided d quads_steps c.args.tokens.now) c.turns-turn-end.result c.loop-turn._turn c.loop-turn.found c.loop-turn.tokens
    c.loop-turn-test.true c.loop-turn.invariant (search rules) c.in_ok-next.next c.quads_step.new.tokens c.append.new.self
    c.in_ok-next.ensures c.in_ok-append.ensures
