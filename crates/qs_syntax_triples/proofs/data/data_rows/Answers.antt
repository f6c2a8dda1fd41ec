use Rattle.std.proofs.Common.{rules, arith, ◌∷◌, []}
use Rattle.qs_syntax_grammar.specs.inner.Repeated.{push}
use Rattle.qs_syntax_grammar.specs.inner.Grammar.{read}
use Rattle.qs_syntax_grammar.proofs.Loops.{all_read, goes_on}
use Rattle.qs_syntax_tree.specs.declared.kind.Kind.TheVariants as k
use Rattle.qs_syntax_tree.specs.Sparql.{sparql}
use Rattle.qs_syntax_tree.specs.inner.Table.{guided}
use Rattle.qs_syntax_tree.specs.inner.Procedures.{data_row, data_rows}
use Rattle.qs_syntax_triples.proofs.data.data_rows.Goals as goal

pub loop-turn-init : goal.loop-turn-init
unfolding data_rows data_row
loop-turn-init c =
    all_read sparql (k.LeftParen ∷ []) (read guided c.args.parser.depth data_row) c.new-found.result _ c.args.tokens.now
    (omega (arith, c.turns-turn-end.ensures)) c.new-found.ensures

pub loop-turn-preserved : goal.loop-turn-preserved
loop-turn-preserved c =
    let d = c.args.parser.depth in
    goes_on sparql push (k.LeftParen ∷ []) (read guided d data_row) (read guided d data_rows c.args.tokens.now) c.turns-turn-end.result c.loop-turn._turn c.loop-turn.found c.loop-turn.tokens
    c.loop-turn-test.true c.loop-turn.invariant (search rules) c.in_ok-next.next c.data_row.new.tokens c.push.new.self
    c.in_ok-next.ensures c.in_ok-push.ensures.ok
