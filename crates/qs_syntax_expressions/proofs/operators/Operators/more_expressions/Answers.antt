use Rattle.std.proofs.lemmas.Grind.{common_steps}
use Rattle.std.proofs.Common.{rules, arith, ◌≡◌, Err, ◌∷◌, []}
use Rattle.qs_syntax_grammar.specs.inner.Repeated.{push}
use Rattle.qs_syntax_grammar.specs.inner.Grammar.{read}
use Rattle.qs_syntax_grammar.proofs.Loops.{all_read, goes_on, fails}
use Rattle.qs_syntax_grammar.specs.declared.fault.Fault.{Fault}
use Rattle.qs_syntax_tree.specs.declared.kind.Kind.TheVariants as k
use Rattle.qs_syntax_tree.specs.Sparql.{sparql}
use Rattle.qs_syntax_tree.specs.inner.Table.{guided}
use Rattle.qs_syntax_tree.specs.inner.Procedures.{more_expressions, next_argument}
use Rattle.qs_syntax_expressions.proofs.operators.Operators.more_expressions.Goals as goal

pub loop-turn-init : goal.loop-turn-init
unfolding more_expressions next_argument
loop-turn-init g c =
    all_read sparql (k.Comma ∷ []) (read guided c.args.self.now.parser.depth next_argument) c.new-found.result _ c.args.tokens.now
    (omega (arith, c.turns-turn-end.ensures)) c.new-found.ensures

pub loop-turn-preserved : goal.loop-turn-preserved
loop-turn-preserved g c =
    let d = c.args.self.now.parser.depth in
    goes_on sparql push (k.Comma ∷ []) (read guided d next_argument) (read guided d more_expressions c.args.tokens.now) c.turns-turn-end.result c.loop-turn._turn c.loop-turn.found c.loop-turn.tokens
    c.loop-turn-test.true c.loop-turn.invariant (search rules) c.in_ok-next.next c.next_argument.new.tokens c.push.new.self
    c.in_ok-next.ensures c.in_ok-push.ensures.ok

pub returns-in_err-next : goal.returns-in_err-next
returns-in_err-next g c =
    let d = c.args.self.now.parser.depth in
    let h = λ (e : Fault) (i : read guided d next_argument c.loop-turn.tokens ≡ Err e).
    fails sparql push (k.Comma ∷ []) (read guided d next_argument) (read guided d more_expressions c.args.tokens.now) c.turns-turn-end.result c.loop-turn._turn c.loop-turn.found c.loop-turn.tokens
    c.loop-turn-test.true c.loop-turn.invariant (search rules) e i in
    first_of (search rules, grind (arith, common_steps))
