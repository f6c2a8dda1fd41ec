use Rattle.std.proofs.Common.{rules, arith, ◌++◌, ◌∷◌, [], refl}
use Rattle.qs_syntax_grammar.specs.inner.Repeated.{push}
use Rattle.qs_syntax_grammar.specs.Notation.{◌>>◌}
use Rattle.qs_syntax_grammar.specs.inner.Grammar.{read, read_at}
use Rattle.qs_syntax_grammar.proofs.Loops.{all_read, all_joined, goes_on, deeper}
use Rattle.qs_syntax_tree.specs.declared.kind.Kind.TheVariants as k
use Rattle.qs_syntax_tree.specs.Sparql.{sparql}
use Rattle.qs_syntax_tree.specs.Sparql as name
use Rattle.qs_syntax_tree.specs.inner.Table.{guided, rule}
use Rattle.qs_syntax_tree.specs.Rules.{group, the}
use Rattle.qs_syntax_tree.specs.inner.Procedures.{dotted_element, element, group_step, group_steps, groups, more_groups, values}
use Rattle.qs_syntax_patterns.proofs.groups.+group.Goals as goal

pub group-returns : goal.group-returns
unfolding rule
group-returns t c =
    rw (deeper (λ d. read_at guided d name.group c.args.tokens.now) c.args.parser.depth (omega arith)) (rw (c.deeper.ensures) at c.braced_group.ensures)

pub more_groups-loop-turn-init : goal.more_groups-loop-turn-init
unfolding more_groups
more_groups-loop-turn-init t c =
    all_read sparql (k.Union ∷ []) (read guided c.args.parser.depth (the k.Union >> group)) c.new-found.result _ c.args.tokens.now
    (omega (arith, c.turns-turn-end.ensures)) c.new-found.ensures

pub more_groups-loop-turn-preserved : goal.more_groups-loop-turn-preserved
more_groups-loop-turn-preserved t c =
    let d = c.args.parser.depth in
    goes_on sparql push (k.Union ∷ []) (read guided d (the k.Union >> group)) (read guided d more_groups c.args.tokens.now) c.turns-turn-end.result c.loop-turn._turn c.loop-turn.found c.loop-turn.tokens
    c.loop-turn-test.true c.loop-turn.invariant (search rules) c.in_ok-next.next c.group.new.tokens c.push.new.self
    (rw (c.in_ok-expect.ensures, c.in_ok-next.ensures) refl) c.in_ok-push.ensures.ok

pub group_steps-loop-turn-init : goal.group_steps-loop-turn-init
unfolding group_steps group_step dotted_element element groups values
group_steps-loop-turn-init t c =
    all_joined sparql (k.LeftBrace ∷ k.Optional ∷ k.Minus ∷ k.Graph ∷ k.Filter ∷ k.Bind ∷ k.Values ∷ []) (read guided c.args.parser.depth group_step) c.new-found.result _ c.args.tokens.now
    (omega (arith, c.turns-turn-end.ensures)) c.new-found.ensures

pub group_steps-loop-turn-preserved : goal.group_steps-loop-turn-preserved
group_steps-loop-turn-preserved t c =
    let d = c.args.parser.depth in
    goes_on sparql ◌++◌ (k.LeftBrace ∷ k.Optional ∷ k.Minus ∷ k.Graph ∷ k.Filter ∷ k.Bind ∷ k.Values ∷ []) (read guided d group_step) (read guided d group_steps c.args.tokens.now) c.turns-turn-end.result c.loop-turn._turn c.loop-turn.found c.loop-turn.tokens
    c.loop-turn-test.true c.loop-turn.invariant (search rules) c.in_ok-next.next c.group_step.new.tokens c.append.new.self
    c.in_ok-next.ensures c.in_ok-append.ensures
