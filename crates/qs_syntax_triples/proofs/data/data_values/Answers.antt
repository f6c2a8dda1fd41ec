use Rattle.std.proofs.Common.{rules, arith, ◌∷◌, []}
use Rattle.qs_syntax_grammar.specs.inner.Repeated.{push}
use Rattle.qs_syntax_grammar.specs.inner.Grammar.{read}
use Rattle.qs_syntax_grammar.proofs.Loops.{all_read, goes_on}
use Rattle.qs_syntax_tree.specs.declared.kind.Kind.TheVariants as k
use Rattle.qs_syntax_tree.specs.Sparql.{sparql}
use Rattle.qs_syntax_tree.specs.inner.Table.{guided}
use Rattle.qs_syntax_tree.specs.Rules.{data_value, iri, literal}
use Rattle.qs_syntax_tree.specs.inner.Procedures.{data_values}
use Rattle.qs_syntax_triples.proofs.data.data_values.Goals as goal

pub loop-turn-init : goal.loop-turn-init
unfolding data_values data_value iri literal
loop-turn-init c =
    all_read sparql (k.IriRef ∷ k.PnameLn ∷ k.PnameNs ∷ k.String ∷ k.Integer ∷ k.Signed ∷ k.True ∷ k.False ∷ k.Undef ∷ []) (read guided c.args.parser.depth data_value) c.new-found.result _ c.args.tokens.now
    (omega (arith, c.turns-turn-end.ensures)) c.new-found.ensures

pub loop-turn-preserved : goal.loop-turn-preserved
loop-turn-preserved c =
    let d = c.args.parser.depth in
    goes_on sparql push (k.IriRef ∷ k.PnameLn ∷ k.PnameNs ∷ k.String ∷ k.Integer ∷ k.Signed ∷ k.True ∷ k.False ∷ k.Undef ∷ []) (read guided d data_value) (read guided d data_values c.args.tokens.now) c.turns-turn-end.result c.loop-turn._turn c.loop-turn.found c.loop-turn.tokens
    c.loop-turn-test.true c.loop-turn.invariant (search rules) c.in_ok-next.next c.data_value.new.tokens c.push.new.self
    c.in_ok-next.ensures c.in_ok-push.ensures.ok
