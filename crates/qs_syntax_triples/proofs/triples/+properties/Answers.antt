use Rattle.std.proofs.lemmas.Grind.{common_steps}
use Rattle.std.proofs.Common.{rules, arith, ap, ◌∙◌, Err, ◌≡◌, ◌∷◌, [], refl}
use Rattle.qs_syntax_grammar.specs.inner.Repeated.{keep, push}
use Rattle.qs_syntax_grammar.specs.Notation.{◌>>◌}
use Rattle.qs_syntax_grammar.specs.inner.Grammar.{read, read_at}
use Rattle.qs_syntax_grammar.proofs.Loops.{all_read, all_kept, goes_on, deeper, after_none, after_some, after_fault}
use Rattle.qs_syntax_grammar.specs.declared.fault.Fault.{Fault}
use Rattle.qs_syntax_grammar.specs.inner.Reading.{starts}
use Rattle.qs_syntax_triples.proofs.FirstKinds.{first_property}
use Rattle.qs_syntax_tree.specs.declared.kind.Kind.TheVariants as k
use Rattle.qs_syntax_tree.specs.Sparql.{sparql}
use Rattle.qs_syntax_tree.specs.Sparql as name
use Rattle.qs_syntax_tree.specs.inner.Table.{guided, rule}
use Rattle.qs_syntax_tree.specs.Rules.{object, the}
use Rattle.qs_syntax_tree.specs.inner.Procedures.{more_objects, more_properties, next_property, property}
use Rattle.qs_syntax_triples.proofs.triples.+properties.Goals as goal

pub properties-returns : goal.properties-returns
unfolding rule
properties-returns t c =
    rw (deeper (λ d. read_at guided d (name.properties c.args.form) c.args.tokens.now) c.args.parser.depth (omega arith)) (rw (c.deeper.ensures) at c.property_list.ensures)

pub more_objects-loop-turn-init : goal.more_objects-loop-turn-init
unfolding more_objects
more_objects-loop-turn-init t c =
    all_read sparql (k.Comma ∷ []) (read guided c.args.parser.depth (the k.Comma >> object c.args.form)) c.new-found.result _ c.args.tokens.now
    (omega (arith, c.turns-turn-end.ensures)) c.new-found.ensures

pub more_objects-loop-turn-preserved : goal.more_objects-loop-turn-preserved
more_objects-loop-turn-preserved t c =
    let d = c.args.parser.depth in
    goes_on sparql push (k.Comma ∷ []) (read guided d (the k.Comma >> object c.args.form)) (read guided d (more_objects c.args.form) c.args.tokens.now) c.turns-turn-end.result c.loop-turn._turn c.loop-turn.found c.loop-turn.tokens
    c.loop-turn-test.true c.loop-turn.invariant (search rules) c.in_ok-next.next c.object.new.tokens c.push.new.self
    (rw (c.in_ok-expect.ensures, c.in_ok-next.ensures) refl) c.in_ok-push.ensures.ok

pub more_properties-loop-turn-init : goal.more_properties-loop-turn-init
unfolding more_properties next_property
more_properties-loop-turn-init t c =
    all_kept sparql (k.Semicolon ∷ []) (read guided c.args.parser.depth (next_property c.args.form)) c.new-found.result _ c.args.tokens.now
    (omega (arith, c.turns-turn-end.ensures)) c.new-found.ensures

pub more_properties-loop-turn-preserved : goal.more_properties-loop-turn-preserved
more_properties-loop-turn-preserved t c =
    let d = c.args.parser.depth in
    goes_on sparql keep (k.Semicolon ∷ []) (read guided d (next_property c.args.form)) (read guided d (more_properties c.args.form) c.args.tokens.now) c.turns-turn-end.result c.loop-turn._turn c.loop-turn.found c.loop-turn.tokens
    c.loop-turn-test.true c.loop-turn.invariant (search rules) c.in_ok-next.next c.next_property.new.tokens c.keep.new.found
    c.in_ok-next.ensures c.in_ok-keep.ensures

pub next_property-returns : goal.next_property-returns
unfolding next_property
next_property-returns t c =
    after_none guided k.Semicolon (property c.args.form) c.args.parser.depth c.args.tokens.now c.in_ok-expect.field-0 c.expect.new.self c.in_ok-expect.ensures
    (ap (λ ks. starts sparql ks c.expect.new.self) (first_property c.args.form) ∙ (search rules))

pub next_property-returns-then-peek_is : goal.next_property-returns-then-peek_is
unfolding next_property
next_property-returns-then-peek_is t c =
    after_some guided k.Semicolon (property c.args.form) c.args.parser.depth c.args.tokens.now c.in_ok-expect.field-0 c.expect.new.self c.in_ok-expect.ensures
    (ap (λ ks. starts sparql ks c.expect.new.self) (first_property c.args.form) ∙ (search rules)) c.in_ok-property.field-0 c.property.new.tokens c.in_ok-property.ensures

pub next_property-returns-in_err-property : goal.next_property-returns-in_err-property
unfolding next_property
next_property-returns-in_err-property t c =
    let h = λ (e : Fault) (g : read guided c.args.parser.depth (property c.args.form) c.expect.new.self ≡ Err e).
    after_fault guided k.Semicolon (property c.args.form) c.args.parser.depth c.args.tokens.now c.in_ok-expect.field-0 c.expect.new.self c.in_ok-expect.ensures
    (ap (λ ks. starts sparql ks c.expect.new.self) (first_property c.args.form) ∙ (search rules)) e g in
    first_of (search rules, grind (arith, common_steps))
