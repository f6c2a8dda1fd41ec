use Rattle.std.proofs.Common.{rules, arith, ◌≡◌, Ok, Err, ap, sym, ◌∙◌}
use Rattle.std.proofs.lemmas.Grind.{common_steps}
use Rattle.qs_syntax_grammar.specs.declared.fault.Fault.{Fault}
use Rattle.qs_syntax_grammar.specs.inner.Grammar.{read, read_at}
use Rattle.qs_syntax_tree.specs.Sparql.{triples}
use Rattle.qs_syntax_tree.specs.inner.Procedures.{same_subject}
use Rattle.qs_syntax_tree.specs.inner.Table.{guided}
use Rattle.qs_syntax_triples.proofs.TriplesLoop.{fault, no_dot, last_dot, goes_on}
use Rattle.qs_syntax_triples.proofs.triples.triples.Goals as goal

pub returns-in_err-next : goal.returns-in_err-next
returns-in_err-next c =
    let h = λ (e : Fault) (g : read guided c.deeper-inner.result.depth (same_subject c.args.form) c.loop-inner.tokens ≡ Err e).
    fault c.args.form (read_at guided c.args.parser.depth (triples c.args.form) c.args.tokens.now) c.loop-inner.inner.depth c.deeper-inner.result.depth c.loop-inner.found c.loop-inner.tokens
    (omega arith) (c.deeper-inner.ensures) c.loop-inner.invariant e g in
    first_of (search rules, grind (arith, common_steps))

pub returns-then-not-peek_is : goal.returns-then-not-peek_is
returns-then-not-peek_is c =
    no_dot c.args.form _ c.loop-inner.inner.depth c.deeper-inner.result.depth c.loop-inner.found c.loop-inner.tokens (omega arith) c.deeper-inner.ensures c.loop-inner.invariant
    c.in_ok-next.next c.same_subject.new.tokens c.in_ok-next.ensures (search rules) ∙ ap (λ z. Ok (z, c.same_subject.new.tokens)) (sym c.in_ok-push.ensures.ok)

pub returns-then-not-peek_is-2 : goal.returns-then-not-peek_is-2
returns-then-not-peek_is-2 c =
    last_dot c.args.form _ c.loop-inner.inner.depth c.deeper-inner.result.depth c.loop-inner.found c.loop-inner.tokens (omega arith) c.deeper-inner.ensures c.loop-inner.invariant
    c.in_ok-next.next c.same_subject.new.tokens c.in_ok-next.ensures c.in_ok-expect.field-0 c.expect.new.self (search rules) c.in_ok-expect.ensures (search rules)
    ∙ ap (λ z. Ok (z, c.expect.new.self)) (sym c.in_ok-push.ensures.ok)

pub loop-inner-preserved : goal.loop-inner-preserved
loop-inner-preserved c =
    goes_on c.args.form _ c.loop-inner.inner.depth c.deeper-inner.result.depth c.loop-inner.found c.loop-inner.tokens (omega arith) c.deeper-inner.ensures c.loop-inner.invariant
    c.in_ok-next.next c.same_subject.new.tokens c.in_ok-next.ensures c.in_ok-expect.field-0 c.expect.new.self (search rules) c.in_ok-expect.ensures (search rules)
    c.push.new.self c.in_ok-push.ensures.ok
