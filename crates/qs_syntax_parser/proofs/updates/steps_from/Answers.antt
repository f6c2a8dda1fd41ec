use Rattle.std.proofs.Common.{rules, arith, ◌≡◌, Ok, Err, ◌∙◌, ap, sym}
use Rattle.std.proofs.lemmas.Grind.{common_steps}
use Rattle.qs_syntax_grammar.specs.declared.fault.Fault.{Fault}
use Rattle.qs_syntax_grammar.specs.inner.Grammar.{read}
use Rattle.qs_syntax_tree.specs.inner.Procedures.{operation, prologue}
use Rattle.qs_syntax_tree.specs.inner.Table.{guided}
use Rattle.qs_syntax_parser.proofs.StepsLoop.{no_operation, no_more, no_prologue, last, deep, goes_on}
use Rattle.qs_syntax_parser.proofs.updates.steps_from.Goals as goal

pub returns-in_err-operation : goal.returns-in_err-operation
returns-in_err-operation c =
    let h = λ (e : Fault) (i : read guided c.steps.inner.depth operation c.steps.tokens ≡ Err e).
    no_operation _ c.steps.inner.depth c.steps.found c.steps.prologue c.steps.tokens c.steps.invariant e i in
    first_of (search rules, grind (arith, common_steps))

pub returns-then-not-peek_is : goal.returns-then-not-peek_is
returns-then-not-peek_is c =
    no_more _ c.steps.inner.depth c.steps.found c.steps.prologue c.steps.tokens c.steps.invariant c.in_ok-operation.field-0 c.operation.new.tokens c.in_ok-operation.ensures (search rules)
    ∙ ap (λ z. Ok (z, c.operation.new.tokens)) (sym c.in_ok-push.ensures.ok)

pub returns-in_err-prologue : goal.returns-in_err-prologue
returns-in_err-prologue c =
    let h = λ (e : Fault) (i : read guided c.steps.inner.depth prologue c.expect.new.self ≡ Err e).
    no_prologue _ c.steps.inner.depth c.steps.found c.steps.prologue c.steps.tokens c.steps.invariant c.in_ok-operation.field-0 c.operation.new.tokens c.in_ok-operation.ensures
    c.in_ok-expect.field-0 c.expect.new.self (search rules) c.in_ok-expect.ensures e i in
    first_of (search rules, grind (arith, common_steps))

pub returns-then-not-peek_is-2 : goal.returns-then-not-peek_is-2
returns-then-not-peek_is-2 c =
    last _ c.steps.inner.depth c.steps.found c.steps.prologue c.steps.tokens c.steps.invariant c.in_ok-operation.field-0 c.operation.new.tokens c.in_ok-operation.ensures
    c.in_ok-expect.field-0 c.expect.new.self (search rules) c.in_ok-expect.ensures c.in_ok-prologue.prologue c.prologue-in-steps.new.tokens c.in_ok-prologue.ensures (search rules)
    c.push.new.self c.in_ok-push.ensures.ok
    ∙ ap (λ z. Ok (z, c.prologue-in-steps.new.tokens)) (sym c.in_ok-push-2.ensures.ok)

pub returns-then-inner-eq0 : goal.returns-then-inner-eq0
returns-then-inner-eq0 c = λ _.
    deep _ c.steps.inner.depth c.steps.found c.steps.prologue c.steps.tokens c.steps.invariant c.in_ok-operation.field-0 c.operation.new.tokens c.in_ok-operation.ensures
    c.in_ok-expect.field-0 c.expect.new.self (search rules) c.in_ok-expect.ensures c.in_ok-prologue.prologue c.prologue-in-steps.new.tokens c.in_ok-prologue.ensures
    (omega arith) (search rules)

pub steps-preserved : goal.steps-preserved
steps-preserved c =
    goes_on _ c.steps.inner.depth c.steps.found c.steps.prologue c.steps.tokens c.steps.invariant c.in_ok-operation.field-0 c.operation.new.tokens c.in_ok-operation.ensures
    c.in_ok-expect.field-0 c.expect.new.self (search rules) c.in_ok-expect.ensures c.in_ok-prologue.prologue c.prologue-in-steps.new.tokens c.in_ok-prologue.ensures
    (search rules) c.deeper-inner.result.depth (λ none. omega arith) c.deeper-inner.ensures c.push.new.self c.in_ok-push.ensures.ok
