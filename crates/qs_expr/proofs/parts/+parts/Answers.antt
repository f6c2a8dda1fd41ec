use Rattle.std.proofs.Common.{◌&&◌, ◌||◌, sym, ◌∙◌, ap}
use Rattle.std.specs.List.{list_all, list_any}
use Rattle.std.proofs.lemmas.Result.{on_ok_weaker}
use Rattle.qs_expr_meaning.specs.inner.Makes.{makes}
use Rattle.qs_expr_meaning.specs.Meaning.{holds}
use Rattle.qs_expr.specs.inner.Parts.{all_hold, some_make}
use Rattle.qs_expr.proofs.Taken.{all_hold_more, and_holds, and_takes, hold_more, make_more, numbers_more, some_make_more}
use Rattle.qs_expr.proofs.parts.+parts.Goals as goal

pub put_parts-returns-in-And-clause-hold : goal.put_parts-returns-in-And-clause-hold
put_parts-returns-in-And-clause-hold g t c =
    on_ok_weaker c.put_all.result
    (λ h m. h m ∙ ap (λ b. all_hold m c.args.parts.now.items && b) (ap (list_all (holds m)) c.as_slice.ensures ∙ sym (ap (holds m) c.in-And.is ∙ and_holds m c.in-And.conjuncts)))
    c.put_all.ensures.hold

pub put_parts-returns-in-And-clause-make : goal.put_parts-returns-in-And-clause-make
put_parts-returns-in-And-clause-make g t c =
    on_ok_weaker c.put_all.result
    (λ h. h ∙ ap (λ b. some_make c.args.parts.now.items || b) (ap (list_any makes) c.as_slice.ensures ∙ sym (ap makes c.in-And.is ∙ and_takes c.in-And.conjuncts)))
    c.put_all.ensures.make

pub put_parts-returns-in_ok-push-in_default : goal.put_parts-returns-in_ok-push-in_default
put_parts-returns-in_ok-push-in_default g t c =
    let items = c.in_ok-push-in_default.ensures.items in
    record {
      hold = λ m. hold_more m c.args.parts.now.items c.push.new.self.items c.in_ok-part-in_default.part c.args.expr.now items c.in_ok-part-in_default.ensures.asked;
      make = make_more c.args.parts.now.items c.push.new.self.items c.in_ok-part-in_default.part c.args.expr.now items c.in_ok-part-in_default.ensures.asked;
      numbers = numbers_more (g.V.View.content c.args.view.now).known c.args.parts.now.items c.push.new.self.items c.in_ok-part-in_default.part items c.in_ok-part-in_default.ensures.number;
    }

pub put_all-loop-expr-preserved : goal.put_all-loop-expr-preserved
put_all-loop-expr-preserved g t c =
    let i = c.loop-expr.expr-index in
    let es = c.args.exprs.now in
    let e = c.expr-item.result in
    record {
      hold = λ m. all_hold_more m es i e (all_hold m c.args.parts.now.items) (all_hold m c.loop-expr.parts.items) (all_hold m c.put_parts.new.parts.items) c.loop-expr-test.true c.expr-item.is (c.loop-expr.invariant.hold m) (c.in_ok-put_parts.ensures.hold m);
      make = some_make_more es i e (some_make c.args.parts.now.items) (some_make c.loop-expr.parts.items) (some_make c.put_parts.new.parts.items) c.loop-expr-test.true c.expr-item.is c.loop-expr.invariant.make c.in_ok-put_parts.ensures.make;
      numbers = λ n. c.in_ok-put_parts.ensures.numbers (c.loop-expr.invariant.numbers n);
    }
