use Rattle.std.proofs.Common.{rules, ◌+◌, Some, map, refl, ap, sym, subst, ◌∙◌, FitsSigned}
use Rattle.std.specs.Int.{w128}
use Rattle.std.proofs.lemmas.Int.{to_z-of_z}
use Rattle.qs_expr_meaning.specs.inner.Comes.{Errs}
use Rattle.qs_expr_meaning.specs.inner.Makes.{makes, addend_makes, some}
use Rattle.qs_expr_meaning.specs.inner.SoFar.{sum_from, product_from}
use Rattle.qs_expr_meaning.proofs.Steps.{sum_more, sum_error, product_more, product_error}
use Rattle.std.specs.Prelude.{string_bytes}
use Rattle.qs_expr_values.specs.inner.Value.{term_of}
use Rattle.qs_expr_values.specs.Values.{equal}
use Rattle.qs_expr_meaning.specs.inner.Joined.{tag_seen}
use Rattle.qs_expr_meaning.specs.Truth.{any, every}
use Rattle.qs_expr_meaning.specs.Meaning.{meaning, number, truth, among}
use Rattle.qs_expr_meaning.specs.Calls.{of_both}
use Rattle.qs_expr_meaning.proofs.Chains.{part_wants, either_false, either_errs, both_true, both_errs, concat_end, concat_more, concat_error}
use Rattle.qs_expr_meaning.proofs.evaluate.+value.Goals.{is_any-in-Ok-false, is_any-in-Err-TypeError, is_every-in-Ok-true, is_every-in-Err-TypeError, is_among-in-Ok-false, is_among-in-Err-TypeError}
use Rattle.qs_expr_meaning.proofs.Arms.{in_none, not_in_none, in_error, not_in_error, sum_error_first, product_error_first, as_parts}
use Rattle.qs_expr_meaning.proofs.evaluate.+value.Goals as goal

pub with_addends-loop-addend-preserved : goal.with_addends-loop-addend-preserved
with_addends-loop-addend-preserved g t c =
    let fits : FitsSigned w128 c.in-Ok.more = search rules in
    sum_more (g.B.Bindings.solution c.args.bindings.now) c.args.more.now c.loop-addend.addend-index c.addend-item.result _ _ c.in-Ok.more c.loop-addend-test.true c.addend-item.is c.loop-addend.invariant c.in-Ok.ensures
    ∙ ap (λ z. sum_from (g.B.Bindings.solution c.args.bindings.now) (Some z) c.args.more.now (c.loop-addend.addend-index + 1)) (sym (to_z-of_z w128 c.in-Ok.more fits))

pub with_factors-loop-part-preserved : goal.with_factors-loop-part-preserved
with_factors-loop-part-preserved g t c =
    let fits : FitsSigned w128 c.in-Ok.more = search rules in
    product_more (g.B.Bindings.solution c.args.bindings.now) c.args.more.now c.loop-part.part-index c.part-item.result _ _ c.in-Ok.more c.loop-part-test.true c.part-item.is c.loop-part.invariant c.in-Ok.ensures
    ∙ ap (λ z. product_from (g.B.Bindings.solution c.args.bindings.now) (Some z) c.args.more.now (c.loop-part.part-index + 1)) (sym (to_z-of_z w128 c.in-Ok.more fits))

pub with_addends-returns-in-Err : goal.with_addends-returns-in-Err
with_addends-returns-in-Err g t c =
    subst (λ z. Errs (some (map addend_makes c.args.more.now)) (sum_from (g.B.Bindings.solution c.args.bindings.now) (Some z) c.args.more.now 0) c.in-Err.fault) (to_z-of_z w128 c.args.first c.ranges.first)
    (sum_error (g.B.Bindings.solution c.args.bindings.now) c.args.more.now c.loop-addend.addend-index c.addend-item.result _ _ c.in-Err.fault c.loop-addend-test.true c.addend-item.is c.loop-addend.invariant c.in-Err.ensures)

pub with_factors-returns-in-Err : goal.with_factors-returns-in-Err
with_factors-returns-in-Err g t c =
    subst (λ z. Errs (some (map makes c.args.more.now)) (product_from (g.B.Bindings.solution c.args.bindings.now) (Some z) c.args.more.now 0) c.in-Err.fault) (to_z-of_z w128 c.args.first c.ranges.first)
    (product_error (g.B.Bindings.solution c.args.bindings.now) c.args.more.now c.loop-part.part-index c.part-item.result _ _ c.in-Err.fault c.loop-part-test.true c.part-item.is c.loop-part.invariant c.in-Err.ensures)

pub composed-returns-then-is_empty : goal.composed-returns-then-is_empty
composed-returns-then-is_empty g t c =
    in_none (g.B.Bindings.solution c.args.bindings.now) c.args.expr.now c.in-In.inner c.in-In.parts c.in-In.is
    (as_parts c.as_slice-in-In.result.now c.in-In.parts c.is_empty.result _ c.as_slice-in-In.ensures c.is_empty.ensures c.if-is_empty.true)

pub composed-returns-then-is_empty-2 : goal.composed-returns-then-is_empty-2
composed-returns-then-is_empty-2 g t c =
    not_in_none (g.B.Bindings.solution c.args.bindings.now) c.args.expr.now c.in-NotIn.inner c.in-NotIn.parts c.in-NotIn.is
    (as_parts c.as_slice-in-NotIn.result.now c.in-NotIn.parts c.is_empty-in-NotIn.result _ c.as_slice-in-NotIn.ensures c.is_empty-in-NotIn.ensures c.if-is_empty-2.true)

pub composed-returns-in-Err : goal.composed-returns-in-Err
composed-returns-in-Err g t c =
    in_error (g.B.Bindings.solution c.args.bindings.now) c.args.expr.now c.in-In.inner c.in-In.parts c.in-Err.fault c.in-In.is
    (as_parts c.as_slice-in-In.result.now c.in-In.parts c.is_empty.result _ c.as_slice-in-In.ensures c.is_empty.ensures c.if-is_empty.false)
    (subst (λ x. Errs (makes x) (meaning (g.B.Bindings.solution c.args.bindings.now) x) c.in-Err.fault) c.get-in-In.ensures c.in-Err.ensures)

pub composed-returns-in-Err-value : goal.composed-returns-in-Err-value
composed-returns-in-Err-value g t c =
    not_in_error (g.B.Bindings.solution c.args.bindings.now) c.args.expr.now c.in-NotIn.inner c.in-NotIn.parts c.in-Err-value.fault c.in-NotIn.is
    (as_parts c.as_slice-in-NotIn.result.now c.in-NotIn.parts c.is_empty-in-NotIn.result _ c.as_slice-in-NotIn.ensures c.is_empty-in-NotIn.ensures c.if-is_empty-2.false)
    (subst (λ x. Errs (makes x) (meaning (g.B.Bindings.solution c.args.bindings.now) x) c.in-Err-value.fault) c.get-in-NotIn.ensures c.in-Err-value.ensures)

pub composed-returns-in-Err-integer : goal.composed-returns-in-Err-integer
composed-returns-in-Err-integer g t c =
    sum_error_first (g.B.Bindings.solution c.args.bindings.now) c.args.expr.now c.in-Sum.first c.in-Sum.more c.in-Err-integer.fault c.in-Sum.is
    (subst (λ x. Errs (makes x) (number (meaning (g.B.Bindings.solution c.args.bindings.now) x)) c.in-Err-integer.fault) c.get-in-Sum.ensures c.in-Err-integer.ensures)

pub composed-returns-in-Err-integer-2 : goal.composed-returns-in-Err-integer-2
composed-returns-in-Err-integer-2 g t c =
    product_error_first (g.B.Bindings.solution c.args.bindings.now) c.args.expr.now c.in-Product.first c.in-Product.more c.in-Err-integer-2.fault c.in-Product.is
    (subst (λ x. Errs (makes x) (number (meaning (g.B.Bindings.solution c.args.bindings.now) x)) c.in-Err-integer-2.fault) c.get-in-Product.ensures c.in-Err-integer-2.ensures)

pub is_any-returns-in-Err-Memory : goal.is_any-returns-in-Err-Memory
is_any-returns-in-Err-Memory g t c =
    part_wants c.args.parts.now c.loop-disjunct.disjunct-index c.disjunct-item.result _ c.in-Err-Memory.field-0 c.loop-disjunct-test.true c.disjunct-item.is c.in-Err-Memory.field-0-is c.in-Err-Memory.ensures

pub is_every-returns-in-Err-Memory : goal.is_every-returns-in-Err-Memory
is_every-returns-in-Err-Memory g t c =
    part_wants c.args.parts.now c.loop-conjunct.conjunct-index c.conjunct-item.result _ c.in-Err-Memory.field-0 c.loop-conjunct-test.true c.conjunct-item.is c.in-Err-Memory.field-0-is c.in-Err-Memory.ensures

pub is_among-returns-in-Err-Memory : goal.is_among-returns-in-Err-Memory
is_among-returns-in-Err-Memory g t c =
    part_wants c.args.parts.now c.loop-member.member-index c.member-item.result _ c.in-Err-Memory.field-0 c.loop-member-test.true c.member-item.is c.in-Err-Memory.field-0-is c.in-Err-Memory.ensures

pub first_of-returns-in-Err-Memory : goal.first_of-returns-in-Err-Memory
first_of-returns-in-Err-Memory g t c =
    part_wants c.args.parts.now c.loop-part.part-index c.part-item.result _ c.in-Err-Memory.field-0 c.loop-part-test.true c.part-item.is c.in-Err-Memory.field-0-is c.in-Err-Memory.ensures

pub is_any-loop-disjunct-preserved : goal.is_any-loop-disjunct-preserved
is_any-loop-disjunct-preserved g t c =
    let m = g.B.Bindings.solution c.args.bindings.now in
    elim c.match-truth.branch [
      | is_any-in-Ok-false w ↦ either_false (λ ps. any (map truth (map (meaning m) ps))) c.args.parts.now c.loop-disjunct.disjunct-index c.disjunct-item.result (truth (meaning m c.disjunct-item.result)) c.loop-disjunct.errs c.match-truth.errs (λ rest. refl) c.loop-disjunct-test.true c.disjunct-item.is c.loop-disjunct.invariant w.in-Ok-false.field-0 w.in-Ok-false.field-0-test w.in-Ok-false.ensures w.errs-is
      | is_any-in-Err-TypeError w ↦ either_errs (λ ps. any (map truth (map (meaning m) ps))) c.args.parts.now c.loop-disjunct.disjunct-index c.disjunct-item.result (truth (meaning m c.disjunct-item.result)) c.loop-disjunct.errs c.match-truth.errs (λ rest. refl) c.loop-disjunct-test.true c.disjunct-item.is c.loop-disjunct.invariant (makes c.disjunct-item.result) w.in-Err-TypeError.field-0 w.in-Err-TypeError.field-0-is w.in-Err-TypeError.ensures w.errs-is
    ]

pub is_every-loop-conjunct-preserved : goal.is_every-loop-conjunct-preserved
is_every-loop-conjunct-preserved g t c =
    let m = g.B.Bindings.solution c.args.bindings.now in
    elim c.match-truth.branch [
      | is_every-in-Ok-true w ↦ both_true (λ ps. every (map truth (map (meaning m) ps))) c.args.parts.now c.loop-conjunct.conjunct-index c.conjunct-item.result (truth (meaning m c.conjunct-item.result)) c.loop-conjunct.fails c.match-truth.fails (λ rest. refl) c.loop-conjunct-test.true c.conjunct-item.is c.loop-conjunct.invariant w.in-Ok-true.field-0 w.in-Ok-true.field-0-test w.in-Ok-true.ensures w.fails-is
      | is_every-in-Err-TypeError w ↦ both_errs (λ ps. every (map truth (map (meaning m) ps))) c.args.parts.now c.loop-conjunct.conjunct-index c.conjunct-item.result (truth (meaning m c.conjunct-item.result)) c.loop-conjunct.fails c.match-truth.fails (λ rest. refl) c.loop-conjunct-test.true c.conjunct-item.is c.loop-conjunct.invariant (makes c.conjunct-item.result) w.in-Err-TypeError.field-0 w.in-Err-TypeError.field-0-is w.in-Err-TypeError.ensures w.fails-is
    ]

pub is_among-loop-member-preserved : goal.is_among-loop-member-preserved
is_among-loop-member-preserved g t c =
    let m = g.B.Bindings.solution c.args.bindings.now in
    elim c.match-is_equal.branch [
      | is_among-in-Ok-false w ↦ either_false (λ ps. among (Some (term_of c.args.x.now)) (map (meaning m) ps)) c.args.parts.now c.loop-member.member-index c.member-item.result (of_both equal (Some (term_of c.args.x.now)) (meaning m c.member-item.result)) c.loop-member.unknown c.match-is_equal.unknown (λ rest. refl) c.loop-member-test.true c.member-item.is c.loop-member.invariant w.in-Ok-false.field-0 w.in-Ok-false.field-0-test w.in-Ok-false.ensures w.unknown-is
      | is_among-in-Err-TypeError w ↦ either_errs (λ ps. among (Some (term_of c.args.x.now)) (map (meaning m) ps)) c.args.parts.now c.loop-member.member-index c.member-item.result (of_both equal (Some (term_of c.args.x.now)) (meaning m c.member-item.result)) c.loop-member.unknown c.match-is_equal.unknown (λ rest. refl) c.loop-member-test.true c.member-item.is c.loop-member.invariant (makes c.member-item.result) w.in-Err-TypeError.field-0 w.in-Err-TypeError.field-0-is w.in-Err-TypeError.ensures w.unknown-is
    ]

pub concatenation-returns : goal.concatenation-returns
concatenation-returns g t c =
    concat_end (g.B.Bindings.solution c.args.bindings.now) c.args.parts.now c.loop-part.part-index (string_bytes c.loop-part.form, tag_seen c.loop-part.tag) c.loop-part.invariant _ c.loop-part-test.false c.finish.ensures

pub concatenation-returns-in-Err : goal.concatenation-returns-in-Err
concatenation-returns-in-Err g t c =
    concat_error (g.B.Bindings.solution c.args.bindings.now) c.args.parts.now c.loop-part.part-index (string_bytes c.loop-part.form, tag_seen c.loop-part.tag) c.loop-part.invariant c.part-item.result c.in-Err.fault c.loop-part-test.true c.part-item.is c.in-Err.ensures

pub concatenation-loop-part-preserved : goal.concatenation-loop-part-preserved
concatenation-loop-part-preserved g t c =
    concat_more (g.B.Bindings.solution c.args.bindings.now) c.args.parts.now c.loop-part.part-index (string_bytes c.loop-part.form, tag_seen c.loop-part.tag) c.loop-part.invariant c.part-item.result (string_bytes c.add_string.new.form, tag_seen (Some c.in-Ok.next)) c.loop-part-test.true c.part-item.is c.in-Ok.ensures
