use Rattle.std.proofs.Common.{◌≡◌, ◌∙◌, length, sym}
use Rattle.std.proofs.lemmas.Bool.{eqb-true}
use Rattle.std.proofs.lemmas.List.{nil_from_length}
use Rattle.std.proofs.lemmas.Result.{IfOk-weaker}
use Rattle.qs_query_forms.proofs.AnyOrder.{rest_ordered, rest_unordered}
use Rattle.qs_query_forms.proofs.answer.solutions_to_construct.Goals as goal

pub returns-then-is_empty : goal.returns-then-is_empty
returns-then-is_empty g c =
    let none : length c.as_slice-conditions.result.now ≡ 0 = eqb-true (length c.as_slice-conditions.result.now) 0 (sym c.is_empty.ensures ∙ c.if-is_empty.true) in
    IfOk-weaker c.solutions_after.result _ _
    (λ rows h. rest_unordered c.args.asked.now c.args.max_rows rows.items _ c.enough_for_slice-most.result (sym c.as_slice-conditions.ensures ∙ nil_from_length c.as_slice-conditions.result.now none) h (rw c.as_slice-conditions.ensures at c.enough_for_slice-most.ensures))
    c.solutions_after.ensures

pub returns : goal.returns
returns g c =
    IfOk-weaker c.ordered_solutions.result _ _
    (λ rows h. rest_ordered c.args.asked.now c.args.max_rows rows.items _ c.needed_count.result c.enough_for_slice-most.result (rw c.as_slice-conditions.ensures at h) c.needed_count.ensures (rw c.as_slice-conditions.ensures at c.enough_for_slice-most.ensures))
    c.ordered_solutions.ensures
