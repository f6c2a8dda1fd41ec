use Rattle.std.proofs.Common.{◌≡◌, ◌∷◌, ◌++◌, map, slice_get, rules, arith, sym, ap, ◌∙◌}
use Rattle.std.specs.List.{flat_map}
use Rattle.qs_syntax_tree.specs.declared.expression.Expression.{the_lemmas}
use Rattle.qs_syntax_limits.specs.Large as spec
use Rattle.qs_syntax_limits.specs.inner.Parts.{first, operand, addend, call}
use Rattle.qs_syntax_limits.proofs.Rows.{nothing, both, three, each_at_end, row_at_end, gathered_at_end, of_more}
use Rattle.qs_syntax_limits.proofs.Trees.{bound_rows, if_rows, binary_rows, compare_rows, var_rows, iri_rows, literal_rows, in_rows, not_in_rows, sum_rows}
use Rattle.qs_syntax_limits.proofs.expression.+expression.Goals as goal

pub in_call-returns-in-Bound : goal.in_call-returns-in-Bound
in_call-returns-in-Bound t c = nothing (call c.args.call.now) (ap call c.in-Bound.is ∙ bound_rows c.in-Bound.field-0)

pub in_call-returns-in-If : goal.in_call-returns-in-If
in_call-returns-in-If t c =
    let e = ap call c.in-If.is ∙ if_rows c.in-If.test c.in-If.a c.in-If.b in
    let h = three (call c.args.call.now) (spec.expression c.in-If.test) (spec.expression c.in-If.a) (spec.expression c.in-If.b) e in
    first_of (search (rules, h), grind (arith, h))

pub in_call-returns-in-Binary : goal.in_call-returns-in-Binary
in_call-returns-in-Binary t c =
    let e = ap call c.in-Binary.is ∙ binary_rows c.in-Binary.field-0 c.in-Binary.a c.in-Binary.b in
    let h = both (call c.args.call.now) (spec.expression c.in-Binary.a) (spec.expression c.in-Binary.b) e in
    first_of (search (rules, h), grind (arith, h))

pub in_expression-returns-in-Compare : goal.in_expression-returns-in-Compare
in_expression-returns-in-Compare t c =
    let e = ap spec.expression c.in-Compare.is ∙ compare_rows c.in-Compare.field-0 c.in-Compare.a c.in-Compare.b in
    let h = both (spec.expression c.args.tree.now) (spec.expression c.in-Compare.a) (spec.expression c.in-Compare.b) e in
    first_of (search (rules, h), grind (arith, h))

pub in_expression-returns-in-In : goal.in_expression-returns-in-In
in_expression-returns-in-In t c =
    let e : spec.expression c.args.tree.now ≡ spec.expression c.in-In.a ++ flat_map (λ rows. rows) (map spec.expression c.in-In.list) =
    first_of (search (rules, the_lemmas), grind (arith, in_rows, not_in_rows)) in
    let h = both (spec.expression c.args.tree.now) (spec.expression c.in-In.a) (flat_map (λ rows. rows) (map spec.expression c.in-In.list)) e in
    first_of (search (rules, h), grind (arith, h))

pub in_expression-returns-in-Sum : goal.in_expression-returns-in-Sum
in_expression-returns-in-Sum t c =
    let e = ap spec.expression c.in-Sum.is ∙ sum_rows c.in-Sum.start c.in-Sum.rest in
    let h = of_more addend (operand c.in-Sum.start) c.in-Sum.rest ∙ sym (ap spec.excess e) in
    first_of (search (rules, h), grind (arith, h))

pub in_expression-returns-in-Var : goal.in_expression-returns-in-Var
in_expression-returns-in-Var t c = nothing (spec.expression c.args.tree.now) (first_of (search (rules, the_lemmas), grind (arith, var_rows, iri_rows, literal_rows)))

pub in_expression-returns-in-Var-2 : goal.in_expression-returns-in-Var-2
in_expression-returns-in-Var-2 t c = nothing (spec.expression c.args.tree.now) (first_of (search (rules, the_lemmas), grind (arith, var_rows, iri_rows, literal_rows)))

pub in_expression-returns-in-Var-3 : goal.in_expression-returns-in-Var-3
in_expression-returns-in-Var-3 t c = nothing (spec.expression c.args.tree.now) (first_of (search (rules, the_lemmas), grind (arith, var_rows, iri_rows, literal_rows)))

pub in_expressions-returns : goal.in_expressions-returns
in_expressions-returns t c = each_at_end spec.expression c.loop-tree.found c.args.all.now c.loop-tree.tree-index c.loop-tree-test.false c.loop-tree.invariant

pub in_operands-returns : goal.in_operands-returns
in_operands-returns t c = row_at_end operand c.loop-operand.found c.args.all.now c.loop-operand.operand-index c.loop-operand-test.false c.loop-operand.invariant

pub in_sum-loop-addend-init : goal.in_sum-loop-addend-init
in_sum-loop-addend-init t c = rw (← c.excess_behind.ensures c.args.start) c.first-found.ensures

pub in_sum-returns : goal.in_sum-returns
in_sum-returns t c =
    gathered_at_end (λ x. (addend x).rows) (first (slice_get (c.args.start ∷ map (λ x. (addend x).place) c.args.rest.now) spec.limit) c.args.within)
    c.loop-addend.found c.args.rest.now c.loop-addend.addend-index c.loop-addend-test.false c.loop-addend.invariant
