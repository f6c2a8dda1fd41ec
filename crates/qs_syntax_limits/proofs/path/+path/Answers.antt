use Rattle.std.proofs.Common.{◌≡◌, ℕ, List, map, slice_get, rules, arith, ap, ◌∙◌}
use Rattle.qs_syntax_limits.specs.Large as spec
use Rattle.qs_syntax_tree.specs.declared.path.NegatedPredicate.{NegatedPredicate}
use Rattle.qs_syntax_limits.specs.inner.Parts.{path_operand}
use Rattle.qs_syntax_limits.proofs.Rows.{nothing, one_row, row_at_end}
use Rattle.qs_syntax_limits.proofs.Trees.{predicate_rows, set_rows}
use Rattle.qs_syntax_limits.proofs.path.+path.Goals as goal

pub in_path-returns-in-Predicate : goal.in_path-returns-in-Predicate
in_path-returns-in-Predicate t c = nothing (spec.path c.args.tree.now) (ap spec.path c.in-Predicate.is ∙ predicate_rows c.in-Predicate.field-0)

pub in_path-returns-in-NegatedSet : goal.in_path-returns-in-NegatedSet
in_path-returns-in-NegatedSet t c =
    let places : List ℕ = map (λ (m : NegatedPredicate). m.place) c.in-NegatedSet.members in
    let h : c.excess.result ≡ slice_get places spec.limit = first_of (search rules, grind arith) in
    h ∙ one_row (spec.path c.args.tree.now) places (ap spec.path c.in-NegatedSet.is ∙ set_rows c.in-NegatedSet.members)

pub in_operands-returns : goal.in_operands-returns
in_operands-returns t c = row_at_end path_operand c.loop-operand.found c.args.all.now c.loop-operand.operand-index c.loop-operand-test.false c.loop-operand.invariant
