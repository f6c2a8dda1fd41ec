use Rattle.std.proofs.Common.{◌≡◌, ◌<◌, ◌∙◌, ◌++◌, ◌-◌, ℕ, take, drop, length-drop, subst, ap, length, min, arith}
use Rattle.std.proofs.lemmas.List.{take_all}
use Rattle.std.proofs.Math.ListN.{length-set}
use Rattle.qs_expr.specs.inner.Row.{merged_cells}
use Rattle.qs_expr.specs.inner.Compact.{cells_of}
use Rattle.qs_expr.proofs.Compacts.{filled_one, filled_all}
use Rattle.qs_expr.proofs.compact.filled.Goals as goal

pub loop-variable-preserved : goal.loop-variable-preserved
loop-variable-preserved c =
    let lt : c.loop-variable.variable < min (length c.args.cells.items) (length c.args.others.now) = omega (arith, c.min-common.ensures, c.len.ensures, c.args.cells.ok.0) in
    let h : c.loop-variable.variable < length c.loop-variable.cells.items = omega (arith, c.loop-variable.invariant.width) in
    let k : c.loop-variable.variable < length c.args.others.now = omega arith in
    record {
      width = simp length-set c.loop-variable.invariant.width;
      merged = filled_one c.loop-variable.cells.items c.args.others.now _ c.loop-variable.variable c.index.result.now c.first_of.result h k c.index.ensures c.first_of.ensures c.loop-variable.invariant.merged;
    }

pub returns : goal.returns
returns c =
    let e : c.loop-variable.variable ≡ c.min-common.result = omega arith in
    let f : c.loop-variable.variable ≡ min (length c.loop-variable.cells.items) (length c.args.others.now) = omega (arith, c.min-common.ensures, c.len.ensures, c.args.cells.ok.0, c.loop-variable.invariant.width) in
    let o = c.args.others.now in
    let n = c.min-common.result in
    let rest : take (length o - n) (drop n o) ≡ drop n o = take_all (length o - n) (drop n o) (omega (arith, length-drop n o)) in
    ap cells_of (c.in_ok-extend_from_slice.ensures.items ∙ ap (λ l. c.loop-variable.cells.items ++ l) rest)
    ∙ subst (λ (i : ℕ). cells_of (c.loop-variable.cells.items ++ drop i c.args.others.now) ≡ merged_cells (cells_of c.args.cells.items) (cells_of c.args.others.now)) e
    (filled_all c.loop-variable.cells.items c.args.others.now _ c.loop-variable.variable f c.loop-variable.invariant.merged)
