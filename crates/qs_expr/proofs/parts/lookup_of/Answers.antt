use Rattle.std.proofs.Common.{true, false, ◌∙◌, ap}
use Rattle.qs_expr_meaning.specs.Meaning.{holds}
use Rattle.qs_expr.proofs.Amongst.{holds_in, holds_not_in, lent}
use Rattle.qs_expr.proofs.parts.lookup_of.Goals as goal

pub among_part-requires : goal.among_part-requires
among_part-requires g c m =
    ap (holds m) c.in-In.is ∙ (holds_in m c.in-In.operand c.in-In.exprs ∙ lent false m c.in-In.operand c.get.result.now c.in-In.exprs c.as_slice.result.now c.get.ensures c.as_slice.ensures)

pub among_part-requires-in-NotIn : goal.among_part-requires-in-NotIn
among_part-requires-in-NotIn g c m =
    ap (holds m) c.in-NotIn.is
    ∙ (holds_not_in m c.in-NotIn.operand c.in-NotIn.exprs
    ∙ lent true m c.in-NotIn.operand c.get-in-NotIn.result.now c.in-NotIn.exprs c.as_slice-in-NotIn.result.now c.get-in-NotIn.ensures c.as_slice-in-NotIn.ensures)
