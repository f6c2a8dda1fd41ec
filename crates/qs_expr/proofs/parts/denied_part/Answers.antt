use Rattle.std.proofs.Common.{true, false, ◌∙◌, ap}
use Rattle.qs_expr_meaning.specs.Meaning.{holds}
use Rattle.qs_expr.proofs.Amongst.{denies_in, denies_not_in, lent}
use Rattle.qs_expr.proofs.parts.denied_part.Goals as goal

pub among_part-requires : goal.among_part-requires
among_part-requires g c m =
    ap (holds m) c.requires ∙ (denies_in m c.in-In.operand c.args.inner.now c.in-In.exprs c.in-In.is ∙ lent true m c.in-In.operand c.get.result.now c.in-In.exprs c.as_slice.result.now c.get.ensures c.as_slice.ensures)

pub among_part-requires-in-NotIn : goal.among_part-requires-in-NotIn
among_part-requires-in-NotIn g c m =
    ap (holds m) c.requires
    ∙ (denies_not_in m c.in-NotIn.operand c.args.inner.now c.in-NotIn.exprs c.in-NotIn.is
    ∙ lent false m c.in-NotIn.operand c.get-in-NotIn.result.now c.in-NotIn.exprs c.as_slice-in-NotIn.result.now c.get-in-NotIn.ensures c.as_slice-in-NotIn.ensures)
