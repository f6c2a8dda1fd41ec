use Rattle.std.proofs.Common.{rules, Some, ap, sym, ◌∙◌, FitsSigned}
use Rattle.std.specs.Int.{w64}
use Rattle.qs_expr_values.proofs.Kept.{ebv_of_boolean, ebv_of_integer, passed}
use Rattle.qs_expr_values.proofs.known_term.KnownTerm.ebv.Goals as goal

pub returns-in-Boolean : goal.returns-in-Boolean
returns-in-Boolean c = rw (← c.self.view_is) (ebv_of_boolean c.self.inside.term.now c.in-Boolean.truth (sym c.in-Boolean.is ∙ c.self.invariant))

pub returns-in-Integer : goal.returns-in-Integer
returns-in-Integer c =
    let h : FitsSigned w64 c.in-Integer.number = search rules in
    ap Some (passed c.is_true.result c.in-Integer.number h c.is_true.ensures)
    ∙ rw (← c.self.view_is) (ebv_of_integer c.self.inside.term.now c.in-Integer.number (sym c.in-Integer.is ∙ c.self.invariant))
