use Rattle.std.proofs.Common.{Option, Some, None, sym, ap, subst, ◌∙◌, refl}
use Rattle.qs_expr.specs.inner.Cell.{denoted_if, FitsIf}
use Rattle.qs_expr.specs.declared.cell.Cell.{Cell}
use Rattle.qs_ops_walk.specs.inner.Setting.{Setting, known_of}
use Rattle.qs_ops_walk.specs.inner.Moves.{bound_named}
use Rattle.qs_ops_walk.proofs.Passes.{bind_passes}
use Rattle.qs_ops_walk.proofs.settle.pass_bind.Goals as goal

pub returns-in-Some-clause-passed : goal.returns-in-Some-clause-passed
returns-in-Some-clause-passed g c =
    bind_passes c.args.reader.now c.args.scratch.now c.value.new.scratch c.value.ensures.grows c.args.row.now c.bind.new.row c.args.variable c.args.expr.now (Some c.in-Some.cell) c.requires.row
    (ap (denoted_if (known_of c.args.reader.now) c.value.new.scratch) (sym c.in-Some.is) ∙ c.in_ok-cell.ensures.value)
    (subst (λ (x : Option Cell). FitsIf (known_of c.args.reader.now) c.value.new.scratch x) c.in-Some.is c.in_ok-cell.ensures.fits)
    (c.bind.ensures ∙ ap (λ (u : Setting). bound_named u.width c.args.variable c.in-Some.cell c.args.row.now) c.reader.view_is)

pub returns-in_default-clause-passed : goal.returns-in_default-clause-passed
returns-in_default-clause-passed g c =
    bind_passes c.args.reader.now c.args.scratch.now c.value.new.scratch c.value.ensures.grows c.args.row.now c.args.row.now c.args.variable c.args.expr.now None c.requires.row
    (ap (denoted_if (known_of c.args.reader.now) c.value.new.scratch) (sym c.in_default.is) ∙ c.in_ok-cell.ensures.value)
    (subst (λ (x : Option Cell). FitsIf (known_of c.args.reader.now) c.value.new.scratch x) c.in_default.is c.in_ok-cell.ensures.fits)
    refl
