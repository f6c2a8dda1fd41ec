use Rattle.std.proofs.Common.{◌∙◌, ap, subst}
use Rattle.qs_expr.specs.inner.Evaluated.{Evaluates}
use Rattle.qs_ops_walk.specs.inner.Stream.{Stream}
use Rattle.qs_ops_walk.proofs.Cursors.{still_op, still_left}
use Rattle.qs_ops_walk.proofs.cursor.Cursor.eval.Goals as goal

pub invariant_of-self : goal.invariant_of-self
invariant_of-self g c =
    still_op c.self.inside.reader c.self.inside.scratch c.eval.new.scratch c.eval.ensures.grows c.self.inside.walk.places.items c.self.inside.walk.levels.items c.self.inside.failed c.self.invariant

pub returns-clause-value : goal.returns-clause-value
returns-clause-value g c = subst (λ (x : Stream). Evaluates x.known x.table c.eval.new.scratch c.args.row.now c.args.expr.now c.eval.result) c.self.view_is c.eval.ensures.value

pub returns-clause-rows : goal.returns-clause-rows
returns-clause-rows g c =
    still_left c.self.inside.reader c.self.inside.scratch c.eval.new.scratch c.eval.ensures.grows c.self.inside.walk.places.items c.self.inside.walk.levels.items c.self.inside.failed c.self.invariant
    ∙ ap (λ (x : Stream). x.rows) c.self.view_is
