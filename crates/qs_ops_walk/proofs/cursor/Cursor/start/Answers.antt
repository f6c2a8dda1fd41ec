use Rattle.qs_ops_walk.specs.inner.Setting.{Setting}
use Rattle.qs_ops_walk.specs.inner.Works.{code_of}
use Rattle.qs_ops_walk.proofs.Cursors.{starts_rows}
use Rattle.qs_ops_walk.proofs.cursor.Cursor.start.Goals as goal

pub invariant_of-result : goal.invariant_of-result
invariant_of-result g c = record {
  each_once = c.new-scratch.ensures.table;
  walk = c.in_ok-walk.ensures.walk c.new-scratch.result (c.in_ok-row.ensures.fits (g.V.View.content c.args.view.now).known c.new-scratch.result);
}

pub returns-clause-rows : goal.returns-clause-rows
returns-clause-rows g c =
    let s : Setting = record { width = c.args.width; content = g.V.View.content c.args.view.now; default = g.V.View.default_seen c.args.view.now; active = c.args.active } in
    starts_rows s c.new-scratch.result (code_of c.in_ok-walk.walk.places.items) c.in_ok-walk.walk.levels.items c.args.stages.now c.in_ok-row.row c.args.cells
    (c.in_ok-walk.ensures.rows c.new-scratch.result) (c.in_ok-row.ensures.terms (g.V.View.content c.args.view.now).known c.new-scratch.result)
