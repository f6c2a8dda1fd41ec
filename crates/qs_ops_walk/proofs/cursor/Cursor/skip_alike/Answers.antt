use Rattle.std.proofs.Common.{◌≡◌, false, sym, ◌∙◌, ap, subst}
use Rattle.qs_ops_walk.specs.inner.Cursor.{rows_left}
use Rattle.qs_ops_walk.specs.inner.Alike.{SkipsAlike}
use Rattle.qs_ops_walk.specs.inner.Stream.{PassesAlike}
use Rattle.qs_expr.specs.inner.Cell.{row_solution}
use Rattle.qs_ops_walk.specs.declared.cursor.Cursor.TheInside.{Inside}
use Rattle.qs_ops_walk.proofs.AlikeRows.{op_passes}
use Rattle.qs_ops_walk.proofs.cursor.Cursor.skip_alike.Goals as goal

pub returns-clause-rows : goal.returns-clause-rows
returns-clause-rows g c =
    let i = c.self.inside in
    let columns = c.args.columns.now in
    let m = c.args.row.now in
    let x = c.args.self.now in
    let new = c.skip_alike.new.walk in
    let b = c.self-inside-2.view_is in
    let unfailed : i.failed ≡ false = sym (ap (λ (j : Inside g.row.V.Denot). j.failed) c.self-inside.view_is) ∙ c.if-self.false in
    let places : new.places ≡ i.walk.places = subst (λ (j : Inside g.row.V.Denot). new.places ≡ j.walk.places) b c.skip_alike.ensures.places in
    let skips : SkipsAlike i.reader.width i.walk.places.items columns m i.walk.levels.items new.levels.items =
    subst (λ (j : Inside g.row.V.Denot). SkipsAlike j.reader.width j.walk.places.items columns m j.walk.levels.items new.levels.items) b c.skip_alike.ensures.skips in
    subst (λ (j : Inside g.row.V.Denot). PassesAlike columns (row_solution x.known x.table m) x.rows (rows_left j.failed j.reader j.scratch new.places.items new.levels.items)) (sym b)
    (op_passes x i.failed i.reader i.scratch i.walk.places.items new.places.items columns m i.walk.levels.items new.levels.items c.self.view_is unfailed c.self.invariant (ap (λ v. v.items) places) skips c.requires)
