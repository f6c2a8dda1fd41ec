use Rattle.std.proofs.Common.{List, subst}
use Rattle.qs_ops_walk.specs.declared.source.Level.{Level}
use Rattle.qs_ops_walk.specs.inner.Alike.{IsLastAlike}
use Rattle.qs_ops_walk.proofs.AlikeRows.{front_left, skips_more}
use Rattle.qs_ops_walk.proofs.alike.end_alike.Goals as goal

pub levels-preserved : goal.levels-preserved
levels-preserved c =
    let ls : List Level = c.levels.walk.levels.items in
    let last : IsLastAlike c.args.width c.args.columns.now c.args.row.now ls = subst (λ (l : List Level). IsLastAlike c.args.width c.args.columns.now c.args.row.now l) c.as_slice.ensures.value (c.is_last_alike.ensures c.levels-test.true) in
    record {
      places = c.levels.invariant.places;
      skips =
          skips_more c.args.width c.args.walk.now.places.items c.args.columns.now c.args.row.now c.args.walk.now.levels.items ls c.end_last.new.levels.items c.requires last
          (front_left ls last.others c.end_last.new.levels.items last.level c.levels.walk.levels.len last.are c.levels.walk.levels.ok.0 c.end_last.ensures) c.levels.invariant.skips;
    }
