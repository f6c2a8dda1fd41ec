use Rattle.std.proofs.Common.{◌≡◌, length}
use Rattle.qs_ops_walk.specs.inner.Alike.{SkipsAlike}
use Rattle.qs_ops_walk.proofs.alike.end_alike.Given as goal

abbrev pub invariant-levels : goal.invariant-levels
invariant-levels l = record {
  places : l.walk.places ≡ l.fn.walk.places;
  skips : SkipsAlike l.width l.fn.walk.places.items l.columns l.row l.fn.walk.levels.items l.walk.levels.items;
}

abbrev pub decreases-levels : goal.decreases-levels
decreases-levels l = length l.walk.levels.items
