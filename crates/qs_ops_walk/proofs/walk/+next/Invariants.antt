use Rattle.std.proofs.Common.{◌≡◌, ◌≤◌, ◌+◌, ◌*◌, length, map, take}
use Rattle.qs_terms.specs.Bag.{SameBag}
use Rattle.qs_expr.specs.inner.Cell.{row_solution}
use Rattle.qs_expr.specs.inner.Scratch.{Grows}
use Rattle.qs_ops_program.specs.inner.Heights.{stages_height}
use Rattle.qs_ops_walk.specs.inner.Setting.{known_of, through_in}
use Rattle.qs_ops_walk.specs.inner.Works.{code_of, height_of, heights_of}
use Rattle.qs_ops_walk.specs.inner.Coming.{coming}
use Rattle.qs_ops_walk.specs.inner.Moves.{moves, IsWalk}
use Rattle.qs_ops_walk.specs.inner.Cursor.{named_coming}
use Rattle.qs_ops_walk.specs.inner.Gathered.{Gathers}
use Rattle.qs_ops_walk.proofs.walk.+next.Given as goal

abbrev pub invariant-next_of_walk-loop-row : goal.invariant-next_of_walk-loop-row
invariant-next_of_walk-loop-row g l = record {
  grows : Grows (known_of l.reader) l.fn.scratch l.scratch;
  code : code_of l.walk.places.items ≡ code_of l.fn.walk.places.items;
  walk : IsWalk l.reader l.scratch l.walk.places.items l.walk.levels.items;
  rows : SameBag (coming l.reader (code_of l.fn.walk.places.items) l.fn.scratch l.fn.walk.levels.items) (coming l.reader (code_of l.fn.walk.places.items) l.scratch l.walk.levels.items);
}

abbrev pub decreases-next_of_walk-loop-row : goal.decreases-next_of_walk-loop-row
decreases-next_of_walk-loop-row g l = moves l.reader (code_of l.fn.walk.places.items) l.scratch l.walk.levels.items

abbrev pub invariant-rows_of_group-loop-rows : goal.invariant-rows_of_group-loop-rows
invariant-rows_of_group-loop-rows g l = record {
  grows : Grows (known_of l.reader) l.fn.scratch l.scratch;
  walk : IsWalk l.reader l.scratch l.walk.places.items l.walk.levels.items;
  low : heights_of l.walk.places.items ≤ stages_height l.stages;
  gathers : Gathers l.reader (code_of l.walk.places.items) (map (take l.reader.width) (through_in l.reader l.stages (row_solution (known_of l.reader) l.fn.scratch l.fn.row))) l.scratch l.rows.items l.walk.levels.items;
}

abbrev pub decreases-rows_of_group-loop-rows : goal.decreases-rows_of_group-loop-rows
decreases-rows_of_group-loop-rows g l = length (named_coming l.reader (code_of l.walk.places.items) l.scratch l.walk.levels.items)

abbrev pub decreases-rows_of_group : goal.decreases-rows_of_group
decreases-rows_of_group g l = 20 * stages_height l.stages.now + 11

abbrev pub decreases-aside_of : goal.decreases-aside_of
decreases-aside_of g l = 20 * (1 + stages_height l.right.now.group.now.stages) + 1

abbrev pub decreases-keep_few : goal.decreases-keep_few
decreases-keep_few g l = 20 * (1 + stages_height l.right.now.group.now.stages) + 2

abbrev pub decreases-is_fed_next : goal.decreases-is_fed_next
decreases-is_fed_next g l = 20 * (1 + stages_height l.choice.now.right.group.now.stages) + 3

abbrev pub decreases-rows_of_right : goal.decreases-rows_of_right
decreases-rows_of_right g l = 20 * (1 + stages_height l.right.now.group.now.stages) + 2

abbrev pub decreases-rows_of_feed : goal.decreases-rows_of_feed
decreases-rows_of_feed g l = 20 * (1 + stages_height l.group.now.stages) + 2

abbrev pub decreases-open : goal.decreases-open
decreases-open g l = 20 * height_of l.place.now + 4

abbrev pub decreases-open_optional : goal.decreases-open_optional
decreases-open_optional g l = 20 * height_of l.place.now + 4

abbrev pub decreases-open_optional_level : goal.decreases-open_optional_level
decreases-open_optional_level g l = 20 * heights_of l.walk.now.places.items + 5

abbrev pub decreases-open_other_level : goal.decreases-open_other_level
decreases-open_other_level g l = 20 * heights_of l.walk.now.places.items + 5

abbrev pub decreases-open_level : goal.decreases-open_level
decreases-open_level g l = 20 * heights_of l.walk.now.places.items + 6

abbrev pub decreases-advance : goal.decreases-advance
decreases-advance g l = 20 * heights_of l.walk.now.places.items + 7

abbrev pub decreases-next_of_walk : goal.decreases-next_of_walk
decreases-next_of_walk g l = 20 * heights_of l.walk.now.places.items + 8

abbrev pub decreases-next_row : goal.decreases-next_row
decreases-next_row g l = 20 * heights_of l.walk.now.places.items + 9

abbrev pub decreases-next_named : goal.decreases-next_named
decreases-next_named g l = 20 * heights_of l.walk.now.places.items + 10
