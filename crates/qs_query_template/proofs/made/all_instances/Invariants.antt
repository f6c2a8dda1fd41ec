use Rattle.std.proofs.Common.{◌≡◌, ◌++◌, drop}
use Rattle.qs_query_template.specs.Instances.{instances, next_after}
use Rattle.qs_query_template.specs.inner.Lent.{lent}
use Rattle.qs_query_template.proofs.made.all_instances.Given as goal

abbrev pub invariant-loop-row : goal.invariant-loop-row
invariant-loop-row l = record {
  first : l.first ≡ next_after l.template l.next l.row-index;
  made : l.quads.items ++ instances l.template l.first (lent (drop l.row-index l.rows)) ≡ instances l.template l.next (lent l.rows);
}
