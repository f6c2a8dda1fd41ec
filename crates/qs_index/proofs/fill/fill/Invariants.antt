use Rattle.std.proofs.Common.{◌-◌, length}
use Rattle.qs_index.proofs.Filled.{Filling}
use Rattle.qs_index.proofs.fill.fill.Given as goal

abbrev pub invariant-loop-read : goal.invariant-loop-read
invariant-loop-read l = record {
  filling : Filling l.entries l.fn.pages.spare l.read l.count l.last l.pages.pages l.pages.spare;
}

abbrev pub decreases-loop-read : goal.decreases-loop-read
decreases-loop-read l = length l.entries - l.read
