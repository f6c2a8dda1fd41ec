use Rattle.std.proofs.Common.{◌≡◌, ◌++◌, ◌+◌, ◌-◌, ◌<◌, ◌≤◌, length, take}
use Rattle.qs_index.specs.inner.Entry.{run_of}
use Rattle.qs_index.specs.inner.Layout.{page_at, rest_at}
use Rattle.qs_index.proofs.order.copy.Given as goal

abbrev pub invariant-loop-page : goal.invariant-loop-page
invariant-loop-page l = record {
  at_in : l.page < length l.pages.pages → l.at ≤ length (page_at l.pages.pages l.page);
  done : take l.count l.batch ++ run_of l.prefix (rest_at l.pages.pages l.page l.at) ≡ run_of l.prefix (rest_at l.pages.pages l.fn.from.page l.fn.from.at);
  within : l.count ≤ length l.batch;
  long : length l.batch ≡ length l.fn.batch;
  looks : l.looked ≤ l.count + l.page;
}

abbrev pub decreases-loop-page : goal.decreases-loop-page
decreases-loop-page l = length l.pages.pages - l.page
