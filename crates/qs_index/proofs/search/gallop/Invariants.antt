use Rattle.std.proofs.Common.{◌≡◌, ◌+◌, ◌-◌, ◌<◌, ◌≤◌, drop}
use Rattle.qs_index.specs.inner.Digits.{digits}
use Rattle.qs_index.specs.inner.Layout.{joined, rest_at}
use Rattle.qs_index.specs.inner.Entry.{skip_before}
use Rattle.qs_index.proofs.search.gallop.Given as goal

abbrev pub decreases-loop-low : goal.decreases-loop-low
decreases-loop-low l = l.fn.last.at - l.low

abbrev pub invariant-loop-low : goal.invariant-loop-low
invariant-loop-low l = record {
  ordered : l.low ≤ l.fn.last.at;
  some : 0 < l.step;
  grown : l.low + 1 ≡ l.from + l.step;
  skips : skip_before l.prefix (joined (drop l.page l.fn.reader.pages)) ≡ skip_before l.prefix (rest_at l.fn.reader.pages l.page l.low);
  looked : l.fn.reader.looked ≤ l.reader.looked;
  few : l.reader.looked + 1 ≤ l.fn.reader.looked + digits l.step;
  same : l.reader.pages ≡ l.fn.reader.pages;
}
