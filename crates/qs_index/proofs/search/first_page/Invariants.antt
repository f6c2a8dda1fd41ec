use Rattle.std.proofs.Common.{◌≡◌, ◌+◌, ◌-◌, ◌<◌, ◌≤◌, length, drop}
use Rattle.qs_index.specs.inner.Digits.{digits}
use Rattle.qs_index.specs.inner.Layout.{joined, page_at}
use Rattle.qs_index.specs.inner.Entry.{skip_before}
use Rattle.qs_index.specs.inner.PagePosition.{IsReached}
use Rattle.qs_index.proofs.search.first_page.Given as goal

abbrev pub decreases-loop-low : goal.decreases-loop-low
decreases-loop-low l = l.high - l.low

abbrev pub invariant-loop-low : goal.invariant-loop-low
invariant-loop-low l = record {
  ordered : l.low ≤ l.high;
  within : l.high ≤ length l.fn.reader.pages;
  skips : skip_before l.prefix (joined l.fn.reader.pages) ≡ skip_before l.prefix (joined (drop l.low l.fn.reader.pages));
  reached : l.high < length l.fn.reader.pages → IsReached l.prefix l.fn.reader.pages l.high (length (page_at l.fn.reader.pages l.high) - 1) l.bound;
  looked : l.high < length l.fn.reader.pages → l.fn.reader.looked + 1 ≤ l.reader.looked;
  rising : l.fn.reader.looked ≤ l.reader.looked;
  few : l.reader.looked + digits (l.high - l.low) ≤ l.fn.reader.looked + digits (length l.fn.reader.pages);
  same : l.reader.pages ≡ l.fn.reader.pages;
}
