use Rattle.std.proofs.Common.{◌≡◌, ◌+◌, ◌-◌, ◌<◌, ◌≤◌, length, drop, get_or, false, []}
use Rattle.qs_index.specs.inner.Digits.{digits}
use Rattle.qs_index.specs.inner.Layout.{joined, page_at, rest_at}
use Rattle.qs_index.specs.inner.Entry.{is_before, skip_before}
use Rattle.qs_index.proofs.search.first_in_page.Given as goal

abbrev pub decreases-loop-low : goal.decreases-loop-low
decreases-loop-low l = l.high - l.low

abbrev pub invariant-loop-low : goal.invariant-loop-low
invariant-loop-low l = record {
  ordered : l.low ≤ l.high;
  within : l.high < length (page_at l.fn.reader.pages l.page);
  skips : skip_before l.prefix (joined (drop l.page l.fn.reader.pages)) ≡ skip_before l.prefix (rest_at l.fn.reader.pages l.page l.low);
  entry_is : l.bound ≡ get_or (page_at l.fn.reader.pages l.page) l.high [];
  reached : is_before l.bound l.prefix ≡ false;
  looked : l.fn.reader.looked ≤ l.reader.looked;
  few : l.reader.looked + digits (l.high - l.low) ≤ l.fn.reader.looked + digits (l.fn.to.at - l.from);
  same : l.reader.pages ≡ l.fn.reader.pages;
}
