use Rattle.std.proofs.Common.{◌≡◌, ◌+◌, ◌-◌, [], length, get_or, arith, ap, sym, ◌∙◌}
use Rattle.qs_index.specs.inner.Entry.{is_before, skip_before}
use Rattle.qs_index.specs.inner.Layout.{page_at}
use Rattle.qs_index.proofs.Looks.{entry_looks}
use Rattle.qs_index.proofs.Places.{rest_end, skip_page, skip_in_page, skip_to_page}
use Rattle.qs_index.proofs.search.find_after.Goals as goal

pub returns-then-page-held-clause-none : goal.returns-then-page-held-clause-none
returns-then-page-held-clause-none c =
    let p = c.args.prefix.now in
    let pages = c.args.reader.now.pages in
    let m = c.args.from.page in
    let read : c.look-entry.result ≡ get_or (page_at pages m) (length (page_at pages m) - 1) [] = c.look-entry.ensures.entry ∙ ap (λ k. get_or (page_at pages m) (k - 1) []) c.page_len-end.ensures.len in
    skip_page p pages 0 m c.len-held.ensures.sizes c.requires.ascending c.requires.page (ap (λ r. is_before r p) (sym read) ∙ sym c.is_after.ensures ∙ c.if-is_after.true)
    ∙ ap (skip_before p) (rest_end pages (m + 1) 0 (omega (arith, c.if-page-held.true, c.len-held.ensures.len)))

pub gallop-part-requires-clause-passed : goal.gallop-part-requires-clause-passed
gallop-part-requires-clause-passed c =
    rw c.look-entry.ensures.pages (skip_in_page c.args.prefix.now c.args.reader.now.pages c.args.from.page c.args.from.at c.requires.ascending c.requires.page c.requires.at c.requires.passed)

pub gallop-part-requires-clause-countable : goal.gallop-part-requires-clause-countable
gallop-part-requires-clause-countable c =
    let b = entry_looks c.args.reader.now.pages c.args.from.page c.requires.page in
    rw c.look-entry.ensures.pages (omega (arith, c.look-entry.ensures.counted, c.requires.countable))

pub first_in_page-bound-requires-clause-countable : goal.first_in_page-bound-requires-clause-countable
first_in_page-bound-requires-clause-countable c =
    let b = entry_looks c.args.reader.now.pages c.args.from.page c.requires.page in
    let g = rw c.look-entry.ensures.pages at c.gallop-part.ensures.counted in
    omega (arith, g, c.look-entry.ensures.counted, c.requires.countable)

pub returns-clause-some : goal.returns-clause-some
returns-clause-some c =
    let pages = c.gallop-part.ensures.pages ∙ c.look-entry.ensures.pages in
    let f = rw pages at c.first_in_page-bound.ensures in
    record {
      page_in = c.requires.page;
      at_in = f.within;
      before = sym (skip_to_page c.args.prefix.now c.args.reader.now.pages c.args.from.page c.args.from.at c.requires.ascending c.requires.page c.requires.at c.requires.passed ∙ f.skips);
      entry_is = f.entry;
    }

pub returns-clause-counted : goal.returns-clause-counted
returns-clause-counted c =
    let b = entry_looks c.args.reader.now.pages c.args.from.page c.requires.page in
    let g = rw c.look-entry.ensures.pages at c.gallop-part.ensures.counted in
    omega (arith, g, c.look-entry.ensures.counted, c.first_in_page-bound.ensures.counted)
