use Rattle.std.proofs.Common.{◌≡◌, ◌-◌, ◌<◌, refl, length, arith, ap, ◌∙◌, sym, subst}
use Rattle.qs_index.specs.inner.Layout.{page_at}
use Rattle.qs_index.specs.inner.Entry.{skip_before}
use Rattle.qs_index.specs.inner.PagePosition.{IsReached}
use Rattle.qs_index.proofs.DigitLaws.{digits-le}
use Rattle.qs_index.proofs.Looks.{page_looks, entry_looks}
use Rattle.qs_index.proofs.Places.{rest_end}
use Rattle.qs_index.proofs.search.find.Goals as goal

pub first_page-page-requires-clause-countable : goal.first_page-page-requires-clause-countable
first_page-page-requires-clause-countable c =
    let a = page_looks c.args.reader.now.pages c.len-held.ensures.sizes in omega (arith, c.requires.countable)

pub returns-then-page-held-clause-none : goal.returns-then-page-held-clause-none
returns-then-page-held-clause-none c =
    c.first_page-page.ensures.skips ∙ ap (skip_before c.args.prefix.now) (rest_end c.args.reader.now.pages c.first_page-page.result.at 0 (omega (arith, c.if-page-held.true, c.len-held.ensures.len)))

pub returns-then-page-held-clause-counted : goal.returns-then-page-held-clause-counted
returns-then-page-held-clause-counted c =
    let a = page_looks c.args.reader.now.pages c.len-held.ensures.sizes in omega (arith, c.first_page-page.ensures.counted)

pub first_in_page-bound-requires : goal.first_in_page-bound-requires
first_in_page-bound-requires c =
    let pages = c.args.reader.now.pages in
    let page = c.first_page-page.result.at in
    let a = page_looks pages c.len-held.ensures.sizes in
    let within : page < length pages = omega (arith, c.first_page-page.ensures.within, c.if-page-held.false, c.len-held.ensures.len) in
    let b = entry_looks pages page within in
    let len : c.page_len-at.result ≡ length (page_at pages page) = c.page_len-at.ensures.len ∙ ap (λ r. length (page_at r page)) c.first_page-page.ensures.pages in
    let part = digits-le (c.page_len-at.result - 1 - 0) (length (page_at pages page)) (omega (arith, len)) in
    rw c.first_page-page.ensures.pages record {
      ascending = c.requires.ascending;
      page_in = within;
      ordered = omega arith;
      passed = refl;
      reached = subst (λ k. IsReached c.args.prefix.now pages page (k - 1) c.first_page-page.result.entry) (sym len) (c.first_page-page.ensures.reached within);
      countable = omega (arith, c.first_page-page.ensures.counted, c.requires.countable);
    }

pub returns-clause-some : goal.returns-clause-some
returns-clause-some c =
    let within : c.first_page-page.result.at < length c.args.reader.now.pages = omega (arith, c.first_page-page.ensures.within, c.if-page-held.false, c.len-held.ensures.len) in
    let f = rw c.first_page-page.ensures.pages at c.first_in_page-bound.ensures in
    record {
      page_in = within;
      at_in = f.within;
      before = sym (c.first_page-page.ensures.skips ∙ f.skips);
      entry_is = f.entry;
    }

pub returns-clause-looked : goal.returns-clause-looked
returns-clause-looked c =
    let within : c.first_page-page.result.at < length c.args.reader.now.pages = omega (arith, c.first_page-page.ensures.within, c.if-page-held.false, c.len-held.ensures.len) in
    omega (arith, c.first_page-page.ensures.looked within, c.first_in_page-bound.ensures.looked)

pub returns-clause-counted : goal.returns-clause-counted
returns-clause-counted c =
    let pages = c.args.reader.now.pages in
    let page = c.first_page-page.result.at in
    let a = page_looks pages c.len-held.ensures.sizes in
    let within : page < length pages = omega (arith, c.first_page-page.ensures.within, c.if-page-held.false, c.len-held.ensures.len) in
    let b = entry_looks pages page within in
    let len : c.page_len-at.result ≡ length (page_at pages page) = c.page_len-at.ensures.len ∙ ap (λ r. length (page_at r page)) c.first_page-page.ensures.pages in
    let part = digits-le (c.page_len-at.result - 1 - 0) (length (page_at pages page)) (omega (arith, len)) in
    omega (arith, c.first_page-page.ensures.counted, c.first_in_page-bound.ensures.counted)
